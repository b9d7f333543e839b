use Rattle.std.proofs.Common.{◌++◌, ◌∷◌, [], ap, ◌∙◌, ℕ, subst, sym}
use Rattle.std.specs.List.Sorted.{IsNonDecreasingBy}
use Rattle.batch_engine.specs.Searches.{filters_met}
use Rattle.batch_engine.specs.declared.searches.Searched.{Searched}
use Rattle.batch_engine.proofs.Searching.{more_met}
use Rattle.batch_engine.proofs.searches.filters_met.Goals as goal

pub put_met-requires : goal.put_met-requires
put_met-requires c =
    subst (λ (one : Searched). IsNonDecreasingBy (λ (id : ℕ). id) one.ids) (sym c.one-item.is)
    (c.requires c.loop-one.one-index c.one-item.result c.loop-one-test.true)

pub loop-one-preserved : goal.loop-one-preserved
loop-one-preserved c =
    let one = c.one-item.result in
    c.in_ok-put_met.ensures
    ∙ ap (λ before. before ++ filters_met c.args.id (one ∷ [])) c.loop-one.invariant
    ∙ more_met c.args.id c.args.searched.now c.loop-one.one-index one c.loop-one-test.true c.one-item.is
