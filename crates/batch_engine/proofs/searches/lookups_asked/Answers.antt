use Rattle.std.proofs.Common.{◌++◌, ◌∷◌, [], ap, ◌∙◌, take}
use Rattle.request_kinds.specs.Metadata.{lookups_of}
use Rattle.batch_engine.specs.Searches.{asked_of}
use Rattle.batch_engine.proofs.Searching.{more_asked}
use Rattle.batch_engine.proofs.searches.lookups_asked.Goals as goal

pub loop-one-preserved : goal.loop-one-preserved
loop-one-preserved c =
    let searched = c.args.searched.now in
    let at = c.loop-one.one-index in
    c.in_ok-push.ensures.items
    ∙ ap (λ before. before ++ c.in_ok-lookup_of.field-0 ∷ []) c.loop-one.invariant
    ∙ ap (λ lookup. lookups_of (asked_of (take at searched)) ++ lookup ∷ []) c.in_ok-lookup_of.ensures
    ∙ more_asked searched at c.one-item.result c.loop-one-test.true c.one-item.is
