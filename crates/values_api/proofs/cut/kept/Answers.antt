use Rattle.std.proofs.Common.{sym, ◌∙◌, arith}
use Rattle.values_api.proofs.Ending.{last_empty, last_filled}
use Rattle.values_api.proofs.cut.kept.Goals as goal

pub loop-kept-preserved : goal.loop-kept-preserved
loop-kept-preserved g c =
    let some = c.loop-kept-test.true in
    let few = c.loop-kept.invariant.0 in
    let one = last_empty g.T.MayBeEmpty.empty c.args.things.now c.loop-kept.kept c.index-things-kept.result some few
    c.index-things-kept.is (sym c.is_empty.ensures ∙ c.if-is_empty.true) in
    (omega arith, omega arith)

pub returns-else-is_empty : goal.returns-else-is_empty
returns-else-is_empty g c =
    let none = last_filled g.T.MayBeEmpty.empty c.args.things.now c.loop-kept.kept c.index-things-kept.result
    c.loop-kept-test.true c.loop-kept.invariant.0 c.index-things-kept.is
    (sym c.is_empty.ensures ∙ c.if-is_empty.false) in
    omega arith
