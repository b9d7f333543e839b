use Rattle.std.proofs.Common.{sym}
use Rattle.std.proofs.lemmas.List.{take_all}
use Rattle.std.proofs.lemmas.List.Elements.{All-more, All-same}
use Rattle.grid_range.specs.Area.{IsWithinOn}
use Rattle.list_tests.proofs.protections.ranges_within.Goals as goal

pub loop-range-preserved : goal.loop-range-preserved
loop-range-preserved c =
    All-more (IsWithinOn c.args.sheet c.args.axis c.args.count) _ _ _ c.loop-range-test.true
    c.loop-range.invariant (c.is_within.ensures c.if-not-is_within.false)

pub returns : goal.returns
returns c =
    λ _. All-same (IsWithinOn c.args.sheet c.args.axis c.args.count) _ _
    (sym (take_all _ _ c.loop-range-test.false)) c.loop-range.invariant
