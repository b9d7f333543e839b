use Rattle.std.proofs.Common.{All, take}
use Rattle.grid_range.specs.Area.{IsWithinOn}
use Rattle.list_tests.proofs.protections.ranges_within.Given as goal

abbrev pub invariant-loop-range : goal.invariant-loop-range
invariant-loop-range l = All (IsWithinOn l.sheet l.axis l.count) (take l.range-index l.ranges)
