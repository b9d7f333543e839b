use Rattle.std.proofs.Common.{All, take}
use Rattle.named_ranges.specs.Following.{IsRangeWithinOn}
use Rattle.list_tests.proofs.names.are_within.Given as goal

abbrev pub invariant-loop-at : goal.invariant-loop-at
invariant-loop-at l = All (IsRangeWithinOn l.sheet l.axis l.count) (take l.at l.names)
