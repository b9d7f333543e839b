use Rattle.std.proofs.Common.{◌≡◌, take}
use Rattle.named_ranges.proofs.list.NamesDuplicate.duplicate.Given as goal

abbrev pub invariant-loop-at : goal.invariant-loop-at
invariant-loop-at l = l.copy ≡ take l.at l.self
