use Rattle.std.proofs.Common.{◌≡◌, take}
use Rattle.dev_metadata.proofs.by_id.ById.copy.Given as goal

abbrev pub invariant-loop-at : goal.invariant-loop-at
invariant-loop-at l = l.copy ≡ take l.at l.self
