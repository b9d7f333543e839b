use Rattle.batch_engine.specs.Values.{IsCleared}
use Rattle.batch_engine.proofs.InTurns.{DoneTo}
use Rattle.batch_engine.proofs.lists.all_cleared.Given as goal

-- so far the ranges before this one are cleared
abbrev pub invariant-loop-at : goal.invariant-loop-at
invariant-loop-at l = DoneTo (IsCleared l.user) l.ranges l.fn.book l.at l.cleared.items l.book
