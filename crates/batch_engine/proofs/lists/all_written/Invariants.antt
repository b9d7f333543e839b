use Rattle.batch_engine.specs.Values.{IsUpdated}
use Rattle.batch_engine.proofs.InTurns.{DoneTo}
use Rattle.batch_engine.proofs.lists.all_written.Given as goal

-- so far the values before this one are written
abbrev pub invariant-loop-at : goal.invariant-loop-at
invariant-loop-at l = DoneTo (IsUpdated l.user) l.blocks l.fn.book l.at l.writes.items l.book
