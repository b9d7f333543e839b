use Rattle.batch_engine.specs.Calls.{IsRequested}
use Rattle.batch_engine.proofs.InTurns.{DoneTo}
use Rattle.batch_engine.proofs.batch.all_requested.Given as goal

-- so far the requests before this one are done
abbrev pub invariant-loop-at : goal.invariant-loop-at
invariant-loop-at l = DoneTo (IsRequested l.user l.project) l.requests l.fn.book l.at l.replies.items l.book
