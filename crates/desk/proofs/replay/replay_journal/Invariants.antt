use Rattle.std.proofs.Common.{◌≡◌, ◌++◌, length}
use Rattle.desk.specs.Journal.{journal_text}
use Rattle.desk.specs.Histories.{AreAccepted}
use Rattle.desk.proofs.replay.replay_journal.Given as goal

abbrev pub invariant-loop-entry : goal.invariant-loop-entry
invariant-loop-entry g l = record {
  parts : l.bytes ≡ journal_text l.replay ++ l.rest;
  accepted : AreAccepted g.E.Engine.plain l.replay;
}

abbrev pub decreases-loop-entry : goal.decreases-loop-entry
decreases-loop-entry g l = length l.rest
