use Rattle.std.proofs.Common.{[], take}
use Rattle.sheet_engine.specs.Dump.{Grows, dump_calls}
use Rattle.sheet_engine.proofs.dump.dump.Given as goal

-- so far the lines of the spreadsheets before this one are there
abbrev pub invariant-loop-at : goal.invariant-loop-at
invariant-loop-at l = Grows l.fn.world (dump_calls (take l.at l.fn.world)) [] l.text
