use Rattle.std.proofs.Common.{take}
use Rattle.sheet_engine.specs.Dump.{Grows, calls_on}
use Rattle.sheet_engine.proofs.dump.push_book.Given as goal

-- so far the lines of the look and of the sheets before this one are there
abbrev pub invariant-loop-at : goal.invariant-loop-at
invariant-loop-at l = Grows l.fn.world (calls_on l.fn.book (take l.at l.fn.book.sheets)) l.fn.text l.text
