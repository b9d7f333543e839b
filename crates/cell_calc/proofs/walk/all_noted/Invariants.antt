use Rattle.std.proofs.Common.{take}
use Rattle.cell_calc.specs.Marks.{marks_of}
use Rattle.cell_calc.specs.Walk.{Notes}
use Rattle.cell_calc.proofs.walk.all_noted.Given as goal

abbrev pub invariant-loop-cell : goal.invariant-loop-cell
invariant-loop-cell l = Notes (marks_of l.table) l.sheet l.cells (take l.cell-index l.cells) l.noted.items
