use Rattle.std.proofs.Common.{take}
use Rattle.cell_calc.specs.Marks.{marks_of}
use Rattle.cell_calc.specs.Calculated.{SettlesAll}
use Rattle.cell_calc.proofs.calculation.settle_all.Given as goal

abbrev pub invariant-loop-cell : goal.invariant-loop-cell
invariant-loop-cell g l =
    SettlesAll (g.C.CellsOf.contents l.cells) l.sheet (take l.cell-index l.stored) (marks_of l.initial.table)
    (marks_of l.table)
