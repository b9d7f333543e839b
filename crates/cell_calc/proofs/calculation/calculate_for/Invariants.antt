use Rattle.std.proofs.Common.{take}
use Rattle.cell_calc.specs.Marks.{marks_of}
use Rattle.cell_calc.specs.Calculated.{Calculated}
use Rattle.cell_calc.proofs.calculation.calculate_for.Given as goal

abbrev pub invariant-loop-area : goal.invariant-loop-area
invariant-loop-area g l = Calculated (g.C.CellsOf.contents l.cells) (take l.area-index l.areas) (marks_of l.table)
