use Rattle.std.proofs.Common.{take}
use Rattle.cell_calc.specs.Marks.{marks_of}
use Rattle.cell_calc.specs.Walk.{AreAreasSettled}
use Rattle.cell_calc.proofs.walk.are_settled.Given as goal

abbrev pub invariant-loop-area : goal.invariant-loop-area
invariant-loop-area g l = AreAreasSettled (g.C.CellsOf.contents l.cells) (marks_of l.table) (take l.area-index l.areas)
