use Rattle.cell_calc.specs.Marks.{marks_of}
use Rattle.cell_calc.proofs.Noting.{no_area_settled}
use Rattle.cell_calc.proofs.walk.are_settled.Goals as goal

pub loop-area-init : goal.loop-area-init
loop-area-init g c = no_area_settled (g.C.CellsOf.contents c.args.cells.now) (marks_of c.args.table.now)
