use Rattle.std.proofs.Common.{subst, sym}
use Rattle.cell_calc.specs.Marks.{marks_of}
use Rattle.cell_calc.specs.Walk.{IsAreaSettled}
use Rattle.cell_calc.proofs.walk.is_area_settled.Goals as goal

pub returns-in-Some : goal.returns-in-Some
returns-in-Some g c = λ is.
    subst (IsAreaSettled (g.C.CellsOf.contents c.args.cells.now) (marks_of c.args.table.now)) (sym c.in-Some.ensures)
    (c.is_place_settled.ensures is)
