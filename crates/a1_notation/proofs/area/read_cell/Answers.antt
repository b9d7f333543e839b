use Rattle.a1_notation.proofs.Areas.{capped_room, cell_answer, no_corner_no_cell}
use Rattle.a1_notation.proofs.area.read_cell.Goals as goal

pub returns-in_err-corner-clause-none : goal.returns-in_err-corner-clause-none
returns-in_err-corner-clause-none c =
    rw c.from_residual.ensures (no_corner_no_cell c.args.text.now c.in_err-corner.ensures.none)

pub area_between-requires-clause-one : goal.area_between-requires-clause-one
area_between-requires-clause-one c = capped_room c.args.text.now c.in_ok-corner.corner c.in_ok-corner.ensures.corner

pub area_between-requires-clause-other : goal.area_between-requires-clause-other
area_between-requires-clause-other c = capped_room c.args.text.now c.in_ok-corner.corner c.in_ok-corner.ensures.corner

pub returns-in-Cell-clause-area : goal.returns-in-Cell-clause-area
returns-in-Cell-clause-area c =
    cell_answer c.args.text.now c.in-Cell.field-0 c.in-Cell.field-1 c.area_between.result
    (rw c.in-Cell.is at c.in_ok-corner.ensures.corner) (rw c.in-Cell.is at c.area_between.ensures)
