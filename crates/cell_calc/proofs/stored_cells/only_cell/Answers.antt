use Rattle.cell_calc.proofs.OneCell.{is_one_cell}
use Rattle.cell_calc.proofs.stored_cells.only_cell.Goals as goal

pub returns : goal.returns
returns g =
    is_one_cell g.args.area.now g.in_ok-only_line.field-0 g.in_ok-only_line-2.field-0
    ((g.only_line.ensures g.in_ok-only_line.field-0).0 g.in_ok-only_line.was)
    ((g.only_line-2.ensures g.in_ok-only_line-2.field-0).0 g.in_ok-only_line-2.was)
