use Rattle.formula_reader.proofs.Corners.{no_corner, row_corner, column_corner, cell_corner}
use Rattle.formula_reader.proofs.tokens.corner.MarkedCorner.read.Goals as goal

pub returns-in_err-row-in-None : goal.returns-in_err-row-in-None
returns-in_err-row-in-None c =
    rw c.from_residual.ensures (no_corner c.args.text.now c.in-None.ensures c.in_err-row-in-None.ensures)

pub returns-in_ok-row-in-None : goal.returns-in_ok-row-in-None
returns-in_ok-row-in-None c =
    rw c.standing.ensures
    (row_corner c.args.text.now c.in_ok-row-in-None.row c.in_ok-row-in-None.rest.now c.in-None.ensures
    c.in_ok-row-in-None.ensures)

pub returns-in-None-read_row : goal.returns-in-None-read_row
returns-in-None-read_row c =
    rw c.standing-in-None-read_row.ensures
    (column_corner c.args.text.now c.in-Some.column c.in-Some.behind.now c.in-Some.ensures c.in-None-read_row.ensures)

pub returns-in-Some-read_row : goal.returns-in-Some-read_row
returns-in-Some-read_row c =
    rw c.standing-in-Some-read_row.ensures
    (cell_corner c.args.text.now c.in-Some-read_row.row c.in-Some.column c.in-Some.behind.now
    c.in-Some-read_row.rest.now
    c.in-Some.ensures c.in-Some-read_row.ensures)
