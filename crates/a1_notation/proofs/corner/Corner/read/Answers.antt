use Rattle.std.proofs.Common.{rules}
use Rattle.a1_notation.proofs.Corners.{row_corner, column_corner, cell_corner, no_row_corner, no_cell_corner}
use Rattle.a1_notation.proofs.corner.Corner.read.Goals as goal

pub returns-in_err-read_row-clause-none : goal.returns-in_err-read_row-clause-none
returns-in_err-read_row-clause-none c =
    rw c.from_residual.ensures
    (no_row_corner c.args.text.now c.split.result.0.now c.split.result.1.now c.split.ensures.whole c.split.ensures.run
    (search rules) c.in_err-read_row.ensures.none)

pub returns-then-is_empty-clause-corner : goal.returns-then-is_empty-clause-corner
returns-then-is_empty-clause-corner c =
    row_corner c.args.text.now c.split.result.0.now c.split.result.1.now c.split.ensures.whole c.split.ensures.run
    c.in_ok-read_row.field-0
    (search rules) c.in_ok-read_row.ensures.row

pub capped_column-column-requires-clause-letters : goal.capped_column-column-requires-clause-letters
capped_column-column-requires-clause-letters c =
    rw c.as_bytes.ensures.value c.split.ensures.run.all

pub returns-then-is_empty-2-clause-corner : goal.returns-then-is_empty-2-clause-corner
returns-then-is_empty-2-clause-corner c =
    column_corner c.args.text.now c.split.result.0.now c.split.result.1.now c.split.ensures.whole c.split.ensures.run
    c.capped_column-column.result
    (search rules) (search rules) (rw c.as_bytes.ensures.value at c.capped_column-column.ensures)

pub returns-in_err-read_row-2-clause-none : goal.returns-in_err-read_row-2-clause-none
returns-in_err-read_row-2-clause-none c =
    rw c.from_residual-in_err-read_row-2.ensures
    (no_cell_corner c.args.text.now c.split.result.0.now c.split.result.1.now c.split.ensures.whole
    c.split.ensures.run (search rules) c.in_err-read_row-2.ensures.none)

pub returns-clause-corner : goal.returns-clause-corner
returns-clause-corner c =
    cell_corner c.args.text.now c.split.result.0.now c.split.result.1.now c.split.ensures.whole c.split.ensures.run
    c.in_ok-read_row-2.field-0 c.capped_column-column.result
    (search rules) c.in_ok-read_row-2.ensures.row (rw c.as_bytes.ensures.value at c.capped_column-column.ensures)
