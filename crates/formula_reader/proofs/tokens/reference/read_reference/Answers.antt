use Rattle.std.proofs.Common.{subst}
use Rattle.a1_notation.specs.Room.{HasRoom}
use Rattle.formula_reader.specs.declared.tokens.corner.MarkedCorner.{MarkedCorner}
use Rattle.formula_reader.specs.Corner.{unmarked}
use Rattle.formula_reader.proofs.References.{no_first, two_corners, no_part, one_cell_read, corner_room}
use Rattle.formula_reader.proofs.tokens.reference.read_reference.Goals as goal

pub returns-in_err-one : goal.returns-in_err-one
returns-in_err-one c = rw c.from_residual.ensures (no_first c.args.text.now c.in_err-one.ensures)

pub read_second-requires : goal.read_second-requires
read_second-requires c =
    corner_room c.a1_laws.ensures c.in_ok-one.ensures.found.lexeme c.in_ok-one.one
    c.in_ok-one.ensures.found.is.corner_is

pub written_cell-requires-clause-row : goal.written_cell-requires-clause-row
written_cell-requires-clause-row c =
    (subst (λ (one : MarkedCorner). HasRoom (unmarked one)) c.in-Cell.is
    (corner_room c.a1_laws.ensures c.in_ok-one.ensures.found.lexeme c.in_ok-one.one
    c.in_ok-one.ensures.found.is.corner_is)).0

pub written_cell-requires-clause-column : goal.written_cell-requires-clause-column
written_cell-requires-clause-column c =
    (subst (λ (one : MarkedCorner). HasRoom (unmarked one)) c.in-Cell.is
    (corner_room c.a1_laws.ensures c.in_ok-one.ensures.found.lexeme c.in_ok-one.one
    c.in_ok-one.ensures.found.is.corner_is)).1

pub returns-in-Some : goal.returns-in-Some
returns-in-Some c =
    two_corners c.args.text.now c.in_ok-one.one c.in_ok-one.behind.now c.in_ok-one.ensures _ _ c.in-Some.ensures

pub returns-in-Cell : goal.returns-in-Cell
returns-in-Cell c =
    one_cell_read c.args.text.now c.in_ok-one.one c.in_ok-one.behind.now c.in_ok-one.ensures
    c.in-Cell.row c.in-Cell.column c.written_cell.result c.in-Cell.is c.in-None.ensures c.written_cell.ensures

pub returns-in-Column : goal.returns-in-Column
returns-in-Column c =
    no_part c.args.text.now c.in_ok-one.one c.in_ok-one.behind.now c.in_ok-one.ensures c.in-None.ensures
    (λ row column is. (let column_is = c.in-Column.is in cc))

pub returns-in-Row : goal.returns-in-Row
returns-in-Row c =
    no_part c.args.text.now c.in_ok-one.one c.in_ok-one.behind.now c.in_ok-one.ensures c.in-None.ensures
    (λ row column is. (let row_is = c.in-Row.is in cc))
