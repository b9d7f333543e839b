use Rattle.std.proofs.Common.{arith}
use Rattle.link_store.proofs.Starting.{empty_grid, empty_items}
use Rattle.link_store.proofs.cells.Cells.new.Goals as goal

pub returns-clause-grid : goal.returns-clause-grid
returns-clause-grid g c =
    let rows = c.in_ok-new.ensures in
    let columns = c.in_ok-new-2.ensures in
    empty_grid (record { rows = c.in_ok-new.field-0; columns = c.in_ok-new-2.field-0; filled = 0 }) rows.lines
    columns.lines rows.empty columns.empty
    (omega (arith, rows.count, columns.count, c.requires)) rows.none columns.none

pub returns-clause-empty : goal.returns-clause-empty
returns-clause-empty g c =
    let rows = c.in_ok-new.ensures in
    let columns = c.in_ok-new-2.ensures in
    empty_items (record { rows = c.in_ok-new.field-0; columns = c.in_ok-new-2.field-0; filled = 0 }) rows.lines
    columns.lines rows.empty columns.empty
    (omega (arith, rows.count, columns.count, c.requires)) rows.none columns.none
