use Rattle.std.proofs.Common.{sym, subst, ◌∙◌, arith}
use Rattle.std.specs.FinMap as map
use Rattle.cell_store.specs.Table.{empty_table}
use Rattle.shared_grid.specs.Sheets.{sheet_of, IsSheet}
use Rattle.shared_grid.proofs.Written.{empty_sheet, none_on_lines}
use Rattle.shared_grid.proofs.grid.SharedGrid.new.Goals as goal

pub invariant_of-result : goal.invariant_of-result
invariant_of-result g c =
    subst (IsSheet c.in_ok-held_rows.held_rows c.in_ok-held_columns.held_columns) (sym c.in_ok-cells.ensures)
    (subst (λ rows. IsSheet rows c.in_ok-held_columns.held_columns map.empty) (sym c.in_ok-held_rows.ensures)
    (subst (λ columns. IsSheet c.in_ok-row_order.row_order columns map.empty) (sym c.in_ok-held_columns.ensures)
    (record {
      rows_are = c.in_ok-row_order.ensures.order;
      columns_are = c.in_ok-column_order.ensures.order;
      lines = none_on_lines c.in_ok-row_order.row_order c.in_ok-column_order.column_order;
      size = omega (arith, c.in_ok-row_order.ensures.count, c.in_ok-column_order.ensures.count, c.requires);
    })))

pub returns-clause-empty : goal.returns-clause-empty
returns-clause-empty g c =
    (λ i. sheet_of (c.in_ok-held_rows.ensures i) (c.in_ok-held_columns.ensures i) (c.in_ok-cells.ensures i))
    ∙ empty_sheet c.tables_by_items.ensures c.in_ok-row_order.row_order c.in_ok-column_order.column_order
    c.in_ok-row_order.ensures.order c.in_ok-column_order.ensures.order
    ∙ (λ i. empty_table (c.in_ok-row_order.ensures.count i) (c.in_ok-column_order.ensures.count i))
