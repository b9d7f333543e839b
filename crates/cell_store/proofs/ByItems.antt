-- A sheet is its size and its items.
use Rattle.std.proofs.Common.{ap, ◌∙◌, cond}
use Rattle.std.specs.Prelude.{None, Some}
use Rattle.std.specs.FinMap as map
use Rattle.std.proofs.lemmas.Cmp.{eq_by_cmp_equiv}
use Rattle.grid_range.specs.Area.{by_rows}
use Rattle.grid_range.specs.ByRows.{by_rows_total}
use Rattle.cell_store.specs.Table.{item_at}
use Rattle.cell_store.specs.Laws.{TablesByItems}
use Rattle.cell_store.proofs.Cells.{get-cells, same_cells, len-cells}

pub tables_are : (T : Type 0) → TablesByItems T
tables_are T = record {
  same = λ one other rows cols items i. record {
    rows = rows i;
    cols = cols i;
    cells = same_cells one.cells other.cells (λ place. items place.0 place.1) i;
  };
  entries = λ rows cols entries row col. get-cells entries (row, col);
  filled = λ rows cols entries apart. len-cells entries apart;
  empty = λ rows cols row col. map.get-empty by_rows (row, col);
  put = λ table place item row col.
      map.get-insert by_rows_total table.cells place item (row, col)
      ∙ ap (λ b. cond b (Some item) (item_at table row col)) ((eq_by_cmp_equiv by_rows_total).symm (row, col) place);
  taken = λ table place row col.
      map.get-remove by_rows_total table.cells place (row, col)
      ∙ ap (λ b. cond b None (item_at table row col)) ((eq_by_cmp_equiv by_rows_total).symm (row, col) place);
}
