-- What a sheet that is seen by callers has, by the items that stand for it.
use Rattle.std.proofs.Common.{◌≡◌, ℕ, ◌<◌, sym, ap, subst, ◌∙◌}
use Rattle.std.specs.Prelude.{Result, Ok, Err, OnOk, None}
use Rattle.std.specs.Option.{IsSome}
use Rattle.std.specs.Ordering.{nat_cmp}
use Rattle.std.specs.FinMap as map
use Rattle.cell_store.specs.Table.{item_at, filled_places, HasItemsInside, with_item, without_item}
use Rattle.cell_store.specs.Laws.{TablesByItems}
use Rattle.shared_grid.specs.Orders.{LineOrder}
use Rattle.cell_store.specs.Kept.{KeptTable}
use Rattle.shared_grid.specs.Sheets.{key_at, sheet_of, numbered_table, IsSheet}
use Rattle.shared_grid.proofs.Placed.{item-place, inside, none_outside, filled}
use Rattle.shared_grid.proofs.Written.{put_on_lines, taken_on_lines, put_sheet, taken_sheet, none_taken}

-- what follows on success
pub on_ok : {A E P Q : Type 0} (follows : P → Q) (r : Result A E) → OnOk r P → OnOk r Q
on_ok follows (Ok value) p = follows p
on_ok follows (Err error) p = tt

-- what holds in any case holds on success
pub always : {A E P : Type 0} (r : Result A E) → P → OnOk r P
always (Ok value) p = p
always (Err error) p = tt

module _ {X : Type 0} (laws : TablesByItems X) (rows columns : LineOrder) (items : map.FinMap nat_cmp X)
    (is : IsSheet rows columns items) (sheet : KeptTable X) (view : numbered_table rows columns items ≡ sheet) where
  pub item-view : (row col : ℕ) → row < rows.count → col < columns.count
      → map.get items (key_at rows columns row col) ≡ item_at sheet.table row col
  item-view row col row_there col_there =
      sym (item-place laws rows columns is.rows_are is.columns_are items is.lines row col row_there col_there)
      ∙ ap (λ s. item_at s.table row col) view

  pub none-view : (row col : ℕ) → ((row < rows.count) × (col < columns.count) → ⊥) → None ≡ item_at sheet.table row col
  none-view row col out =
      sym (none_outside laws rows columns is.rows_are is.columns_are items is.lines row col out)
      ∙ ap (λ s. item_at s.table row col) view

  pub inside-view : HasItemsInside sheet.table
  inside-view = subst (λ s. HasItemsInside s.table) view
      (inside laws rows columns is.rows_are is.columns_are items is.lines)

  -- a place that holds an item is of the sheet
  pub held-view : (row col : ℕ) → IsSome (item_at sheet.table row col) → (row < rows.count) × (col < columns.count)
  held-view row col some =
      subst (λ s. (row < s.table.rows) × (col < s.table.cols)) (sym view) (inside-view row col some)

  pub filled-view : map.len items ≡ filled_places sheet.table
  filled-view = sym (filled laws rows columns is.rows_are is.columns_are items is.lines)
      ∙ ap (λ s. filled_places s.table) view

  module _ (row col : ℕ) (row_there : row < rows.count) (col_there : col < columns.count) where
    pub put-view : (item : X) → sheet_of rows columns (map.insert items (key_at rows columns row col) item)
        ≡ with_item sheet.table row col item
    put-view item =
        put_sheet laws rows columns is.rows_are is.columns_are items is.lines row col row_there col_there item
        ∙ ap (λ s. with_item s.table row col item) view

    pub taken-view : sheet_of rows columns (map.remove items (key_at rows columns row col))
        ≡ without_item sheet.table row col
    taken-view =
        taken_sheet laws rows columns is.rows_are is.columns_are items is.lines row col row_there col_there
        ∙ ap (λ s. without_item s.table row col) view

    pub put_is : (item : X) → IsSheet rows columns (map.insert items (key_at rows columns row col) item)
    put_is item = record {
      rows_are = is.rows_are;
      columns_are = is.columns_are;
      lines = put_on_lines rows columns items is.lines row col item row_there col_there;
      size = is.size;
    }

    pub taken_is : IsSheet rows columns (map.remove items (key_at rows columns row col))
    taken_is = record {
      rows_are = is.rows_are;
      columns_are = is.columns_are;
      lines = taken_on_lines rows columns items is.lines (key_at rows columns row col);
      size = is.size;
    }

  pub none_taken-view : (row col : ℕ) → ((row < rows.count) × (col < columns.count) → ⊥)
      → sheet.table ≡ without_item sheet.table row col
  none_taken-view row col out = subst (λ s. s.table ≡ without_item s.table row col) view
      (none_taken laws rows columns is.rows_are is.columns_are items is.lines row col out)
