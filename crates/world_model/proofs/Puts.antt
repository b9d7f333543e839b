-- What a table holds after a write, and what else of a sheet stays.
use Rattle.std.proofs.Common.{◌≡◌, ℕ, refl, ap, ◌∙◌, cond, Bool, true, false}
use Rattle.std.specs.Prelude.{Option, None, Some, ◌==◌, ◌&&◌}
use Rattle.std.specs.Ordering.{nat_cmp, eq_by_cmp, is_eq, ordering_then}
use Rattle.std.specs.declared.cmp.Ordering.{Ordering}
use Rattle.std.specs.declared.cmp.Ordering.TheVariants.{Less, Equal, Greater}
use Rattle.std.specs.Cmp.{unsigned_tied}
use Rattle.std.specs.FinMap as finite
use Rattle.grid_range.specs.Area.{by_rows}
use Rattle.grid_range.specs.ByRows.{by_rows_total}
use Rattle.cell_store.specs.Table.{Table, item_at}
use Rattle.ref_rewrite.specs.declared.cell_content.Content.{Content}
use Rattle.world_model.specs.Sheet.{PlaceSheet}
use Rattle.world_model.specs.Writing.{table_written}

-- what a table holds after a write
pub item_written : {T : Type 0} (row col : ℕ) (item : Option T) (table : Table T) (row' col' : ℕ)
    → item_at (table_written row col item table) row' col'
    ≡ cond (eq_by_cmp by_rows (row', col') (row, col)) item (item_at table row' col')
item_written row col None table row' col' = finite.get-remove by_rows_total table.cells (row, col) (row', col')
item_written row col (Some item) table row' col' =
    finite.get-insert by_rows_total table.cells (row, col) item (row', col')

is_eq-then : (one other : Ordering) → is_eq (ordering_then one other) ≡ (is_eq one && is_eq other)
is_eq-then one other = elim one as (λ o. is_eq (ordering_then o other) ≡ (is_eq o && is_eq other))
    [ Less ↦ refl | Equal ↦ refl | Greater ↦ refl ]

pub same_place : (row col row' col' : ℕ)
    → eq_by_cmp by_rows (row', col') (row, col) ≡ (row' == row && col' == col)
same_place row col row' col' = is_eq-then (nat_cmp row' row) (nat_cmp col' col)
    ∙ ap (λ b. b && eq_by_cmp nat_cmp col' col) (unsigned_tied row' row)
    ∙ ap (λ b. (row' == row) && b) (unsigned_tied col' col)

-- the table of one that may be
pub item_chosen : (b : Bool) (sheet : PlaceSheet) (table : Table Content) (row col : ℕ)
    → item_at (cond b (record sheet { table = table }) sheet).table row col
    ≡ cond b (item_at table row col) (item_at sheet.table row col)
item_chosen true sheet table row col = refl
item_chosen false sheet table row col = refl

size_written : {T : Type 0} (row col : ℕ) (item : Option T) (table : Table T)
    → ((table_written row col item table).rows ≡ table.rows) × ((table_written row col item table).cols ≡ table.cols)
size_written row col None table = (refl, refl)
size_written row col (Some item) table = (refl, refl)

-- a sheet that may be written is the same but for its cells
pub record SameSheet (one other : PlaceSheet) : Type 0 where
  pub id : one.id ≡ other.id
  pub title : one.title ≡ other.title
  pub hidden : one.hidden ≡ other.hidden
  pub rows : one.table.rows ≡ other.table.rows
  pub cols : one.table.cols ≡ other.table.cols
  pub merges : one.merges ≡ other.merges
  pub filter : one.filter ≡ other.filter

pub put_is_same : (b : Bool) (row col : ℕ) (item : Option Content) (sheet : PlaceSheet)
    → SameSheet (cond b (record sheet { table = table_written row col item sheet.table }) sheet) sheet
put_is_same true row col item sheet = record {
  id = refl;
  title = refl;
  hidden = refl;
  rows = (size_written row col item sheet.table).0;
  cols = (size_written row col item sheet.table).1;
  merges = refl;
  filter = refl;
}
put_is_same false row col item sheet = record {
  id = refl;
  title = refl;
  hidden = refl;
  rows = refl;
  cols = refl;
  merges = refl;
  filter = refl;
}
