-- Laws of sheets.
use Rattle.std.specs.Prelude.{◌≡◌, ℕ, List, None, Some, length, if◌then◌else◌}
use Rattle.std.specs.List.{IsDistinct}
use Rattle.std.specs.Map.{keys_of}
use Rattle.std.specs.Ordering.{eq_by_cmp}
use Rattle.grid_range.specs.Area.{by_rows}
use Rattle.cell_store.specs.Table.{Table, item_at, filled_places, empty_table, with_item, without_item}
use Rattle.cell_store.specs.Entries.{entry_at, table_of}

-- a sheet is its size and the items at its places
pub record TablesByItems (T : Type 0) : Type 0 where
  pub same : (one other : Table T) → one.rows ≡ other.rows → one.cols ≡ other.cols
      → ((row col : ℕ) → item_at one row col ≡ item_at other row col) → one ≡ other
  -- the sheet of some entries has their items
  pub entries : (rows cols : ℕ) (entries : List ((ℕ × ℕ) × T)) (row col : ℕ)
      → item_at (table_of rows cols entries) row col ≡ entry_at entries (row, col)
  pub filled : (rows cols : ℕ) (entries : List ((ℕ × ℕ) × T)) → IsDistinct (eq_by_cmp by_rows) (keys_of entries)
      → filled_places (table_of rows cols entries) ≡ length entries
  -- and so has a sheet after a step
  pub empty : (rows cols row col : ℕ) → item_at (empty_table {T = T} rows cols) row col ≡ None
  pub put : (table : Table T) (place : ℕ × ℕ) (item : T) (row col : ℕ)
      → item_at (with_item table place.0 place.1 item) row col
      ≡ if eq_by_cmp by_rows place (row, col) then Some item else item_at table row col
  pub taken : (table : Table T) (place : ℕ × ℕ) (row col : ℕ)
      → item_at (without_item table place.0 place.1) row col
      ≡ if eq_by_cmp by_rows place (row, col) then None else item_at table row col
