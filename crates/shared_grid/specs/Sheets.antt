-- How items by the numbers of their lines stand for a sheet. No public clause cites this module.
use Rattle.std.specs.Prelude.{◌≡◌, ◌≢◌, ℕ, ◌+◌, ◌^◌, ◌<◌, ◌≤◌, List, map, length, None, Contains}
use Rattle.std.specs.Option.{IsSome}
use Rattle.std.specs.Ordering.{nat_cmp, eq_by_cmp}
use Rattle.std.specs.List.{IsDistinct}
use Rattle.std.specs.FinMap as fin
use Rattle.grid_range.specs.Area.{by_rows}
use Rattle.grid_range.specs.declared.axis.Axis.{Axis}
use Rattle.grid_range.specs.declared.change.Change.{Change}
use Rattle.grid_range.specs.declared.change.Change.TheVariants.{Insert, Delete, Move}
use Rattle.cell_store.specs.Table.{Table, item_at, most_lines}
use Rattle.cell_store.specs.Entries.{table_of}
use Rattle.shared_grid.specs.Orders.{LineOrder, IsOrder, number_of, place_noted}
use Rattle.shared_grid.specs.Cells.{key_of, line_in, across_in, number_on, HasFewer}
use Rattle.cell_store.specs.Kept.{KeptTable}

-- the place of the lines whose numbers are in the key
abbrev pub place_in : LineOrder → LineOrder → ℕ → ℕ × ℕ
place_in rows columns key = (place_noted rows (line_in key), place_noted columns (across_in key))

-- the place of the lines with these numbers
abbrev pub pair_place : LineOrder → LineOrder → ℕ × ℕ → ℕ × ℕ
pair_place rows columns pair = (place_noted rows pair.0, place_noted columns pair.1)

-- the pairs have the numbers of rows and of columns
pub record AreNumbered (rows columns : LineOrder) (pairs : List (ℕ × ℕ)) : Type 0 where
  pub each : (pair : ℕ × ℕ) → Contains pairs pair → (pair.0 < length rows.places) × (pair.1 < length columns.places)

-- the key of the place at a row and a column
abbrev pub key_at : LineOrder → LineOrder → ℕ → ℕ → ℕ
key_at rows columns row column = key_of (number_of rows row) (number_of columns column)

module _ {T : Type 0} where
  -- the items, each with its place
  abbrev pub placed : LineOrder → LineOrder → fin.FinMap nat_cmp T → List ((ℕ × ℕ) × T)
  placed rows columns items = map (λ (entry : ℕ × T). (place_in rows columns entry.0, entry.1)) (fin.entries items)

  -- the sheet that the items stand for
  abbrev pub sheet_of : LineOrder → LineOrder → fin.FinMap nat_cmp T → Table T
  sheet_of rows columns items = table_of rows.count columns.count (placed rows columns items)

  -- and with it how many numbers its lines have
  abbrev pub numbered_table : LineOrder → LineOrder → fin.FinMap nat_cmp T → KeptTable T
  numbered_table rows columns items = record {
    table = sheet_of rows columns items;
    kept_rows = length rows.numbers;
    kept_columns = length columns.numbers;
  }

-- the key has the numbers of a row and of a column
pub record IsOnLines (rows columns : LineOrder) (key : ℕ) : Type 0 where
  pub row : ℕ
  pub column : ℕ
  pub there : (row < rows.count) × (column < columns.count)
  pub is : key ≡ key_at rows columns row column

-- each item is on a row and a column
pub record AreOnLines {T : Type 0} (rows columns : LineOrder) (items : fin.FinMap nat_cmp T) : Type 0 where
  pub each : (key : ℕ) → IsSome (fin.get items key) → IsOnLines rows columns key

-- the key has the number of a line of the axis
pub record IsOnAxis (axis : Axis) (order : LineOrder) (key : ℕ) : Type 0 where
  pub line : ℕ
  pub there : line < order.count
  pub is : number_on axis key ≡ number_of order line

-- each item is on a line of the axis
pub record AreOnAxis {T : Type 0} (axis : Axis) (order : LineOrder) (items : fin.FinMap nat_cmp T) : Type 0 where
  pub each : (key : ℕ) → IsSome (fin.get items key) → IsOnAxis axis order key

-- the items stand for a sheet
pub record IsSheet {T : Type 0} (rows columns : LineOrder) (items : fin.FinMap nat_cmp T) : Type 0 where
  pub rows_are : IsOrder rows
  pub columns_are : IsOrder columns
  pub lines : AreOnLines rows columns items
  pub size : rows.count + columns.count ≤ most_lines

-- these are the filled places of the rows from `first` on below `end`, each once
pub record AreOnRows {T : Type 0} (first end : ℕ) (table : Table T) (places : List (ℕ × ℕ)) : Type 0 where
  pub distinct : IsDistinct (eq_by_cmp by_rows) places
  pub only : (row col : ℕ) → Contains places (row, col) → (row < end) × IsSome (item_at table row col)
  pub all : (row col : ℕ) → first ≤ row → row < end → IsSome (item_at table row col) → Contains places (row, col)

-- these are the filled places of the columns from `first` on below `end`, each once
pub record AreOnColumns {T : Type 0} (first end : ℕ) (table : Table T) (places : List (ℕ × ℕ)) : Type 0 where
  pub distinct : IsDistinct (eq_by_cmp by_rows) places
  pub only : (row col : ℕ) → Contains places (row, col) → (col < end) × IsSome (item_at table row col)
  pub all : (row col : ℕ) → first ≤ col → col < end → IsSome (item_at table row col) → Contains places (row, col)

-- the items on the lines of the axis from `first` on below `end` are gone, and no others
pub record AreCleared {T : Type 0} (axis : Axis) (order : LineOrder) (first end : ℕ)
    (before after : fin.FinMap nat_cmp T) : Type 0 where
  pub fewer : HasFewer before after
  pub gone : (line key : ℕ) → first ≤ line → line < end → key < 2 ^ 64 → number_on axis key ≡ number_of order line
      → fin.get after key ≡ None
  pub kept : (key : ℕ) → ((line : ℕ) → first ≤ line → line < end → number_on axis key ≢ number_of order line)
      → fin.get after key ≡ fin.get before key

-- the lines that the change deletes: the first, and the one past the last
abbrev pub deleted : Change → ℕ × ℕ
deleted (Insert at inserted) = (0, 0)
deleted (Delete start end) = (start, end)
deleted (Move start end to) = (0, 0)
