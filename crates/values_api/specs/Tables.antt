-- The table that an append of values looks for (Google Sheets API v4 reference, spreadsheets.values.append: the range
-- is used to find existing data). What a table is, is this project's profile.
use Rattle.std.specs.Prelude.{◌≡◌, ◌<◌, ◌≤◌, ◌⊎◌, ◌+◌, ℕ, Bool, true, false, List, map, Contains, ◌↔◌, ◌-◌, ◌==◌, ◌&&◌, ◌||◌, nat_lt, Option, None, Some}
use Rattle.std.specs.Option.{IsSome}
use Rattle.grid_range.specs.Area.{Holds}
use Rattle.grid_range.specs.declared.area.Area.{Area}
use Rattle.std.specs.List.Sorted.{IsPartitionPoint, IsStrictlySortedBy}
use Rattle.grid_range.specs.Area.{by_rows}
use Rattle.cell_store.specs.Table.{Table, item_at, most_lines}
use Rattle.values_api.specs.declared.table.Rectangle.{Rectangle}
use Rattle.values_api.specs.declared.table.Stored.{Stored}

-- the rectangle has the cell
pub record IsIn (rectangle : Rectangle) (row col : ℕ) : Type 0 where
  pub top : rectangle.top ≤ row
  pub bottom : row < rectangle.bottom
  pub left : rectangle.left ≤ col
  pub right : col < rectangle.right

-- the cell is in it or directly beside it, corners included
pub record IsNear (rectangle : Rectangle) (row col : ℕ) : Type 0 where
  pub top : rectangle.top ≤ row + 1
  pub bottom : row ≤ rectangle.bottom
  pub left : rectangle.left ≤ col + 1
  pub right : col ≤ rectangle.right

-- each cell of one rectangle is in the other
pub record LiesWithin (one other : Rectangle) : Type 0 where
  pub top : other.top ≤ one.top
  pub bottom : one.bottom ≤ other.bottom
  pub left : other.left ≤ one.left
  pub right : one.right ≤ other.right

-- no cell with something in it is directly beside the rectangle
abbrev pub IsClosed : (ℕ → ℕ → Type 0) → Rectangle → Type 0
IsClosed IsStored rectangle = (row col : ℕ) → IsStored row col → IsNear rectangle row col → IsIn rectangle row col

-- the rectangle lies within each such one that has the cell
abbrev pub IsLeast : (ℕ → ℕ → Type 0) → ℕ → ℕ → Rectangle → Type 0
IsLeast IsStored row col rectangle =
    (other : Rectangle) → IsIn other row col → IsClosed IsStored other → LiesWithin rectangle other

-- the smallest such rectangle that has the cell
pub record IsTable (IsStored : ℕ → ℕ → Type 0) (row col : ℕ) (table : Rectangle) : Type 0 where
  pub has_cell : IsIn table row col
  pub closed : IsClosed IsStored table
  pub least : IsLeast IsStored row col table

-- something is stored in the cell
abbrev pub IsStored : {T : Type 0} → Table T → ℕ → ℕ → Type 0
IsStored table row col = IsSome (item_at table row col)

-- of the cells of the area in which something is stored it is the last one, by rows
pub record IsLastOf {T : Type 0} (area : Area) (table : Table T) (row col : ℕ) : Type 0 where
  pub held : Holds area row col
  pub stored : IsStored table row col
  pub last : (r c : ℕ) → Holds area r c → IsStored table r c → (r < row) ⊎ ((r ≡ row) × (c ≤ col))

-- the table around that cell; none where nothing is stored in the area
abbrev pub IsTableIn : {T : Type 0} → Area → Table T → Option Rectangle → Type 0
IsTableIn area table None = (row col : ℕ) → Holds area row col → ¬ (IsStored table row col)
IsTableIn area table (Some found) =
    (row : ℕ) × (col : ℕ) × IsLastOf area table row col × IsTable (IsStored table) row col found

-- ---- the cells as the program looks them up

-- a place is before that one, line by line
abbrev pub is_before : ℕ → ℕ → ℕ × ℕ → Bool
is_before line from place = nat_lt place.0 line || (place.0 == line && nat_lt place.1 from)

-- so many of the places are before that one, and those behind them aren't
abbrev pub IsStart : ℕ → ℕ → List (ℕ × ℕ) → ℕ → Type 0
IsStart line from =
    IsPartitionPoint (λ place. is_before line from place ≡ true) (λ place. is_before line from place ≡ false)

-- a line has one of those places from one on to another
pub record HasBetween (places : List (ℕ × ℕ)) (line from to : ℕ) : Type 0 where
  pub at : ℕ
  pub from_there : from ≤ at
  pub to_there : at ≤ to
  pub has : Contains places (line, at)

-- each place with its column first
abbrev pub columns_first : List (ℕ × ℕ) → List (ℕ × ℕ)
columns_first = map (λ place. (place.1, place.0))

-- both lists of the places of a sheet of that size: by rows, and by columns, which stand first
pub record AreStored (stored : Stored) : Type 0 where
  pub rows_in_order : IsStrictlySortedBy by_rows stored.by_rows
  pub cols_in_order : IsStrictlySortedBy by_rows stored.by_cols
  pub same : (row col : ℕ) → Contains stored.by_rows (row, col) ↔ Contains stored.by_cols (col, row)
  pub few : stored.rows + stored.cols ≤ most_lines
  pub rows : (row col : ℕ) → Contains stored.by_rows (row, col) → row < stored.rows
  pub cols : (row col : ℕ) → Contains stored.by_rows (row, col) → col < stored.cols

abbrev pub IsListed : Stored → ℕ → ℕ → Type 0
IsListed stored row col = Contains stored.by_rows (row, col)

-- the rectangle has a cell
pub record HasCells (rectangle : Rectangle) : Type 0 where
  pub rows : rectangle.top < rectangle.bottom
  pub cols : rectangle.left < rectangle.right

-- how many lines of the sheet aren't the rectangle's
abbrev pub lines_beside : Stored → Rectangle → ℕ
lines_beside stored rectangle =
    rectangle.top + (stored.rows - rectangle.bottom) + rectangle.left + (stored.cols - rectangle.right)

-- the rectangle with a line more that holds something beside it: it is still part of each that has no such line
pub record IsGrown (stored : Stored) (rectangle grown : Rectangle) : Type 0 where
  pub has_cells : HasCells grown
  pub fewer : lines_beside stored grown < lines_beside stored rectangle
  pub holds : LiesWithin rectangle grown
  pub least : (other : Rectangle) → LiesWithin rectangle other → IsClosed (IsListed stored) other
      → LiesWithin grown other

-- a line has one of the places from the one before `start` on as far as `end`
pub record HasNear (places : List (ℕ × ℕ)) (line start end : ℕ) : Type 0 where
  pub at : ℕ
  pub from_there : start ≤ at + 1
  pub to_there : at ≤ end
  pub has : Contains places (line, at)

-- the line before that one has
pub record HasBefore (places : List (ℕ × ℕ)) (line start end : ℕ) : Type 0 where
  pub before : ℕ
  pub next : before + 1 ≡ line
  pub near : HasNear places before start end
