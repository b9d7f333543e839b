-- The cells of a sheet: the `GridData` of the Google Sheets API v4 as a finite map from places to
-- items. A place is a row and a column, each counted from 0.
use Rattle.std.specs.Prelude.{ℕ, ◌<◌, Option, refl}
use Rattle.std.specs.Option.{IsSome}
use Rattle.std.specs.Coded.{Coded, code_by, coded×, coded_ℕ}
use Rattle.std.specs.FinMap as map
use Rattle.grid_range.specs.Area.{by_rows}

-- a sheet's numbers of rows and columns, and the items at its filled places
pub record Table (T : Type 0) : Type 0 where
  pub rows : ℕ
  pub cols : ℕ
  pub cells : map.FinMap by_rows T

abbrev pub table_code : {T : Type 0} → Coded T → Coded (Table T)
table_code {T} item =
    code_by (ℕ × (ℕ × map.FinMap by_rows T)) (coded× coded_ℕ (coded× coded_ℕ (map.code (coded× coded_ℕ coded_ℕ) item)))
    (λ t. (t.rows, (t.cols, t.cells))) (λ p. record { rows = p.0; cols = p.1.0; cells = p.1.1 }) (λ _. refl)

-- the item at a place
abbrev pub item_at : {T : Type 0} → Table T → ℕ → ℕ → Option T
item_at table row col = map.get table.cells (row, col)

-- how many places are filled
abbrev pub filled_places : {T : Type 0} → Table T → ℕ
filled_places table = map.len table.cells

-- how many rows and columns together a sheet can have
abbrev pub most_lines : ℕ
most_lines = 2000000000

-- with fewer filled places an item can be put at an empty one
abbrev pub most_filled : ℕ
most_filled = 1000000000

-- the sheet has the place
abbrev pub HasPlace : {T : Type 0} → Table T → ℕ → ℕ → Type 0
HasPlace table row col = (row < table.rows) × (col < table.cols)

-- each item stands in the sheet
abbrev pub HasItemsInside : {T : Type 0} → Table T → Type 0
HasItemsInside table = (row col : ℕ) → IsSome (item_at table row col) → HasPlace table row col

-- a sheet of that size with nothing in it
abbrev pub empty_table : {T : Type 0} → ℕ → ℕ → Table T
empty_table rows cols = record { rows = rows; cols = cols; cells = map.empty }

-- the sheet with the item at the place
abbrev pub with_item : {T : Type 0} → Table T → ℕ → ℕ → T → Table T
with_item table row col item = record table { cells = map.insert table.cells (row, col) item }

-- the sheet with nothing at the place
abbrev pub without_item : {T : Type 0} → Table T → ℕ → ℕ → Table T
without_item table row col = record table { cells = map.remove table.cells (row, col) }
