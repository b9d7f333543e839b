-- Which rows of a sheet its basic filter hides, and what is told of them (Google Sheets API v4 reference, BasicFilter,
-- FilterCriteria, GridData and DimensionProperties). Rows are hidden by the values that their cells have now. The first
-- row of the filter's range has the titles of its columns, and is never hidden.
use Rattle.std.specs.Prelude.{◌≡◌, ◌<◌, ◌≤◌, ◌-◌, ℕ, Bool, true, false, ◌&&◌, nat_lt, List, length, get_or, Option, None, Some}
use Rattle.std.specs.List.{AllZip}
use Rattle.basic_filter.specs.Hiding.{hides}
use Rattle.basic_filter.specs.declared.types.Criterion.{Criterion}
use Rattle.basic_filter.specs.declared.types.Filter.{Filter}
use Rattle.cell_calc.specs.Calculated.{IsValueIn}
use Rattle.cell_value.specs.declared.cell.Value.{Value}
use Rattle.grid_range.specs.Band.{end_line, first_line}
use Rattle.world_model.specs.Book.{PlaceBook}
use Rattle.world_model.specs.Sheet.{PlaceSheet}
use Rattle.sheets_json.specs.declared.spreadsheet.DimensionProperties.{DimensionProperties}
use Rattle.values_api.specs.Sheets.{stored_in}

-- the row is one of the filter's range, and not its first
abbrev pub can_hide : PlaceSheet → Filter → ℕ → Bool
can_hide sheet filter row =
    nat_lt (first_line filter.area.rows) row && nat_lt row (end_line filter.area.rows sheet.table.rows)

-- the value of the row's cell in the column of the criterion
abbrev pub IsAskedValue : PlaceBook → ℕ → ℕ → Criterion → Value → Type 0
IsAskedValue book sheet row criterion value =
    IsValueIn (stored_in book) (record { sheet = sheet; row = row; column = criterion.column }) value

-- whether the criteria hide the row, by the values of its cells in their columns, one for each
pub record IsHiddenBy (book : PlaceBook) (sheet row : ℕ) (criteria : List Criterion) (hidden : Bool) : Type 0 where
  pub values : List Value
  pub asked : AllZip (IsAskedValue book sheet row) criteria values
  pub hidden_is : hidden ≡ hides criteria values

-- the criteria are asked of a row that the filter can hide, and another one isn't hidden
abbrev pub IsHiddenIf : Bool → PlaceBook → ℕ → ℕ → List Criterion → Bool → Type 0
IsHiddenIf true book sheet row criteria hidden = IsHiddenBy book sheet row criteria hidden
IsHiddenIf false book sheet row criteria hidden = hidden ≡ false

-- whether the row is hidden
abbrev pub IsHidden : PlaceBook → PlaceSheet → Option Filter → ℕ → Bool → Type 0
IsHidden book sheet None row hidden = hidden ≡ false
IsHidden book sheet (Some filter) row hidden =
    IsHiddenIf (can_hide sheet filter row) book sheet.id row filter.criteria hidden

-- what is told of a row
abbrev pub row_told : Bool → DimensionProperties
row_told hidden = record { hidden_by_filter = hidden }

-- whether it is told of the row that it is hidden; of one behind the last that is told it isn't
abbrev pub is_told_hidden : List DimensionProperties → ℕ → Bool
is_told_hidden rows row = (get_or rows row (row_told false)).hidden_by_filter

-- of each row, from the sheet's first to the last that is hidden, it is told whether it is hidden
pub record AreRowsTold (book : PlaceBook) (sheet : PlaceSheet) (filter : Option Filter)
    (rows : List DimensionProperties) : Type 0 where
  pub few : length rows ≤ sheet.table.rows
  pub each : (row : ℕ) → row < sheet.table.rows → IsHidden book sheet filter row (is_told_hidden rows row)
  pub last_hidden : 0 < length rows → is_told_hidden rows (length rows - 1) ≡ true

-- ---- what the private functions hand to one another

-- so far that is told of the rows before this one
pub record AreRowsToldBefore (book : PlaceBook) (sheet : PlaceSheet) (filter : Filter) (row : ℕ)
    (rows : List DimensionProperties) : Type 0 where
  pub few : length rows ≤ row
  pub each : (other : ℕ) → other < row → IsHidden book sheet (Some filter) other (is_told_hidden rows other)
  pub last_hidden : 0 < length rows → is_told_hidden rows (length rows - 1) ≡ true
