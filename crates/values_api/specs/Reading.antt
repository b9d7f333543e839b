-- A read of an area of a sheet, as the program goes over it: line by line, each to the last cell that shows something.
use Rattle.std.specs.Prelude.{◌≡◌, ◌<◌, ◌≤◌, ℕ, List, Option, Some, length, get_or, IsTrue}
use Rattle.grid_range.specs.Area.{AreaWithin}
use Rattle.grid_range.specs.declared.area.Area.{Area}
use Rattle.cell_value.specs.declared.cell.Cell.{Cell}
use Rattle.cell_value.specs.declared.cell.Value.{Value}
use Rattle.cell_store.specs.Table.{item_at}
use Rattle.cell_calc.specs.Book.{Place}
use Rattle.cell_calc.specs.Known.{value_known}
use Rattle.cell_calc.specs.Marks.{values_of}
use Rattle.world_model.specs.Sheet.{PlaceSheet}
use Rattle.world_model.specs.Sound.{IsSound, place_sheet_with}
use Rattle.values_api.specs.declared.shown.Reading.{Reading}
use Rattle.values_api.specs.Sheets.{formula_sheets}
use Rattle.values_api.specs.Shown.{shows_nothing, lines_of, line_length, cell_of, cell_along, value_by}

-- the area is of a sheet of the spreadsheet, and within it
pub record IsReadOfSheet (reading : Reading) : Type 0 where
  pub sound : IsSound reading.names.book.now
  pub there : place_sheet_with reading.area.now.sheet reading.names.book.now.sheets ≡ Some reading.sheet.now
  pub within : AreaWithin reading.area.now reading.sheet.now.table.rows reading.sheet.now.table.cols

-- the value in a row and a column, by what is stored and what is told
abbrev pub value_told : Area → PlaceSheet → (Place → Option Value) → ℕ → ℕ → Value
value_told area sheet told row col = value_by (item_at sheet.table row col)
    (value_known told (record { sheet = area.sheet; row = row; column = col }))

-- what the cell at a place of a line shows
abbrev pub cell_read : Reading → ℕ → ℕ → Cell
cell_read reading = cell_along reading.columns_first
    (cell_of (formula_sheets reading.names.book.now.sheets) reading.render reading.area.now reading.sheet.now
    (value_told reading.area.now reading.sheet.now (values_of reading.table.now)))

-- how many lines there are, and how long each is
abbrev pub lines_read : Reading → ℕ
lines_read reading = lines_of reading.columns_first reading.area.now reading.sheet.now

abbrev pub length_read : Reading → ℕ
length_read reading = line_length reading.columns_first reading.area.now reading.sheet.now

-- each line has an end, behind which its cells show nothing; lines without one show nothing
pub record AreEnds (reading : Reading) (ends : List ℕ) : Type 0 where
  pub few : length ends ≤ lines_read reading
  pub short : (line : ℕ) → get_or ends line 0 ≤ length_read reading
  pub empty : (line place : ℕ) → line < lines_read reading → place < length_read reading → get_or ends line 0 ≤ place
      → IsTrue (shows_nothing (cell_read reading line place))
