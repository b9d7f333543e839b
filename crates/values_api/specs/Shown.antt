-- What a read shows of the cells of an area (Google Sheets API v4 reference, ValueRange: empty rows and columns at
-- the end are left out; ValueRenderOption).
use Rattle.std.specs.Prelude.{◌≡◌, ⊤, ℕ, ℤ, ◌+◌, ◌-◌, Bool, true, false, List, [], ◌∷◌, map, length, take, Option, None, Some}
use Rattle.std.specs.Prelude.{if◌then◌else◌}
use Rattle.std.specs.List.{range_with_len, suffix_len}
use Rattle.grid_range.specs.Area.{Holds}
use Rattle.grid_range.specs.Band.{first_line, end_line}
use Rattle.grid_range.specs.declared.area.Area.{Area}
use Rattle.cell_store.specs.Table.{item_at}
use Rattle.cell_value.specs.Shown.{error_name, shown_text}
use Rattle.cell_value.specs.declared.cell.Cell.{Cell}
use Rattle.cell_value.specs.declared.cell.Cell.TheVariants as cell
use Rattle.cell_value.specs.declared.cell.Render.{Render}
use Rattle.cell_value.specs.declared.cell.Render.TheVariants.{Formatted, Unformatted, Formula}
use Rattle.cell_value.specs.declared.cell.Value.{Value}
use Rattle.cell_value.specs.declared.cell.Value.TheVariants as value
use Rattle.cell_calc.specs.Book.{Place}
use Rattle.cell_calc.specs.Calculated.{AreValues, IsValueIn}
use Rattle.ref_rewrite.specs.declared.cell_content.Content.{Content}
use Rattle.ref_rewrite.specs.declared.cell_content.Content.TheVariants as content
use Rattle.formula_reader.specs.Printed.{printed}
use Rattle.formula_reader.specs.Sheets.{Sheets}
use Rattle.world_model.specs.Book.{PlaceBook}
use Rattle.world_model.specs.Sheet.{PlaceSheet}
use Rattle.values_api.specs.Sheets.{formula_sheets, stored_in}

-- what a value is as it is listed: a number, a truth value, or a text; a blank one is an empty text
abbrev pub value_shown : Value → Cell
value_shown value.Blank = cell.Text []
value_shown (value.Number number) = cell.Number number
value_shown (value.Text text) = cell.Text text
value_shown (value.Truth truth) = cell.Truth truth
value_shown (value.Error kind) = cell.Text (error_name kind)

-- what was entered: a formula by its text, and an empty text where nothing is stored
abbrev pub entered_shown : Sheets → Option Content → Cell
entered_shown sheets None = cell.Text []
entered_shown sheets (Some (content.Number number)) = cell.Number number
entered_shown sheets (Some (content.Text text)) = cell.Text text
entered_shown sheets (Some (content.Truth truth)) = cell.Truth truth
entered_shown sheets (Some (content.Formula formula)) = cell.Text (printed sheets formula.pieces)

-- what a cell shows, by what is stored in it, or by its value
abbrev pub cell_shown : Sheets → Render → Option Content → Value → Cell
cell_shown sheets Formatted stored value = cell.Text (shown_text value)
cell_shown sheets Unformatted stored value = value_shown value
cell_shown sheets Formula stored value = entered_shown sheets stored

abbrev pub shows_nothing : Cell → Bool
shows_nothing (cell.Text []) = true
shows_nothing (cell.Text (byte ∷ bytes)) = false
shows_nothing (cell.Number number) = false
shows_nothing (cell.Truth truth) = false

abbrev pub has_no_cells : List Cell → Bool
has_no_cells [] = true
has_no_cells (first ∷ rest) = false

-- the things but for the empty ones at the end
abbrev pub without_empty_end : {A : Type 0} → (A → Bool) → List A → List A
without_empty_end is_empty things = take (length things - suffix_len is_empty things) things

-- lines of cells, so many and so long, without the empty cells at the end of each, and without the empty ones of
-- them at the end
abbrev pub line_shown : (ℕ → Cell) → ℕ → List Cell
line_shown cells long = without_empty_end shows_nothing (map cells (range_with_len 0 long))

abbrev pub lines_shown : (ℕ → ℕ → Cell) → ℕ → ℕ → List (List Cell)
lines_shown cells lines length_of =
    without_empty_end has_no_cells (map (λ line. line_shown (cells line) length_of) (range_with_len 0 lines))

-- how many rows and columns of a sheet of that size an area has
abbrev pub height : Area → PlaceSheet → ℕ
height area sheet = end_line area.rows sheet.table.rows - first_line area.rows

abbrev pub width : Area → PlaceSheet → ℕ
width area sheet = end_line area.cols sheet.table.cols - first_line area.cols

-- how many lines that are, as rows or as columns, and how long each is
abbrev pub lines_of : Bool → Area → PlaceSheet → ℕ
lines_of columns_first area sheet = if columns_first then width area sheet else height area sheet

abbrev pub line_length : Bool → Area → PlaceSheet → ℕ
line_length columns_first area sheet = if columns_first then height area sheet else width area sheet

-- what the cell shows that is so many rows below the first one of the area, and so many columns behind it, by the
-- value in each row and column
abbrev pub cell_of : Sheets → Render → Area → PlaceSheet → (ℕ → ℕ → Value) → ℕ → ℕ → Cell
cell_of sheets render area sheet values row col =
    let row_there = first_line area.rows + row in
    let col_there = first_line area.cols + col in
    cell_shown sheets render (item_at sheet.table row_there col_there) (values row_there col_there)

-- what stands at a place of a line, which is a row, or a column
abbrev pub cell_along : {A : Type 0} → Bool → (ℕ → ℕ → A) → ℕ → ℕ → A
cell_along columns_first cells line place = if columns_first then cells place line else cells line place

-- the area of the sheet by rows, or by columns
abbrev pub area_shown : Sheets → Area → Bool → Render → PlaceSheet → (ℕ → ℕ → Value) → List (List Cell)
area_shown sheets area columns_first render sheet values =
    lines_shown (cell_along columns_first (cell_of sheets render area sheet values)) (lines_of columns_first area sheet)
    (line_length columns_first area sheet)

-- these are the values of the area's cells, where values are shown
abbrev pub AreShownValues : Render → PlaceBook → Area → (ℕ → ℕ → Value) → Type 0
AreShownValues Formula book area values = ⊤
AreShownValues _ book area values = (row col : ℕ) → Holds area row col
    → IsValueIn (stored_in book) (record { sheet = area.sheet; row = row; column = col }) (values row col)

-- the area of a sheet of the spreadsheet is shown by the values of its cells
pub record IsAreaShown (book : PlaceBook) (area : Area) (columns_first : Bool) (render : Render)
    (sheet : PlaceSheet) (lines : List (List Cell)) : Type 0 where
  pub values : ℕ → ℕ → Value
  pub values_are : AreShownValues render book area values
  pub lines_are : lines ≡ area_shown (formula_sheets book.sheets) area columns_first render sheet values

-- the values of the area's formulas are told, where values are shown
abbrev pub TellsShown : Render → PlaceBook → Area → (Place → Option Value) → Type 0
TellsShown Formula book area told = ⊤
TellsShown _ book area told = AreValues (stored_in book) (area ∷ []) told

-- ---- what the private functions hand to one another

-- the value of a cell: what is stored, of a formula the value that is told
abbrev pub value_by : Option Content → Value → Value
value_by None told = value.Blank
value_by (Some (content.Number number)) told = value.Number number
value_by (Some (content.Text text)) told = value.Text text
value_by (Some (content.Truth truth)) told = value.Truth truth
value_by (Some (content.Formula formula)) told = told

-- what a number shows, and a truth value
abbrev pub number_shown : Render → ℤ → Cell
number_shown Formatted number = cell.Text (shown_text (value.Number number))
number_shown Unformatted number = cell.Number number
number_shown Formula number = cell.Number number

abbrev pub truth_shown : Render → Bool → Cell
truth_shown Formatted truth = cell.Text (shown_text (value.Truth truth))
truth_shown Unformatted truth = cell.Truth truth
truth_shown Formula truth = cell.Truth truth
