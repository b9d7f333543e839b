-- A spreadsheet by the values that are known of what is stored in it.
use Rattle.std.specs.Prelude.{ℕ, ◌+◌, ◌-◌, ◌*◌, List, [], ◌∷◌, if◌then◌else◌, Option, Some, None, unwrap_or}
use Rattle.cell_value.specs.declared.cell.Value.{Value}
use Rattle.cell_value.specs.declared.cell.Value.TheVariants as value
use Rattle.grid_range.specs.declared.area.Area.{Area}
use Rattle.grid_range.specs.Band.{first_line}
use Rattle.ref_rewrite.specs.declared.cell_content.Content.{Content}
use Rattle.ref_rewrite.specs.declared.cell_content.Content.TheVariants.{Number, Text, Truth, Formula}
use Rattle.cell_calc.specs.declared.cells.StoredCell.{StoredCell}
use Rattle.cell_calc.specs.LogicFunctions.{is_blank}
use Rattle.cell_calc.specs.Book.{Book, Place, stored}
use Rattle.cell_calc.specs.Contents.{Contents}

-- the value that is known in a place; blank where none is
abbrev pub value_known : (Place → Option Value) → Place → Value
value_known known place = unwrap_or (known place) value.Blank

-- the value of what is stored, where a formula has that one; blank of nothing
abbrev pub value_stored : Option Content → Value → Value
value_stored None known = value.Blank
value_stored (Some (Number number)) known = value.Number number
value_stored (Some (Text text)) known = value.Text text
value_stored (Some (Truth truth)) known = value.Truth truth
value_stored (Some (Formula text)) known = known

-- the value that is read in a place: what is stored there, and of a formula the value that is known
abbrev pub value_read : Contents → (Place → Option Value) → Place → Value
value_read contents known place = value_stored (contents.content place) (value_known known place)

-- the spreadsheet of these values alone, with its sheets' sizes and its named ranges
abbrev pub book_read : Contents → (Place → Option Value) → Book
book_read contents known = record {
  cells = λ place. stored (value_read contents known place);
  size = λ sheet. unwrap_or (contents.size sheet) (0, 0);
  named = contents.named;
}

-- the place of a cell among those of an area by rows, counted from 0, where a row has so many
abbrev pub place_among : Area → ℕ → ℕ → ℕ → ℕ
place_among area columns row column =
    (row - first_line area.rows) * columns + (column - first_line area.cols)

-- a value and its place, where it isn't blank
abbrev pub filled_at : ℕ → Value → List (ℕ × Value)
filled_at place value = if is_blank value then [] else (place, value) ∷ []

-- the value that is read in a cell of the area's sheet, if it isn't blank, with its place among the area's cells
abbrev pub cell_read : (Place → Option Value) → Area → ℕ → StoredCell → List (ℕ × Value)
cell_read known area columns cell =
    filled_at (place_among area columns cell.row cell.column)
    (value_stored (Some cell.content.now)
    (value_known known (record { sheet = area.sheet; row = cell.row; column = cell.column })))
