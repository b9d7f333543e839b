-- The corners of a reference: a cell, or a column or a row alone (Google Sheets API v4, "A1 notation"),
-- where a $ (36) may stand before each column and each row. Rows and columns are counted from 0.
use Rattle.std.specs.Prelude.{◌≡◌, ℕ, Bool, false, List, [], ◌∷◌, ◌++◌, Option, Some, None, nat_le, if◌then◌else◌}
use Rattle.ref_rewrite.specs.declared.reference.Marks.{Marks}
use Rattle.a1_notation.specs.Column.{IsColumn}
use Rattle.a1_notation.specs.Area.{IsRow, area_between}
use Rattle.a1_notation.specs.declared.corner.Corner.{Corner}
use Rattle.a1_notation.specs.declared.corner.Corner.TheVariants as place
use Rattle.formula_reader.specs.declared.tokens.corner.Coordinate.{Coordinate}
use Rattle.formula_reader.specs.declared.tokens.corner.MarkedCorner.{MarkedCorner}
use Rattle.formula_reader.specs.declared.tokens.corner.MarkedCorner.TheVariants.{Cell, Column, Row}
use Rattle.formula_reader.specs.declared.tokens.token.MarkedArea.{MarkedArea}

-- a $ where a coordinate is marked
abbrev pub dollar : Bool → List ℕ
dollar marked = if marked then 36 ∷ [] else []

-- the text, behind a $ if it is marked
abbrev pub marked_text : Bool → List ℕ → List ℕ
marked_text marked text = dollar marked ++ text

-- the text is the name of a column or of a row, with a $ before it if it is marked
pub record IsMarked (IsName : List ℕ → ℕ → Type 0) (text : List ℕ) (coordinate : Coordinate) : Type 0 where
  pub name : List ℕ
  pub spelled : text ≡ marked_text coordinate.marked name
  pub name_is : IsName name coordinate.line

-- a column of one to three letters, and a row's number of one to seven digits
abbrev pub IsMarkedColumn : List ℕ → Coordinate → Type 0
IsMarkedColumn text column = IsMarked (IsColumn 3) text column

abbrev pub IsMarkedRow : List ℕ → Coordinate → Type 0
IsMarkedRow text row = IsMarked IsRow text row

-- the text is a column and its row
pub record IsMarkedCell (text : List ℕ) (row column : Coordinate) : Type 0 where
  pub first : List ℕ
  pub second : List ℕ
  pub spelled : text ≡ first ++ second
  pub column_is : IsMarkedColumn first column
  pub row_is : IsMarkedRow second row

-- the text is the corner
abbrev pub IsMarkedCorner : List ℕ → MarkedCorner → Type 0
IsMarkedCorner text (Cell row column) = IsMarkedCell text row column
IsMarkedCorner text (Column column) = IsMarkedColumn text column
IsMarkedCorner text (Row row) = IsMarkedRow text row

-- the corner without its marks
abbrev pub unmarked : MarkedCorner → Corner
unmarked (Cell row column) = place.Cell row.line column.line
unmarked (Column column) = place.Column column.line
unmarked (Row row) = place.Row row.line

-- the row and the column that are written
abbrev pub row_of : MarkedCorner → Option Coordinate
row_of (Cell row column) = Some row
row_of (Column column) = None
row_of (Row row) = Some row

abbrev pub column_of : MarkedCorner → Option Coordinate
column_of (Cell row column) = Some column
column_of (Column column) = Some column
column_of (Row row) = None

-- the marks of the first and of the second of two coordinates: the lesser is the first, and of equal
-- ones the one that is written first; one that isn't written has no mark
abbrev pub marks_in_order : Option Coordinate → Option Coordinate → Bool × Bool
marks_in_order (Some one) (Some other) =
    if nat_le one.line other.line then (one.marked, other.marked) else (other.marked, one.marked)
marks_in_order (Some one) None = (one.marked, false)
marks_in_order None (Some other) = (false, other.marked)
marks_in_order None None = (false, false)

-- the marks of the rows and of the columns
abbrev pub marks_of : Bool × Bool → Bool × Bool → Marks
marks_of rows columns =
    record { row1 = rows.0; col1 = columns.0; row2 = rows.1; col2 = columns.1 }

-- what two corners name: the area between them, and a mark goes with its coordinate
pub record AreCornersOf (one other : MarkedCorner) (written : MarkedArea) : Type 0 where
  pub area : area_between (unmarked one) (unmarked other) ≡ Some (written.rows, written.cols)
  pub marks : written.marks
      ≡ marks_of (marks_in_order (row_of one) (row_of other))
      (marks_in_order (column_of one) (column_of other))

-- what one cell names: itself, and its second corner isn't written
pub record IsCellOf (row column : Coordinate) (written : MarkedArea) : Type 0 where
  pub area : area_between (unmarked (Cell row column)) (unmarked (Cell row column))
      ≡ Some (written.rows, written.cols)
  pub marks : written.marks ≡ marks_of (row.marked, false) (column.marked, false)
