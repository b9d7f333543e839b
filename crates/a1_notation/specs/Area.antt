-- Areas in A1 notation (Google Sheets API v4, "A1 notation"): A1, A1:B2, A:B, 1:2 and A5:B. Rows and
-- columns are counted from 0.
use Rattle.std.specs.Prelude.{◌≡◌, ◌≢◌, ℕ, ◌+◌, ◌≤◌, min, max, List, ◌∷◌, ◌++◌, Option, Some, None, ◌⊎◌, length, slice_index}
use Rattle.std.specs.Str.Parse.{IsNumeral, digits_value}
use Rattle.grid_range.specs.declared.band.Band.{Band}
use Rattle.grid_range.specs.declared.band.Band.TheVariants.{Whole, From, Span}
use Rattle.a1_notation.specs.declared.corner.Corner.{Corner}
use Rattle.a1_notation.specs.declared.corner.Corner.TheVariants.{Cell, Column, Row}
use Rattle.a1_notation.specs.Column.{IsColumn}

-- the text is a row's number, which begins with 1: at most seven digits, and the first isn't 0
pub record IsRow (text : List ℕ) (row : ℕ) : Type 0 where
  pub digits : IsNumeral 10 text
  pub first : slice_index text 0 ≢ 48
  pub few : length text ≤ 7
  pub value : digits_value 10 text ≡ row + 1

-- the text is a cell, a column with at most `most` letters and its row; or a column or a row alone
abbrev pub IsCorner : ℕ → List ℕ → Corner → Type 0
IsCorner most text (Cell row column) =
    (letters : List ℕ) × (digits : List ℕ) × (text ≡ letters ++ digits)
    × IsColumn most letters column × IsRow digits row
IsCorner most text (Column column) = IsColumn most text column
IsCorner most text (Row row) = IsRow text row

-- the lines from one to another, in either order
abbrev pub lines_between : ℕ → ℕ → Band
lines_between a b = Span (min a b) (max a b + 1)

-- the rows and the columns of the area between two corners, where they go together
abbrev pub area_between : Corner → Corner → Option (Band × Band)
area_between (Cell row column) (Cell row' column') =
    Some (lines_between row row', lines_between column column')
area_between (Cell row column) (Column column') = Some (From row, lines_between column column')
area_between (Column column) (Column column') = Some (Whole, lines_between column column')
area_between (Row row) (Row row') = Some (lines_between row row', Whole)
area_between (Cell row column) (Row row') = None
area_between (Column column) (Cell row column') = None
area_between (Column column) (Row row) = None
area_between (Row row) (Cell row' column) = None
area_between (Row row) (Column column) = None

-- the text is one cell, which is its own area
pub record IsOneCell (most : ℕ) (text : List ℕ) (rows columns : Band) : Type 0 where
  pub row : ℕ
  pub column : ℕ
  pub cell : IsCorner most text (Cell row column)
  pub area : area_between (Cell row column) (Cell row column) ≡ Some (rows, columns)

-- the texts are two corners, and these are the rows and the columns between them
pub record IsBetween (most : ℕ) (first second : List ℕ) (rows columns : Band) : Type 0 where
  pub one : Corner
  pub other : Corner
  pub one_is : IsCorner most first one
  pub other_is : IsCorner most second other
  pub area : area_between one other ≡ Some (rows, columns)

-- the text is two corners, with : (58) between them
pub record IsTwoCorners (most : ℕ) (text : List ℕ) (rows columns : Band) : Type 0 where
  pub first : List ℕ
  pub second : List ℕ
  pub parts : text ≡ first ++ 58 ∷ second
  pub between : IsBetween most first second rows columns

-- the text is the area of these rows and columns, where a column has at most `most` letters
abbrev pub IsArea : ℕ → List ℕ → Band → Band → Type 0
IsArea most text rows columns =
    IsOneCell most text rows columns ⊎ IsTwoCorners most text rows columns
