-- A spreadsheet as its formulas read it (Google Sheets API v4 reference, Spreadsheet, CellData and NamedRange).
use Rattle.std.specs.Prelude.{◌≡◌, ℕ, ◌-◌, ⊤, List, length, map, flat_map, Option}
use Rattle.std.specs.List.{range_with_len}
use Rattle.cell_value.specs.declared.cell.Value.{Value}
use Rattle.grid_range.specs.declared.area.Area.{Area}
use Rattle.grid_range.specs.declared.band.Band.{Band}
use Rattle.grid_range.specs.Area.{Holds}
use Rattle.grid_range.specs.Band.{first_line, end_line}
use Rattle.formula_reader.specs.Tree.{Expression}
use Rattle.cell_calc.specs.Arguments.{Cells}

-- a place: the id of a sheet, and a row and a column of it, counted from 0
pub record Place : Type 0 where
  pub sheet : ℕ
  pub row : ℕ
  pub column : ℕ

-- what stands in a place: a value, blank in an empty one, or a formula by its tree, None where it has none
pub data Cell : Type 0 where
  stored : Value → Cell
  formula : Option Expression → Cell

-- the cells, how many rows and columns each sheet has, and the area of the named range that a word names
pub record Book : Type 0 where
  pub cells : Place → Cell
  pub size : ℕ → ℕ × ℕ
  pub named : List ℕ → Option Area

abbrev pub IsFormula : Cell → Type 0
IsFormula (stored value) = ⊥
IsFormula (formula tree) = ⊤

-- the area holds the place
abbrev pub HoldsPlace : Area → Place → Type 0
HoldsPlace area place = (area.sheet ≡ place.sheet) × Holds area place.row place.column

-- the lines of a band, among so many
abbrev pub lines_of : Band → ℕ → List ℕ
lines_of band count = range_with_len (first_line band) (end_line band count - first_line band)

abbrev pub rows_of : Book → Area → List ℕ
rows_of book area = lines_of area.rows (book.size area.sheet).0

abbrev pub columns_of : Book → Area → List ℕ
columns_of book area = lines_of area.cols (book.size area.sheet).1

-- the places of an area, by rows
abbrev pub places_of : Book → Area → List Place
places_of book area =
    flat_map (λ row. map (λ column. record { sheet = area.sheet; row = row; column = column }) (columns_of book area))
    (rows_of book area)

-- the cells of an area, by the value in each place
abbrev pub cells_of : Book → (Place → Value) → Area → Cells
cells_of book read area = record {
  rows = length (rows_of book area);
  columns = length (columns_of book area);
  values = map read (places_of book area);
}
