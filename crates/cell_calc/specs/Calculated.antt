-- The values that are calculated of a spreadsheet (Google Sheets API v4 reference, CellData, `effectiveValue`).
use Rattle.std.specs.Prelude.{◌≡◌, List, [], Contains, ℕ, ◌+◌, Option, Some}
use Rattle.std.specs.Option.{IsSome}
use Rattle.cell_value.specs.declared.cell.Value.{Value}
use Rattle.grid_range.specs.declared.area.Area.{Area}
use Rattle.grid_range.specs.declared.band.Band.TheVariants.{Whole, Span}
use Rattle.cell_calc.specs.declared.cells.StoredCell.{StoredCell}
use Rattle.cell_calc.specs.declared.mark.Mark.{Mark}
use Rattle.cell_calc.specs.declared.table.Table.{Table}
use Rattle.cell_calc.specs.Book.{Book, Place, Cell, stored, IsFormula, HoldsPlace}
use Rattle.cell_calc.specs.Contents.{Contents, AreOf, AreSound, IsCell, IsStoredFormula}
use Rattle.cell_calc.specs.CellValue.{HasValue}
use Rattle.cell_calc.specs.Known.{value_known}
use Rattle.cell_calc.specs.Marks.{keyed_place, marks_of}
use Rattle.cell_calc.specs.Walk.{HeldBy, Goes, Holds}

-- the value in a place of a spreadsheet, by what is stored in it
abbrev pub IsValueIn : Contents → Place → Value → Type 0
IsValueIn contents place value = (book : Book) → AreOf contents book → HasValue book place value

-- a formula is stored in a place of a spreadsheet
abbrev pub IsFormulaIn : Contents → Place → Type 0
IsFormulaIn contents place = (book : Book) → AreOf contents book → IsFormula (book.cells place)

-- values of a spreadsheet's cells: of each formula in the areas its value, of other formulas none that isn't theirs,
-- and of cells without a formula none
pub record AreValues (contents : Contents) (areas : List Area) (told : Place → Option Value) : Type 0 where
  pub formulas : (place : Place) → IsStoredFormula (contents.content place) → HeldBy areas place
      → IsValueIn contents place (value_known told place)
  pub others : (place : Place) (value : Value) → told place ≡ Some value → IsValueIn contents place value
  pub only : (place : Place) → IsSome (told place) → IsFormulaIn contents place

-- the same of each formula of a spreadsheet
pub record AreAllValues (contents : Contents) (told : Place → Option Value) : Type 0 where
  pub formulas : (place : Place) → IsStoredFormula (contents.content place)
      → IsValueIn contents place (value_known told place)
  pub others : (place : Place) (value : Value) → told place ≡ Some value → IsValueIn contents place value
  pub only : (place : Place) → IsSome (told place) → IsFormulaIn contents place

-- a table that was calculated of a spreadsheet: what it tells is right, and no formula in it waits for others
pub record IsTableOf (contents : Contents) (table : Table) : Type 0 where
  pub right : (book : Book) → AreOf contents book → Holds book (marks_of table) []

-- a place of a spreadsheet has one value at most
abbrev pub ValuesOnce : Type 0
ValuesOnce = (contents : Contents) → AreSound contents → (place : Place) (one other : Value)
    → IsValueIn contents place one → IsValueIn contents place other → one ≡ other

-- no spreadsheet is without a value in each place: it can't be that no values are those of its places
abbrev pub HasValues : Type 0
HasValues = (contents : Contents) → AreSound contents
    → ¬ ((values : Place → Value) → ¬ ((place : Place) → IsValueIn contents place (values place)))

-- the value in a place without a formula is what is stored there
abbrev pub StoredValues : Type 0
StoredValues = (contents : Contents) (place : Place) (value : Value)
    → ((cell : Cell) → IsCell (contents.content place) cell → cell ≡ stored value) → IsValueIn contents place value

-- ---- what the private functions hand to one another

-- marks come to others by which each formula in an area has one
pub record Calculates (contents : Contents) (area : Area) (before : Place → Option Mark) (after : Place → Option Mark) :
    Type 0 where
  pub goes : Goes contents before [] after []
  pub all : (place : Place) → HoldsPlace area place → IsStoredFormula (contents.content place) → IsSome (after place)

-- marks come to others by which each formula among these cells of a sheet has one
pub record SettlesAll (contents : Contents) (sheet : ℕ) (cells : List StoredCell) (before after : Place → Option Mark) :
    Type 0 where
  pub goes : Goes contents before [] after []
  pub all : (cell : StoredCell) → Contains cells cell → IsStoredFormula (Some cell.content.now)
      → IsSome (after (keyed_place (sheet, cell.row, cell.column)))

-- by the marks each formula in the areas has a value
pub record Calculated (contents : Contents) (areas : List Area) (marks : Place → Option Mark) : Type 0 where
  pub right : (book : Book) → AreOf contents book → Holds book marks []
  pub all : (place : Place) → HeldBy areas place → IsStoredFormula (contents.content place) → IsSome (marks place)

-- all cells of a sheet
abbrev pub whole_sheet : ℕ → Area
whole_sheet sheet = record { sheet = sheet; rows = Whole; cols = Whole }

-- one cell of a sheet
abbrev pub one_cell : ℕ → ℕ → ℕ → Area
one_cell sheet row column = record { sheet = sheet; rows = Span row (row + 1); cols = Span column (column + 1) }
