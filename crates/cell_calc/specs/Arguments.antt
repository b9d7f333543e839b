-- What a function is given (Google Docs Editors Help, "Google Sheets function list").
use Rattle.std.specs.Prelude.{ℕ, List, [], ◌∷◌, Option, None, Result, Ok, Err}
use Rattle.cell_value.specs.declared.cell.Kind.{Kind}
use Rattle.cell_value.specs.declared.cell.Kind.TheVariants as kind
use Rattle.cell_value.specs.declared.cell.Value.{Value}
use Rattle.cell_value.specs.declared.cell.Value.TheVariants.{Error}
use Rattle.cell_calc.specs.Conversion.{error_in}

-- the cells of an area: how many rows and columns, and each cell's value by rows
pub record Cells : Type 0 where
  pub rows : ℕ
  pub columns : ℕ
  pub values : List Value

-- an argument: a value, or an area where a reference or a word stands
pub data Given : Type 0 where
  single : Value → Given
  area : Cells → Given

-- the value of a cell alone; an area of other than one cell is #VALUE!
abbrev pub value_of_cells : List Value → Value
value_of_cells [] = Error kind.Value
value_of_cells (value ∷ []) = value
value_of_cells (value ∷ other ∷ more) = Error kind.Value

-- an argument where one value stands
abbrev pub value_of : Given → Value
value_of (single value) = value
value_of (area cells) = value_of_cells cells.values

-- the error that an argument is where an area may stand: an area is none, whatever its cells hold
abbrev pub error_given : Given → Option Kind
error_given (single value) = error_in value
error_given (area cells) = None

-- an argument where an area must stand
abbrev pub cells_given : Given → Result Cells Kind
cells_given (single value) = Err kind.Value
cells_given (area cells) = Ok cells
