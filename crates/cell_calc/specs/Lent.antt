-- What the cells that are lent stand for: the cells that hold something, each with its place among those of
-- the area by rows, counted from 0, stand for the values of all of its cells.
use Rattle.std.specs.Prelude.{◌≡◌, ℕ, suc, ◌*◌, List, [], ◌∷◌, length, map, if◌then◌else◌}
use Rattle.std.specs.List.{AllZip}
use Rattle.cell_value.specs.declared.cell.Value.{Value}
use Rattle.cell_calc.specs.declared.arguments.Argument.{Argument}
use Rattle.cell_calc.specs.declared.arguments.Argument.TheVariants.{Single, Area}
use Rattle.cell_calc.specs.declared.arguments.AreaCells.{AreaCells}
use Rattle.cell_calc.specs.declared.arguments.FilledCell.{FilledCell}
use Rattle.cell_calc.specs.declared.arguments.HeldValue.{HeldValue}
use Rattle.cell_calc.specs.declared.arguments.HeldValue.TheVariants.{Lent, Own}
use Rattle.cell_calc.specs.LogicFunctions.{is_blank}
use Rattle.cell_calc.specs.Arguments.{Cells, Given, single, area}

-- the values that aren't blank, with their places, of which the first is `place`
abbrev pub filled_from : ℕ → List Value → List (ℕ × Value)
filled_from place [] = []
filled_from place (value ∷ later) =
    if is_blank value then filled_from (suc place) later else (place, value) ∷ filled_from (suc place) later

-- the value that a cell holds
abbrev pub value_held : HeldValue → Value
value_held (Lent value) = value.now
value_held (Own value) = value

abbrev pub place_and_value : FilledCell → ℕ × Value
place_and_value cell = (cell.place, value_held cell.value)

pub record AreCells (lent : AreaCells) (cells : Cells) : Type 0 where
  pub rows : lent.rows ≡ cells.rows
  pub columns : lent.columns ≡ cells.columns
  pub all : length cells.values ≡ cells.rows * cells.columns
  pub filled : map place_and_value lent.filled.items ≡ filled_from 0 cells.values

-- an argument stands for what is given
abbrev pub StandsFor : Argument → Given → Type 0
StandsFor (Single value) given = given ≡ single value
StandsFor (Area lent) given = (cells : Cells) × (given ≡ area cells) × AreCells lent cells

-- each argument stands for what is given in its place
abbrev pub StandFor : List Argument → List Given → Type 0
StandFor arguments given = AllZip StandsFor arguments given
