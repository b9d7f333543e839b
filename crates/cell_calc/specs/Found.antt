-- What is found among cells that are lent.
use Rattle.std.specs.Prelude.{ℕ, ◌==◌, ◌&&◌, Bool, List, [], ◌∷◌, if◌then◌else◌, Option, Some, None}
use Rattle.std.specs.List.{list_any}
use Rattle.cell_value.specs.declared.cell.Value.{Value}
use Rattle.cell_value.specs.declared.cell.Value.TheVariants.{Blank}
use Rattle.cell_calc.specs.declared.arguments.FilledCell.{FilledCell}
use Rattle.cell_calc.specs.LookUpFunctions.{is_match}
use Rattle.cell_calc.specs.GatheringFunctions.{is_number_or_error}
use Rattle.cell_calc.specs.Lent.{value_held}

-- the value in a place, blank where no cell has it
abbrev pub value_in_place : ℕ → List FilledCell → Value
value_in_place place [] = Blank
value_in_place place (cell ∷ later) = if cell.place == place then value_held cell.value else value_in_place place later

abbrev pub is_matching : Value → FilledCell → Bool
is_matching key cell = is_match key (value_held cell.value)

-- the place of the first cell that matches, counted from 0
abbrev pub first_match : Value → List FilledCell → Option ℕ
first_match key [] = None
first_match key (cell ∷ later) = if is_matching key cell then Some cell.place else first_match key later

-- whether a cell in the place matches
abbrev pub matches_in : Value → List FilledCell → ℕ → Bool
matches_in key cells place = list_any (λ cell. cell.place == place && is_matching key cell) cells

-- the value of a cell that is a number or an error, if its place passes
abbrev pub value_if : (ℕ → Bool) → FilledCell → List Value
value_if test cell = if test cell.place && is_number_or_error (value_held cell.value) then value_held cell.value
    ∷ [] else []
