-- What is gathered of arguments as they are lent.
use Rattle.std.specs.Prelude.{Bool, List, [], ◌∷◌, map, flat_map, if◌then◌else◌, Option, None}
use denote.Ref.{Bor}
use Rattle.cell_value.specs.declared.cell.Kind.{Kind}
use Rattle.cell_calc.specs.Conversion.{error_in}
use Rattle.cell_value.specs.declared.cell.Value.{Value}
use Rattle.cell_calc.specs.declared.arguments.Argument.{Argument}
use Rattle.cell_calc.specs.declared.arguments.Argument.TheVariants.{Single, Area}
use Rattle.cell_calc.specs.declared.arguments.FilledCell.{FilledCell}
use Rattle.cell_calc.specs.declared.functions.gathering.Taking.{Taking}
use Rattle.cell_calc.specs.declared.functions.gathering.Taking.TheVariants.{Numbers, NumbersAndErrors, TruthsAndErrors, Filled}
use Rattle.cell_calc.specs.LogicFunctions.{is_number}
use Rattle.cell_calc.specs.GatheringFunctions.{is_number_or_error, is_truth_or_error, is_filled}
use Rattle.cell_calc.specs.Lent.{value_held}

abbrev pub is_taken : Taking → Value → Bool
is_taken Numbers = is_number
is_taken NumbersAndErrors = is_number_or_error
is_taken TruthsAndErrors = is_truth_or_error
is_taken Filled = is_filled

-- the value of a cell that holds something, if it is taken
abbrev pub cell_taken : Taking → FilledCell → List Value
cell_taken taking cell = if is_taken taking (value_held cell.value) then value_held cell.value ∷ [] else []

-- the values of an argument: itself, or the cells that are taken
abbrev pub taken_of : Taking → Argument → List Value
taken_of taking (Single value) = value ∷ []
taken_of taking (Area lent) = flat_map (cell_taken taking) lent.filled.items

-- the values of references
abbrev pub values_of : List (Bor Value) → List Value
values_of references = map (λ reference. reference.now) references

abbrev pub all_taken : Taking → List Argument → List Value
all_taken taking arguments = flat_map (taken_of taking) arguments

-- the error that an argument is; an area is none
abbrev pub error_lent : Argument → Option Kind
error_lent (Single value) = error_in value
error_lent (Area lent) = None
