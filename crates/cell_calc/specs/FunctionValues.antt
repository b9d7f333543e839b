-- What each function makes of its arguments (Google Docs Editors Help, "Google Sheets function list"). Another
-- number of arguments is #N/A, and a name that no function has #NAME?, whatever the arguments are.
use Rattle.std.specs.Prelude.{ℕ, pos, false, List, [], ◌∷◌}
use Rattle.std.specs.Option.{option_map_or}
use Rattle.cell_value.specs.declared.cell.Kind.TheVariants as kind
use Rattle.cell_value.specs.declared.cell.Value.{Value}
use Rattle.cell_value.specs.declared.cell.Value.TheVariants.{Blank, Number, Truth, Error}
use Rattle.cell_calc.specs.declared.functions.table.Function.{Function}
use Rattle.cell_calc.specs.declared.functions.table.Function.TheVariants.{Sum, Min, Max, Count, CountA, If, And, Or, Not, Abs, Sign, Mod, Quotient, Len, Left, Right, Mid, Concatenate, Exact, Index, Match, CountIf, SumIf, Rows, Columns, IsBlank, IsNumber, IsText, IsError, IfError}
use Rattle.cell_calc.specs.Arguments.{Given, single, value_of}
use Rattle.cell_calc.specs.NumberFunctions.{absolute, sign, modulo, whole_quotient}
use Rattle.cell_calc.specs.LogicFunctions.{negated, chosen, unless_it_fails, is_blank, is_number, is_text, is_error}
use Rattle.cell_calc.specs.TextFunctions.{text_length, left_part, right_part, middle_part, same_text}
use Rattle.cell_calc.specs.GatheringFunctions.{sum_value, least_value, greatest_value, count_value, count_all_value, all_value, any_value, joined_value}
use Rattle.cell_calc.specs.LookUpFunctions.{row_count, column_count, indexed_value, matched_place, matches_counted, matches_summed}
use Rattle.cell_calc.specs.FunctionNames.{function_named}

-- a function of one argument, of two or three, and of one or more
abbrev pub of_one : (Given → Value) → List Given → Value
of_one make (one ∷ []) = make one
of_one make others = Error kind.Na

abbrev pub of_two : (Given → Given → Value) → List Given → Value
of_two make (one ∷ other ∷ []) = make one other
of_two make others = Error kind.Na

abbrev pub of_three : (Given → Given → Given → Value) → List Given → Value
of_three make (one ∷ other ∷ third ∷ []) = make one other third
of_three make others = Error kind.Na

abbrev pub of_some : (List Given → Value) → List Given → Value
of_some make [] = Error kind.Na
of_some make (one ∷ more) = make (one ∷ more)

-- one whose last argument may be left out, where another stands for it
abbrev pub of_one_or_two : Given → (Given → Given → Value) → List Given → Value
of_one_or_two unless make (one ∷ []) = make one unless
of_one_or_two unless make (one ∷ other ∷ []) = make one other
of_one_or_two unless make others = Error kind.Na

abbrev pub of_two_or_three : (Given → Given) → (Given → Given → Given → Value) → List Given → Value
of_two_or_three unless make (one ∷ other ∷ []) = make one other (unless one)
of_two_or_three unless make (one ∷ other ∷ third ∷ []) = make one other third
of_two_or_three unless make others = Error kind.Na

-- the value of a function by its arguments
abbrev pub function_value : Function → List Given → Value
function_value Sum = of_some sum_value
function_value Min = of_some least_value
function_value Max = of_some greatest_value
function_value Count = of_some count_value
function_value CountA = of_some count_all_value
function_value If =
    of_two_or_three (λ one. single (Truth false))
    (λ one other third. chosen (value_of one) (value_of other) (value_of third))
function_value And = of_some all_value
function_value Or = of_some any_value
function_value Not = of_one (λ one. negated (value_of one))
function_value Abs = of_one (λ one. absolute (value_of one))
function_value Sign = of_one (λ one. sign (value_of one))
function_value Mod = of_two (λ one other. modulo (value_of one) (value_of other))
function_value Quotient = of_two (λ one other. whole_quotient (value_of one) (value_of other))
function_value Len = of_one (λ one. text_length (value_of one))
function_value Left = of_one_or_two (single (Number (pos 1))) (λ one other. left_part (value_of one) (value_of other))
function_value Right = of_one_or_two (single (Number (pos 1))) (λ one other. right_part (value_of one) (value_of other))
function_value Mid = of_three (λ one other third. middle_part (value_of one) (value_of other) (value_of third))
function_value Concatenate = of_some joined_value
function_value Exact = of_two (λ one other. same_text (value_of one) (value_of other))
function_value Index =
    of_two_or_three (λ one. single (Number (pos 1)))
    (λ one other third. indexed_value one (value_of other) (value_of third))
function_value Match =
    of_two_or_three (λ one. single (Number (pos 1)))
    (λ one other third. matched_place (value_of one) other (value_of third))
function_value CountIf = of_two (λ one other. matches_counted one (value_of other))
function_value SumIf = of_two_or_three (λ one. one) (λ one other third. matches_summed one (value_of other) third)
function_value Rows = of_one row_count
function_value Columns = of_one column_count
function_value IsBlank = of_one (λ one. Truth (is_blank (value_of one)))
function_value IsNumber = of_one (λ one. Truth (is_number (value_of one)))
function_value IsText = of_one (λ one. Truth (is_text (value_of one)))
function_value IsError = of_one (λ one. Truth (is_error (value_of one)))
function_value IfError = of_one_or_two (single Blank) (λ one other. unless_it_fails (value_of one) (value_of other))

-- the value of what a formula calls by a name
abbrev pub called_value : List ℕ → List Given → Value
called_value name given =
    option_map_or (λ function. function_value function given) (function_named name) (Error kind.Name)
