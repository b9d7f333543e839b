-- What comes of a number, a text or an error (Google Sheets API v4 reference, ErrorType). The bounds are
-- those of what a cell may hold.
use Rattle.std.specs.Prelude.{ℕ, ℤ, List, [], ◌∷◌, length, map, nat_le, if◌then◌else◌, Option, Some, None, Result, Ok, Err}
use Rattle.std.specs.Option.{option_or}
use Rattle.cell_value.specs.Limits.{longest}
use Rattle.cell_value.specs.declared.cell.Kind.{Kind}
use Rattle.cell_value.specs.declared.cell.Kind.TheVariants as kind
use Rattle.cell_value.specs.declared.cell.Value.{Value}
use Rattle.cell_value.specs.declared.cell.Value.TheVariants.{Number, Text, Error}
use Rattle.cell_calc.specs.Conversion.{is_within, number_of, text_of, error_in}

-- a number; #NUM! past 2^53 either way
abbrev pub whole : ℤ → Value
whole number = if is_within number then Number number else Error kind.Num

-- a text; #VALUE! of more than 50,000 bytes
abbrev pub text_within : List ℕ → Value
text_within text = if nat_le (length text) longest then Text text else Error kind.Value

-- what is made of a good result, or its error
abbrev pub value_by : {A : Type 0} → (A → Value) → Result A Kind → Value
value_by make (Ok good) = make good
value_by make (Err fault) = Error fault

-- two good results, or the error of the left one, or that of the right one
abbrev pub both : {A B : Type 0} → Result A Kind → Result B Kind → Result (A × B) Kind
both (Ok left) (Ok right) = Ok (left, right)
both (Ok left) (Err fault) = Err fault
both (Err fault) right = Err fault

-- the leftmost of errors, where there are some
abbrev pub leftmost : List (Option Kind) → Option Kind
leftmost [] = None
leftmost (fault ∷ later) = option_or fault (leftmost later)

-- the leftmost error among values
abbrev pub leftmost_error : List Value → Option Kind
leftmost_error values = leftmost (map error_in values)

-- that error, where there is one, before the outcome
abbrev pub error_or : {A : Type 0} → Option Kind → Result A Kind → Result A Kind
error_or (Some fault) outcome = Err fault
error_or None outcome = outcome

-- that error, where there is one, before anything else
abbrev pub unless_error : Option Kind → Value → Value
unless_error (Some fault) value = Error fault
unless_error None value = value

-- what two values are as numbers, the leftmost error before anything else
abbrev pub two_numbers : Value → Value → Result (ℤ × ℤ) Kind
two_numbers left right = error_or (leftmost_error (left ∷ right ∷ [])) (both (number_of left) (number_of right))

-- what two values are as texts
abbrev pub two_texts : Value → Value → Result (List ℕ × List ℕ) Kind
two_texts left right = both (text_of left) (text_of right)
