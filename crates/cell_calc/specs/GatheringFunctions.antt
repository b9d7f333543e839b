-- The values of functions of all their arguments and of the cells of those that are areas (Google Docs
-- Editors Help, "Google Sheets function list": SUM, MIN, MAX, AND, OR, CONCATENATE, COUNT and COUNTA).
use Rattle.std.specs.Prelude.{ℕ, ℤ, pos, ◌+ℤ◌, Bool, true, false, not, ◌==◌, List, [], ◌∷◌, map, fold, filter, length, count_by, slice_index_or, flat_map, is_ok, if◌then◌else◌, Result, Ok, Err}
use Rattle.std.specs.Int.{int_min, int_max}
use Rattle.std.specs.List.{list_all, list_any}
use Rattle.cell_value.specs.declared.cell.Kind.{Kind}
use Rattle.cell_value.specs.declared.cell.Kind.TheVariants as kind
use Rattle.cell_value.specs.declared.cell.Value.{Value}
use Rattle.cell_value.specs.declared.cell.Value.TheVariants.{Blank, Number, Text, Truth, Error}
use Rattle.cell_calc.specs.Conversion.{number_of, truth_of, text_of}
use Rattle.cell_calc.specs.Outcome.{whole, text_within, value_by, error_or, leftmost}
use Rattle.cell_calc.specs.LogicFunctions.{is_blank, is_number}
use Rattle.cell_calc.specs.Arguments.{Given, single, area, error_given}

-- a cell of an area that a function of numbers takes; texts, truth values and blank are passed over
abbrev pub is_number_or_error : Value → Bool
is_number_or_error Blank = false
is_number_or_error (Number number) = true
is_number_or_error (Text text) = false
is_number_or_error (Truth truth) = false
is_number_or_error (Error fault) = true

-- one that a function of truth values takes; texts and blank are passed over
abbrev pub is_truth_or_error : Value → Bool
is_truth_or_error Blank = false
is_truth_or_error (Number number) = true
is_truth_or_error (Text text) = false
is_truth_or_error (Truth truth) = true
is_truth_or_error (Error fault) = true

-- one that holds something
abbrev pub is_filled : Value → Bool
is_filled value = not (is_blank value)

-- the values of an argument: itself, or the cells that are taken
abbrev pub values_taken : (Value → Bool) → Given → List Value
values_taken takes (single value) = value ∷ []
values_taken takes (area cells) = filter takes cells.values

-- a good result before others
abbrev pub good_before : {A : Type 0} → A → Result (List A) Kind → Result (List A) Kind
good_before good (Ok others) = Ok (good ∷ others)
good_before good (Err fault) = Err fault

-- all of the good results, or the leftmost error
abbrev pub all_good : {A : Type 0} → List (Result A Kind) → Result (List A) Kind
all_good [] = Ok []
all_good (Ok good ∷ later) = good_before good (all_good later)
all_good (Err fault ∷ later) = Err fault

-- what the values of all arguments are, an argument in error before anything else
abbrev pub gathered : {A : Type 0} → (Value → Result A Kind) → (Value → Bool) → List Given → Result (List A) Kind
gathered convert takes arguments =
    error_or (leftmost (map error_given arguments))
    (all_good (map convert (flat_map (values_taken takes) arguments)))

abbrev pub numbers_given : List Given → Result (List ℤ) Kind
numbers_given arguments = gathered number_of is_number_or_error arguments

abbrev pub truths_given : List Given → Result (List Bool) Kind
truths_given arguments = gathered truth_of is_truth_or_error arguments

-- blank has no text to join
abbrev pub texts_given : List Given → Result (List (List ℕ)) Kind
texts_given arguments = gathered text_of is_filled arguments

-- SUM, judged as a whole
abbrev pub sum_value : List Given → Value
sum_value arguments = value_by (λ numbers. whole (fold ◌+ℤ◌ (pos 0) numbers)) (numbers_given arguments)

-- the best of numbers by a choice between two, from the first on, and 0 of none
abbrev pub best_of : (ℤ → ℤ → ℤ) → List ℤ → ℤ
best_of better numbers = fold better (slice_index_or numbers 0 (pos 0)) numbers

-- MIN
abbrev pub least_value : List Given → Value
least_value arguments = value_by (λ numbers. whole (best_of int_min numbers)) (numbers_given arguments)

-- MAX
abbrev pub greatest_value : List Given → Value
greatest_value arguments = value_by (λ numbers. whole (best_of int_max numbers)) (numbers_given arguments)

-- whether all or some of truth values are TRUE; #VALUE! of none
abbrev pub truth_by : (List Bool → Bool) → List Bool → Value
truth_by join truths = if length truths == 0 then Error kind.Value else Truth (join truths)

-- AND
abbrev pub all_value : List Given → Value
all_value arguments = value_by (truth_by (list_all (λ truth. truth))) (truths_given arguments)

-- OR
abbrev pub any_value : List Given → Value
any_value arguments = value_by (truth_by (list_any (λ truth. truth))) (truths_given arguments)

-- CONCATENATE
abbrev pub joined_value : List Given → Value
joined_value arguments = value_by (λ texts. text_within (flat_map (λ text. text) texts)) (texts_given arguments)

-- COUNT: how many are numbers; errors are none
abbrev pub count_value : List Given → Value
count_value arguments =
    whole (pos (count_by (λ value. is_ok (number_of value)) (flat_map (values_taken is_number) arguments)))

-- COUNTA: how many values there are, errors among them
abbrev pub count_all_value : List Given → Value
count_all_value arguments = whole (pos (length (flat_map (values_taken is_filled) arguments)))
