-- Rows: their numbers have at most seven digits, and the number that is written for a row names it.
use Rattle.std.proofs.Common.{ℕ, ◌+◌, ◌<◌, true, List, [], ◌∷◌, refl, arith}
use Rattle.std.specs.Prelude.{◌≡◌}
use Rattle.std.specs.Char.{digit_value, is_ascii_digit}
use Rattle.std.specs.Fmt.{decimal}
use Rattle.std.specs.List.{list_all}
use Rattle.std.specs.Str.Parse.{AllDigits, digits_value}
use Rattle.std.proofs.lemmas.Bool.{and_from}
use Rattle.std.proofs.lemmas.Bool.Decides.{nat_tests}
use Rattle.std.proofs.lemmas.Fmt.{decimal_is_IsNumeral, length-decimal-le, first_decimal}
use Rattle.std.proofs.lemmas.Str.Parse.{IsNumeralModel, numerals_by_value, tells_digits, digits_value_short}
use Rattle.a1_notation.specs.declared.row.TheConstants.{NUMBERED_ROWS}
use Rattle.a1_notation.specs.Area.{IsRow}

pub numerals : IsNumeralModel (AllDigits 10) (digits_value 10)
numerals = numerals_by_value (AllDigits 10) tells_digits

-- the digits of a number are ASCII digits
pub digit_is_digit : (b : ℕ) → digit_value b < 10 → is_ascii_digit b ≡ true
digit_is_digit b h = grind (arith, nat_tests)

pub all_digits : (digits : List ℕ) → AllDigits 10 digits → list_all is_ascii_digit digits ≡ true
all_digits [] all = refl
all_digits (d ∷ ds) all =
    and_from (is_ascii_digit d) (list_all is_ascii_digit ds) (digit_is_digit d all.0) (all_digits ds all.1)

-- a number of at most seven digits is a row up to 9,999,999
pub row_is_small : (text : List ℕ) (row : ℕ) → IsRow text row → row < NUMBERED_ROWS
row_is_small text row is = omega (arith, digits_value_short numerals text 7 is.digits.1 is.few, is.value)

-- the number that is written for a row names it
pub number_names_row : (row : ℕ) → row < NUMBERED_ROWS → IsRow (decimal (row + 1)) row
number_names_row row small =
    let numeral = decimal_is_IsNumeral (row + 1) (omega arith) in
    record {
      digits = numeral.0;
      first = let first = first_decimal (row + 1) (omega arith) (omega arith) in λ e. absurd (omega arith);
      few = length-decimal-le 7 (row + 1) (omega arith) (omega arith) (omega arith);
      value = numeral.1;
    }
