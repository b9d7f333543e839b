-- The numbers of rows.
use Rattle.std.proofs.Common.{ℕ, ◌+◌, ◌*◌, ◌≤◌, List, [], ◌∷◌, length, get_or, map, arith, ◌-◌}
use Rattle.std.specs.Prelude.{◌≡◌, ◌≢◌, Some, None, Result, Ok, Err}
use Rattle.std.specs.Char.{digit_value}
use Rattle.std.specs.Result.{result_ok}
use Rattle.std.specs.Str.Parse.{digits_value, ParsesUnsigned}
use Rattle.std.proofs.lemmas.Int.Digits.{digits_value_is, number_after_ge}
use Rattle.std.proofs.lemmas.Str.Parse.{parse_plain, digits_value_short}
use Rattle.std.proofs.lemmas.Bool.Decides.{nat_tests}
use Rattle.a1_notation.specs.Area.{IsRow}
use Rattle.a1_notation.proofs.RowNumbers.{numerals}

-- the first digit of a row's number
abbrev pub BeginsPositive : List ℕ → Type 0
BeginsPositive text = (49 ≤ get_or text 0 0) × (get_or text 0 0 ≤ 57)

positive_digit : (c : ℕ) → 49 ≤ c → c ≤ 57 → 1 ≤ digit_value c
positive_digit c low high = grind (arith, nat_tests)

pub positive_number : (text : List ℕ) → BeginsPositive text → 1 ≤ digits_value 10 text
positive_number [] begins = absurd (omega (arith, begins.0))
positive_number (c ∷ cs) begins =
    let digit = positive_digit c begins.0 begins.1 in
    omega
    (arith, digits_value_is 10 (c ∷ cs), number_after_ge 10 (0 * 10 + digit_value c) (map digit_value cs) (omega arith))

-- the number is the row's, counted from 1
abbrev pub IsParsedRow : List ℕ → ℕ → Type 0
IsParsedRow text number = (1 ≤ number) × IsRow text (number - 1)

-- what `parse` gives of a text that begins with a digit from 1 to 9
pub row_parsed : (text : List ℕ)
    (number : ℕ) → BeginsPositive text → length text ≤ 7 → ParsesUnsigned {E = ℕ} 32 10 text
    (Ok number) → IsParsedRow text number
row_parsed text number begins few parsed =
    let no_plus : get_or text 0 0 ≢ 43 = λ e. absurd (omega (arith, begins.0)) in
    let given = parse_plain numerals {E = ℕ} 32 text (Ok number) parsed no_plus in
    let positive = positive_number text begins in (
      omega (arith, given.1),
      record {
        digits = (given.0.1, given.0.0);
        first = λ e. absurd (omega (arith, begins.0));
        few = few;
        value = omega (arith, given.1);
      },
    )

pub row_not_parsed : (text : List ℕ) (row : ℕ) → ParsesUnsigned {E = ℕ} 32 10 text (Err 0) → BeginsPositive text → ¬
    (IsRow text row)
row_not_parsed text row parsed begins is =
    let no_plus : get_or text 0 0 ≢ 43 = λ e. absurd (omega (arith, begins.0)) in
    let refused = parse_plain numerals {E = ℕ} 32 text (Err 0) parsed no_plus in
    let short = digits_value_short numerals text 7 is.digits.1 is.few in
    refused (is.digits.1, is.digits.0, omega (arith, short))

-- the same of what `ok` makes of it
pub parsed_some : {E : Type 0} (text : List ℕ) (number : ℕ)
    (parsed : Result ℕ E) → result_ok parsed ≡ Some number → ParsesUnsigned 32 10 text parsed
    → ParsesUnsigned {E = ℕ} 32 10 text
    (Ok number)
parsed_some text number (Ok other) e given = let same : other ≡ number = cc in rw same at given
parsed_some text number (Err error) e given = cc

pub parsed_none : {E : Type 0} (text : List ℕ)
    (parsed : Result ℕ E) → result_ok parsed ≡ None → ParsesUnsigned 32 10 text parsed
    → ParsesUnsigned {E = ℕ} 32 10 text
    (Err 0)
parsed_none text (Ok other) e given = absurd cc
parsed_none text (Err error) e given = given
