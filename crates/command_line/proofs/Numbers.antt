-- A number that is read from its text.
use Rattle.std.proofs.Common.{◌≡◌, ◌≢◌, ℕ, zero, suc, ◌<◌, ◌≤◌, ◌^◌, List, length, get_or, Some, Result, Ok, Err, sym}
use Rattle.std.proofs.Common.{ap, ◌∙◌, arith}
use Rattle.std.specs.Fmt.{decimal}
use Rattle.std.specs.Result.{result_ok}
use Rattle.std.specs.Str.Parse.{AllDigits, digits_value, ParsesUnsigned}
use Rattle.std.proofs.lemmas.Str.Parse.{IsNumeralModel, numerals_by_value, tells_digits, parse_plain, digit_at}
use Rattle.std.proofs.lemmas.Fmt.{parse-decimal, decimal-digits_value, decimal_digit, first_decimal, digits_decimal}
use Rattle.std.proofs.lemmas.Fmt.{decimal_nonempty}
use Rattle.command_line.specs.Words.{IsNumber, BeginsPositive}

numerals : IsNumeralModel (AllDigits 10) (digits_value 10)
numerals = numerals_by_value (AllDigits 10) tells_digits

-- the text of a number above 0 begins with a digit from 1 to 9
pub number_begins : (most : ℕ) (text : List ℕ) (number : ℕ) → most < 2 ^ 32 → IsNumber most text number
    → BeginsPositive text
number_begins most text number small is =
    let fits : number < 2 ^ 64 = omega (arith, is.2) in
    let first = first_decimal number (omega (arith, is.1)) fits in
    let digit = digit_at (decimal number) 0 (digits_decimal numerals number fits) (decimal_nonempty number fits) in
    let same : get_or text 0 0 ≡ get_or (decimal number) 0 0 = ap (λ (t : List ℕ). get_or t 0 0) is.0 in
    (omega (arith, first, same), omega (arith, digit.1, same))

-- what `parse` gives of a text that begins so
pub number_read : {E : Type 0} (most : ℕ) (text : List ℕ) (number : ℕ) (parsed : Result ℕ E)
    → BeginsPositive text → Some number ≡ result_ok parsed → ParsesUnsigned 32 10 text parsed → number ≤ most
    → IsNumber most text number
number_read most text number (Err error) begins is parses small = absurd cc
number_read {E} most text number (Ok other) begins is parses small =
    let same : other ≡ number = cc in
    let no_plus : get_or text 0 0 ≢ 43 = λ e. absurd (omega (arith, begins.0, e)) in
    let given = parse_plain numerals {E = E} 32 text (Ok other) parses no_plus in
    let no_zero : get_or text 0 0 ≡ 48 → length text ≡ 1 = λ e. absurd (omega (arith, begins.0, e)) in
    let written = decimal-digits_value numerals text given.0.0 given.0.1 no_zero (omega (arith, given.0.2)) in
    let value_is : digits_value 10 text ≡ number = sym given.1 ∙ same in
    let text_is : text ≡ decimal number = sym written ∙ ap decimal value_is in
    (text_is, positive number text_is, small)
  where
    positive : (n : ℕ) → text ≡ decimal n → 1 ≤ n
    positive zero e =
        let first : get_or text 0 0 ≡ 48 = ap (λ (t : List ℕ). get_or t 0 0) (e ∙ decimal_digit 0 (omega arith)) in
        absurd (omega (arith, begins.0, first))
    positive (suc n) e = omega arith

-- what `parse` gives of the text of a number
pub number_parsed : {E : Type 0} (most : ℕ) (text : List ℕ) (number : ℕ) (parsed : Result ℕ E)
    → most < 2 ^ 32 → ParsesUnsigned 32 10 text parsed → IsNumber most text number → result_ok parsed ≡ Some number
number_parsed {E} most text number parsed small parses is =
    ap (λ (r : Result ℕ E). result_ok r)
    (parse-decimal 32 number text parsed (omega (arith, is.2)) (omega (arith, is.2)) is.0 parses)
