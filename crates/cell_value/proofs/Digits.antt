-- Digits that are tested one by one are a numeral, and a number within 2^53 fits 64 bits.
use Rattle.std.proofs.Common.{◌≡◌, ℕ, nat_lt, ◌<◌, ◌≤◌, true, List, [], ◌∷◌, length, ℤ, arith, w64, FitsSigned, unsigned_abs}
use Rattle.std.specs.List.{list_all}
use Rattle.std.specs.Char.{is_ascii_digit, digit_value}
use Rattle.std.specs.Str.Parse.{AllDigits, IsNumeral}
use Rattle.std.proofs.lemmas.Bool.{and_parts}
use Rattle.std.proofs.lemmas.Bool.Decides.{nat_tests}
use Rattle.std.proofs.lemmas.Int.{fits_signed_from_abs}
use Rattle.cell_value.specs.Limits.{largest}
use Rattle.cell_value.specs.Typed.{are_digits}

digit_is_small : (c : ℕ) → is_ascii_digit c ≡ true → digit_value c < 10
digit_is_small c digit = grind (arith, nat_tests)

all_digits : (ds : List ℕ) → list_all is_ascii_digit ds ≡ true → AllDigits 10 ds
all_digits [] all = tt
all_digits (d ∷ ds) all =
    let parts = and_parts (is_ascii_digit d) (list_all is_ascii_digit ds) all in
    (digit_is_small d parts.0, all_digits ds parts.1)

pub digits_are_numeral : (ds : List ℕ) → are_digits ds ≡ true → IsNumeral 10 ds
digits_are_numeral ds are =
    let parts = and_parts (nat_lt 0 (length ds)) (list_all is_ascii_digit ds) are in
    (grind (arith, nat_tests), all_digits ds parts.1)

pub small_fits : (z : ℤ) → unsigned_abs z ≤ largest → FitsSigned w64 z
small_fits z small = fits_signed_from_abs w64 z (omega (arith, small))
