-- Digits are a numeral, and a number that is small enough is read.
use Rattle.std.proofs.Common.{◌≡◌, ℕ, nat_lt, ◌<◌, ◌≤◌, true, List, [], ◌∷◌, length, get_or, ℤ, arith, w64, FitsSigned, unsigned_abs}
use Rattle.std.specs.Prelude.{◌≢◌}
use Rattle.std.specs.List.{list_all}
use Rattle.std.specs.Char.{is_ascii_digit, digit_value}
use Rattle.std.specs.Str.Parse.{AllDigits, IsNumeral, without_leading_plus}
use Rattle.std.proofs.lemmas.Str.Parse.{without_leading_plus_none}
use Rattle.std.proofs.lemmas.Bool.{and_parts, false≢true}
use Rattle.std.proofs.lemmas.Bool.Decides.{nat_tests}
use Rattle.std.proofs.lemmas.Int.{fits_signed_from_abs}
use Rattle.cell_value.specs.Limits.{largest}
use Rattle.cell_value.specs.Typed.{are_digits}

digit_is : (c : ℕ) → is_ascii_digit c ≡ true → (digit_value c < 10) × (c ≢ 43)
digit_is c digit = (grind (arith, nat_tests), λ e. absurd (false≢true (rw e at digit)))

all_digits : (ds : List ℕ) → list_all is_ascii_digit ds ≡ true → AllDigits 10 ds
all_digits [] all = tt
all_digits (d ∷ ds) all =
    let parts = and_parts (is_ascii_digit d) (list_all is_ascii_digit ds) all in
    ((digit_is d parts.0).0, all_digits ds parts.1)

pub digits_are_numeral : (ds : List ℕ) → are_digits ds ≡ true → IsNumeral 10 ds
digits_are_numeral ds are =
    let parts = and_parts (nat_lt 0 (length ds)) (list_all is_ascii_digit ds) are in
    (grind (arith, nat_tests), all_digits ds parts.1)

pub small_fits : (z : ℤ) → unsigned_abs z ≤ largest → FitsSigned w64 z
small_fits z small = fits_signed_from_abs w64 z (omega (arith, small))

no_plus : (ds : List ℕ) → list_all is_ascii_digit ds ≡ true → get_or ds 0 0 ≢ 43
no_plus [] all = λ e. absurd (omega arith)
no_plus (d ∷ ds) all = (digit_is d (and_parts (is_ascii_digit d) (list_all is_ascii_digit ds) all).0).1

-- digits have no sign
pub without_plus : (ds : List ℕ) → are_digits ds ≡ true → without_leading_plus ds ≡ ds
without_plus ds are =
    without_leading_plus_none ds (no_plus ds (and_parts (nat_lt 0 (length ds)) (list_all is_ascii_digit ds) are).1)
