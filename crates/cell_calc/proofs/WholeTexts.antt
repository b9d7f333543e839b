-- A text that is digits behind an optional sign is what is read as a number of 64 bits, within 2^53.
use Rattle.std.proofs.Common.{◌≡◌, ℕ, nat_lt, ◌<◌, true, ◌&&◌, List, [], ◌∷◌, length, ℤ, arith, w64, FitsSigned, unsigned_abs, refl, ap, sym, ◌∙◌, inl, inr, cond}
use Rattle.std.specs.Prelude.{Some, None}
use Rattle.std.specs.List.{list_all}
use Rattle.std.specs.Char.{is_ascii_digit, digit_value}
use Rattle.std.specs.Str.Parse.{AllDigits, IsNumeral, signed_digits_value, without_leading_sign}
use Rattle.std.proofs.lemmas.Bool.{and_parts, cases_Bool, leb-true}
use Rattle.std.proofs.lemmas.Bool.Decides.{nat_tests}
use Rattle.std.proofs.lemmas.Int.{fits_signed_from_abs}
use Rattle.cell_value.specs.Limits.{largest}
use Rattle.cell_value.specs.Typed.{are_digits, is_whole}
use Rattle.cell_calc.specs.Conversion.{is_within, within, number_in}

digit_is_small : (c : ℕ) → is_ascii_digit c ≡ true → digit_value c < 10
digit_is_small c digit = grind (arith, nat_tests)

small_is_digit : (c : ℕ) → digit_value c < 10 → is_ascii_digit c ≡ true
small_is_digit c small = grind (arith, nat_tests)

all_digits : (ds : List ℕ) → list_all is_ascii_digit ds ≡ true → AllDigits 10 ds
all_digits [] all = tt
all_digits (d ∷ ds) all =
    let parts = and_parts (is_ascii_digit d) (list_all is_ascii_digit ds) all in
    (digit_is_small d parts.0, all_digits ds parts.1)

are_all_digits : (ds : List ℕ) → AllDigits 10 ds → list_all is_ascii_digit ds ≡ true
are_all_digits [] all = refl
are_all_digits (d ∷ ds) all = ap (λ b. b && list_all is_ascii_digit ds) (small_is_digit d all.0)
    ∙ are_all_digits ds all.1

pub digits_are_numeral : (ds : List ℕ) → are_digits ds ≡ true → IsNumeral 10 ds
digits_are_numeral ds are =
    let parts = and_parts (nat_lt 0 (length ds)) (list_all is_ascii_digit ds) are in
    (grind (arith, nat_tests), all_digits ds parts.1)

pub numeral_is_digits : (ds : List ℕ) → IsNumeral 10 ds → are_digits ds ≡ true
numeral_is_digits ds is =
    let some : nat_lt 0 (length ds) ≡ true = grind (arith, nat_tests, is.0) in
    ap (λ b. b && list_all is_ascii_digit ds) some ∙ are_all_digits ds is.1

pub within_fits : (z : ℤ) → is_within z ≡ true → FitsSigned w64 z
within_fits z within = fits_signed_from_abs w64 z (omega (arith, leb-true (unsigned_abs z) largest within))

-- a text that is read as a number has that one, if it is within 2^53
pub number_read : (text : List ℕ) → IsNumeral 10 (without_leading_sign text)
    → within (signed_digits_value 10 text) ≡ number_in text
number_read text is =
    ap (λ b. cond b (within (signed_digits_value 10 text)) None)
    (sym (numeral_is_digits (without_leading_sign text) is))

-- a number that isn't read is past 64 bits, and so past 2^53
past : (text : List ℕ)
    → ¬ (IsNumeral 10 (without_leading_sign text) × FitsSigned w64 (signed_digits_value 10 text))
    → IsNumeral 10 (without_leading_sign text) → None ≡ within (signed_digits_value 10 text)
past text missed numeral =
    let number = signed_digits_value 10 text in
    elim (cases_Bool (is_within number)) [
      | inl small ↦ absurd (missed (numeral, within_fits number small))
      | inr large ↦ ap (λ b. cond b (Some number) None) (sym large)
    ]

-- a text that isn't has none
pub number_missed : (text : List ℕ)
    → ¬ (IsNumeral 10 (without_leading_sign text) × FitsSigned w64 (signed_digits_value 10 text))
    → None ≡ number_in text
number_missed text missed =
    elim (cases_Bool (is_whole text)) [
      | inl writes ↦
          past text missed (digits_are_numeral (without_leading_sign text) writes)
          ∙ ap (λ b. cond b (within (signed_digits_value 10 text)) None) (sym writes)
      | inr writes_none ↦ ap (λ b. cond b (within (signed_digits_value 10 text)) None) (sym writes_none)
    ]
