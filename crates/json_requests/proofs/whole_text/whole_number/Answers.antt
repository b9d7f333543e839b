use Rattle.std.proofs.Common.{◌≡◌, inl, inr, false, nat_le, refl}
use Rattle.std.specs.Prelude.{unsigned_abs}
use Rattle.std.specs.Str.Parse.{signed_digits_value, without_leading_sign}
use Rattle.std.proofs.lemmas.Bool.{cases_Bool, leb-true}
use Rattle.cell_value.specs.Limits.{largest}
use Rattle.json_requests.proofs.WholeTextLemmas.{digits_are_numeral, small_fits}
use Rattle.json_requests.proofs.whole_text.whole_number.Goals as goal

past : (c : goal.In-Err) → nat_le (unsigned_abs (signed_digits_value 10 c.args.text.now)) largest ≡ false
past c = elim (cases_Bool (nat_le (unsigned_abs (signed_digits_value 10 c.args.text.now)) largest)) [
  | inl small ↦ absurd (c.in-Err.ensures.value.0 (
    digits_are_numeral (without_leading_sign c.args.text.now) c.requires,
    small_fits (signed_digits_value 10 c.args.text.now)
        (leb-true (unsigned_abs (signed_digits_value 10 c.args.text.now)) largest small),
  ))
  | inr large ↦ large
]

-- a number that isn't read is past 64 bits, and so past 2^53
pub returns-in-Err : goal.returns-in-Err
returns-in-Err c = rw (past c) refl
