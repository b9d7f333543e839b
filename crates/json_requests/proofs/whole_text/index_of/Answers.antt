use Rattle.std.proofs.Common.{◌≡◌, ◌∙◌, ◌<◌, ◌^◌, ap, sym, subst, inl, inr, false, nat_le, refl, arith}
use Rattle.std.specs.Str.Parse.{IsNumeral, digits_value}
use Rattle.std.proofs.lemmas.Bool.{cases_Bool, leb-true}
use Rattle.json_shapes.specs.Scalars.{greatest_index, within_index}
use Rattle.json_requests.proofs.WholeTextLemmas.{digits_are_numeral, without_plus}
use Rattle.json_requests.proofs.whole_text.index_of.Goals as goal

pub returns-in-Ok : goal.returns-in-Ok
returns-in-Ok c =
    c.within_index.ensures
    ∙ ap within_index (c.in-Ok.ensures.value.0.1 ∙ ap (digits_value 10) (without_plus c.args.text.now c.requires))

past : (c : goal.In-Err) → nat_le (digits_value 10 c.args.text.now) greatest_index ≡ false
past c = elim (cases_Bool (nat_le (digits_value 10 c.args.text.now) greatest_index)) [
  | inl small ↦ absurd (c.in-Err.ensures.value.0 (
      subst (λ text. IsNumeral 10 text × (digits_value 10 text < 2 ^ 64))
      (sym (without_plus c.args.text.now c.requires)) (
        digits_are_numeral c.args.text.now c.requires,
        omega (arith, leb-true (digits_value 10 c.args.text.now) greatest_index small),
      )
      ))
  | inr large ↦ large
]

-- a number that isn't read is past 64 bits, and so no index
pub returns-in-Err : goal.returns-in-Err
returns-in-Err c = rw (past c) refl
