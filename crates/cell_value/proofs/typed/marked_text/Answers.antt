use Rattle.std.proofs.Common.{◌≡◌, ◌≢◌, inl, inr, ℕ, nat_eq, false, List, [], ◌∷◌, refl, ap, arith, lit<, IfNone, Option, Some, None, Bor, MatchOption}
use Rattle.std.proofs.lemmas.Bool.{cases_Bool}
use Rattle.std.proofs.lemmas.Str.Pattern.{strip_prefix_char}
use Rattle.std.proofs.lemmas.Bool.Decides.{nat_tests}
use Rattle.cell_value.specs.Typed.{is_marked_text}
use Rattle.cell_value.proofs.typed.marked_text.Goals as goal

not_marked : (text : List ℕ) → ((rest : List ℕ) → text ≢ 39 ∷ rest) → is_marked_text text ≡ false
not_marked [] other = refl
not_marked (first ∷ more) other = elim (cases_Bool (nat_eq first 39)) [
  | inl quote ↦ absurd (other more (ap (λ c. c ∷ more) (grind (arith, nat_tests))))
  | inr plain ↦ plain
]

if_none : (text : List ℕ) (r : Option (Bor (List ℕ)))
    → MatchOption r ((rest : List ℕ) → text ≢ 39 ∷ rest) (λ x. text ≡ 39 ∷ x.now)
    → IfNone r (is_marked_text text ≡ false)
if_none text None found = not_marked text found
if_none text (Some x) found = tt

pub returns-clause-none : goal.returns-clause-none
returns-clause-none c =
    if_none c.args.text.now c.strip_prefix.result
    (strip_prefix_char 39 c.args.text.now c.strip_prefix.result c.strip_prefix.ensures.cases (lit< tt))
