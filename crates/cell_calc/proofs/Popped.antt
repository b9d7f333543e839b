-- What is left of a list that gave its first or last element, and what two clauses say together.
use Rattle.std.proofs.Common.{◌≡◌, ℕ, suc, ◌==◌, true, List, [], ◌∷◌, ◌++◌, length, Option, Some, Result, Ok, Err, refl, ap, ◌∙◌, arith}
use Rattle.std.specs.Option.{option_to_list}
use Rattle.std.specs.Result.{OnOk}
use Rattle.std.proofs.lemmas.Bool.Decides.{nat_tests}

pub popped : {A : Type 0} → (old new : List A) (r : Option A) (x : A) → old ≡ option_to_list r ++ new → r ≡ Some x
    → old ≡ x ∷ new
popped old new r x items is = items ∙ ap (λ o. option_to_list o ++ new) is

pub cut_off : {A : Type 0} → (old new : List A) (r : Option A) (x : A) → old ≡ new ++ option_to_list r → r ≡ Some x
    → old ≡ new ++ x ∷ []
cut_off old new r x items is = items ∙ ap (λ o. new ++ option_to_list o) is

pub no_rest : {A : Type 0} → (xs : List A) → length xs ≡ 0 → xs ≡ []
no_rest [] none = refl
no_rest (x ∷ xs) none = let no : suc (length xs) ≡ 0 = none in absurd (omega (arith, no))

pub is_nought : (n : ℕ) → (n == 0) ≡ true → n ≡ 0
is_nought n is = grind (arith, nat_tests)

pub both_on_ok : {T E P Q R : Type 0} → (r : Result T E) → (P → Q → R) → OnOk r P → OnOk r Q → OnOk r R
both_on_ok (Ok x) f p q = f p q
both_on_ok (Err e) f p q = tt
