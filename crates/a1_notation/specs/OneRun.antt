-- Laws of runs: a text begins with one run of bytes of a class.
use Rattle.std.proofs.Common.{◌≡◌, ℕ, Bool, true, false, List, [], ◌∷◌, ◌++◌, refl, sym, ◌∙◌, subst}
use Rattle.std.specs.List.{list_all}
use Rattle.std.proofs.lemmas.Bool.{and_parts, false≢true}
use Rattle.std.proofs.lemmas.List.Elements.{All-weaker}
use Rattle.std.proofs.lemmas.List.Sums.{AllPass-from_list_all, list_all-from_AllPass}
use Rattle.a1_notation.specs.Run.{begins, IsRun}

-- bytes that pass one test pass a weaker one
pub passes_weaker : (p q : ℕ → Bool) → ((x : ℕ) → p x ≡ true → q x ≡ true) → (xs : List ℕ)
    → list_all p xs ≡ true → list_all q xs ≡ true
passes_weaker p q weaker xs all =
    list_all-from_AllPass q xs
    (All-weaker (λ x. p x ≡ true) (λ x. q x ≡ true) weaker xs (AllPass-from_list_all p xs all))

-- a text has one front of bytes that pass a test
pub one_front : (class : ℕ → Bool) (xs ys xs' ys' : List ℕ) → list_all class xs ≡ true → list_all class xs' ≡ true
    → begins class ys ≡ false → begins class ys' ≡ false → xs ++ ys ≡ xs' ++ ys' → (xs ≡ xs') × (ys ≡ ys')
one_front class [] ys [] ys' all all' ends ends' e = (refl, e)
one_front class [] ys (x ∷ xs') ys' all all' ends ends' e =
    absurd
    (false≢true (sym (subst (λ text. begins class text ≡ false) e ends)
    ∙ (and_parts (class x) (list_all class xs') all').0))
one_front class (x ∷ xs) ys [] ys' all all' ends ends' e =
    absurd
    (false≢true (sym (subst (λ text. begins class text ≡ false) (sym e) ends')
    ∙ (and_parts (class x) (list_all class xs) all).0))
one_front class (x ∷ xs) ys (x' ∷ xs') ys' all all' ends ends' e =
    let head : x ≡ x' = cc in
    let tail : xs ++ ys ≡ xs' ++ ys' = cc in
    let rest = one_front class xs ys xs' ys' (and_parts (class x) (list_all class xs) all).1
    (and_parts (class x') (list_all class xs') all').1 ends ends' tail in
    (rw (head, rest.0) refl, rest.1)

-- so it has one run
pub run_is_one : (class : ℕ → Bool) (xs ys xs' ys' : List ℕ)
    → IsRun class xs ys → IsRun class xs' ys' → xs ++ ys ≡ xs' ++ ys' → (xs ≡ xs') × (ys ≡ ys')
run_is_one class xs ys xs' ys' a b e = one_front class xs ys xs' ys' a.all b.all a.ends b.ends e
