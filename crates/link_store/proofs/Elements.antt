-- What lists that are made of others have.
use Rattle.std.proofs.Common.{◌≡◌, inl, inr, ℕ, zero, suc, ◌+◌, ◌-◌, ◌<◌, ◌≤◌, List, [], ◌∷◌}
use Rattle.std.proofs.Common.{Bool, false, refl, sym, ap, subst, ◌∙◌, arith, map}
use Rattle.std.specs.Prelude.{Option, Some, None, Contains, nat_eq, slice_get}
use Rattle.std.specs.Option.{unwrap_or}
use Rattle.std.proofs.lemmas.Bool.{ne_eqb}
use Rattle.std.specs.List.{IsDistinct, flat_map, range_with_len}
use Rattle.std.proofs.lemmas.List.Elements.{Contains-append_left, Contains-append_right, Contains-append_cases}
use Rattle.std.proofs.lemmas.List.Elements.{Contains-get_or, All-contains}
use Rattle.std.proofs.lemmas.List.FromFn.{length-range_with_len, get_or-range_with_len}
use Rattle.std.proofs.lemmas.Map.Keys.{IsDistinct-head, IsDistinct-tail, IsDistinct-cons}
use Rattle.cell_value.specs.Elements.{Contains-map, Contains-map_from, Contains-cons, Contains-cons_cases, nothing_in}
use Rattle.cell_value.specs.Elements.{each_from, from_each, IsDistinct-none}

module _ {X Y : Type 0} where
  pub Contains-flat_map : (f : X → List Y) (xs : List X) (x : X) (y : Y) → Contains xs x → Contains (f x) y
      → Contains (flat_map f xs) y
  Contains-flat_map f [] x y has held = absurd (nothing_in x has)
  Contains-flat_map f (head ∷ xs) x y has held = elim (Contains-cons_cases head x xs has) [
    | inl here ↦ Contains-append_left (f head) (flat_map f xs) y (subst (λ z. Contains (f z) y) (sym here) held)
    | inr there ↦ Contains-append_right (f head) (flat_map f xs) y (Contains-flat_map f xs x y there held)
  ]

  pub Contains-flat_map_from : (f : X → List Y) (xs : List X) (y : Y) → Contains (flat_map f xs) y
      → (x : X) × Contains xs x × Contains (f x) y
  Contains-flat_map_from f [] y has = absurd (nothing_in y has)
  Contains-flat_map_from f (head ∷ xs) y has = elim (Contains-append_cases (f head) (flat_map f xs) y has) [
    | inl here ↦ (head, (0, omega arith, refl), here)
    | inr there ↦ let found = Contains-flat_map_from f xs y
        there in (found.0, Contains-cons head found.0 xs found.1, found.2)
  ]

pub range_low : (a n i : ℕ) → Contains (range_with_len a n) i → a ≤ i
range_low a n i has = All-contains (λ k. a ≤ k) (range_with_len a n) i
    (λ k d less. omega (arith, get_or-range_with_len a n k d (omega (arith, length-range_with_len a n)))) has

pub Contains-range : (n i : ℕ) → i < n → Contains (range_with_len 0 n) i
Contains-range n i less =
    subst (Contains (range_with_len 0 n)) (get_or-range_with_len 0 n i 0 less ∙ omega arith)
    (Contains-get_or (range_with_len 0 n) i 0 (omega (arith, length-range_with_len 0 n)))

pub Contains-range_from : (n i : ℕ) → Contains (range_with_len 0 n) i → i < n
Contains-range_from n i has = All-contains (λ k. k < n) (range_with_len 0 n) i
    (λ k d less. omega (
      arith,
      get_or-range_with_len 0 n k d (omega (arith, length-range_with_len 0 n)),
      length-range_with_len 0 n,
    )) has

pub range_high : (a n i : ℕ) → Contains (range_with_len a n) i → i < a + n
range_high a n i has = All-contains (λ k. k < a + n) (range_with_len a n) i
    (λ k d less. omega (
      arith,
      get_or-range_with_len a n k d (omega (arith, length-range_with_len a n)),
      length-range_with_len a n,
    )) has

pub range_has : (a n i : ℕ) → a ≤ i → i < a + n → Contains (range_with_len a n) i
range_has a n i low high =
    let there : i - a < n = omega arith in
    subst (Contains (range_with_len a n)) (get_or-range_with_len a n (i - a) 0 there ∙ omega arith)
    (Contains-get_or (range_with_len a n) (i - a) 0 (omega (arith, length-range_with_len a n)))

-- keys made of elements that differ, by a function that tells these apart
pub IsDistinct-map : {X K L : Type 0} (eq : K → K → Bool) (other : L → L → Bool) (f : X → K) (g : X → L)
    (xs : List X) → IsDistinct eq (map f xs)
    → ((x y : X) → Contains xs x → Contains xs y → eq (f x) (f y) ≡ false → other (g x) (g y) ≡ false)
    → IsDistinct other (map g xs)
IsDistinct-map eq other f g [] apart tells = IsDistinct-none other
IsDistinct-map {X} eq other f g (x ∷ xs) apart tells =
    IsDistinct-cons other (g x) (map g xs)
    (each_from (λ k. other (g x) k ≡ false) (map g xs) (λ k has.
    let found = Contains-map_from g xs k has in
    subst (λ l. other (g x) l ≡ false) found.2
    (tells x found.0 (0, omega arith, refl) (Contains-cons x found.0 xs found.1)
    (from_each (λ l. eq (f x) l ≡ false) (map f xs) (IsDistinct-head eq (f x) (map f xs) apart) (f found.0)
    (Contains-map f xs found.0 found.1)))))
    (IsDistinct-map eq other f g xs (IsDistinct-tail eq (f x) (map f xs) apart)
    (λ a b one two. tells a b (Contains-cons x a xs one) (Contains-cons x b xs two)))

-- numbers in a row differ
pub IsDistinct-range : (a n : ℕ) → IsDistinct nat_eq (range_with_len a n)
IsDistinct-range a zero = IsDistinct-none nat_eq
IsDistinct-range a (suc n) = IsDistinct-cons nat_eq a (range_with_len (a + 1) n)
    (each_from (λ k. nat_eq a k ≡ false) (range_with_len (a + 1) n) (λ k has.
    let above = range_low (a + 1) n k has in
    ne_eqb a k (λ same. omega arith)))
    (IsDistinct-range (a + 1) n)

-- the first of a list is in it
pub first_in : {X : Type 0} (xs : List X) (x : X) → Some x ≡ slice_get xs 0 → Contains xs x
first_in [] x is = absurd (cc (is))
first_in {X} (head ∷ xs) x is = (0, omega arith, ap (λ (o : Option X). unwrap_or o x) (sym is))

pub none_first : {X : Type 0} (xs : List X) → None ≡ slice_get xs 0 → xs ≡ []
none_first [] is = refl
none_first (head ∷ xs) is = absurd (cc (is))
