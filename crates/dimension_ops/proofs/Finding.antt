-- The first item that passes a test: it, and its place.
use Rattle.std.proofs.Common.{◌≡◌, ℕ, zero, suc, ◌+◌, ◌<◌, refl, sym, ap, ◌∙◌, List, [], ◌∷◌, length, get_or, cond, Bool, true, false, arith, inl, inr}
use Rattle.std.specs.Prelude.{Option, None, Some, map}
use Rattle.std.specs.List.{find, position_from}
use Rattle.std.specs.Option.{option_map}
use Rattle.std.proofs.Common.{subst}
use Rattle.std.proofs.lemmas.List.{length-map}
use Rattle.std.proofs.lemmas.Bool.{cases_Bool, cond-true, cond-false}

-- the test passes at the place, which is there, and the item that is found stands there
pub record IsFoundAt {X : Type 0} (test : X → Bool) (xs : List X) (place : ℕ) : Type 0 where
  pub there : place < length xs
  pub passes : (d : X) → test (get_or xs place d) ≡ true
  pub found : (d : X) → find test xs ≡ Some (get_or xs place d)

module _ {X : Type 0} (test : X → Bool) where
  later : (x : X) (xs : List X) (place : ℕ) → test x ≡ false → IsFoundAt test xs place
      → IsFoundAt test (x ∷ xs) (suc place)
  later x xs place fails at = record {
    there = let lt = at.there in omega arith;
    passes = at.passes;
    found = λ d. cond-false (test x) (Some x) (find test xs) fails ∙ at.found d;
  }

  first : (x : X) (xs : List X) → test x ≡ true → IsFoundAt test (x ∷ xs) zero
  first x xs passes = record {
    there = omega arith;
    passes = λ d. passes;
    found = λ d. cond-true (test x) (Some x) (find test xs) passes;
  }

  some_one : (i k : ℕ) → Some i ≡ Some k → i ≡ k
  some_one i k h = cc

  pub found_from : (xs : List X) (i k : ℕ) → position_from test i xs ≡ Some k
      → (place : ℕ) × (k ≡ i + place) × IsFoundAt test xs place
  found_from [] i k h = absurd (none_some k h)
    where
      none_some : (k : ℕ) → None ≡ Some k → ⊥
      none_some k h = cc
  found_from (x ∷ xs) i k h = elim (cases_Bool (test x)) [
    | inl passes ↦
        let one : i ≡ k = some_one i k (sym (cond-true (test x) (Some i) (position_from test (i + 1) xs) passes) ∙ h) in
        (zero, omega arith, first x xs passes)
    | inr fails ↦
        let (place, is, at) =
        found_from xs (i + 1) k (sym (cond-false (test x) (Some i) (position_from test (i + 1) xs) fails) ∙ h) in
        (suc place, omega arith, later x xs place fails at)
  ]

  pub none_from : (xs : List X) (i : ℕ) → position_from test i xs ≡ None → find test xs ≡ None
  none_from [] i h = refl
  none_from (x ∷ xs) i h = elim (cases_Bool (test x)) [
    | inl passes ↦ absurd (some_none i (sym (cond-true (test x) (Some i) (position_from test (i + 1) xs) passes) ∙ h))
    | inr fails ↦ cond-false (test x) (Some x) (find test xs) fails
        ∙ none_from xs (i + 1) (sym (cond-false (test x) (Some i) (position_from test (i + 1) xs) fails) ∙ h)
  ]
    where
      some_none : (i : ℕ) → Some i ≡ None → ⊥
      some_none i h = cc

-- the same in a list and in what its items are seen as
pub position_from-map : {X Y : Type 0} (test : Y → Bool) (f : X → Y) (xs : List X) (i : ℕ)
    → position_from (λ x. test (f x)) i xs ≡ position_from test i (map f xs)
position_from-map test f [] i = refl
position_from-map test f (x ∷ xs) i = ap (cond (test (f x)) (Some i)) (position_from-map test f xs (i + 1))

pub found_at : {X : Type 0} (test : X → Bool) (xs : List X) (k : ℕ) → position_from test 0 xs ≡ Some k
    → IsFoundAt test xs k
found_at test xs k h =
    let (place, is, at) = found_from test xs 0 k h in
    let same : place ≡ k = omega (arith, is) in
    subst (IsFoundAt test xs) same at

-- the first of what items are seen as
pub find-map : {X Y : Type 0} (test : Y → Bool) (f : X → Y) (xs : List X)
    → option_map f (find (λ x. test (f x)) xs) ≡ find test (map f xs)
find-map test f [] = refl
find-map test f (x ∷ xs) = elim (test (f x)) as (λ b. option_map f (cond b (Some x) (find (λ x. test (f x)) xs))
    ≡ cond b (Some (f x)) (find test (map f xs))) [ true ↦ refl | false ↦ find-map test f xs ]

pub there_seen : {X Y : Type 0} (test : Y → Bool) (f : X → Y) (xs : List X) (k : ℕ)
    → IsFoundAt test (map f xs) k → k < length xs
there_seen test f xs k at = let there = at.there in let long = length-map xs f in omega (arith, there, long)

pub option_map-twice : {X Y Z : Type 0} (f : X → Y) (g : Y → Z) (o : Option X)
    → option_map (λ x. g (f x)) o ≡ option_map g (option_map f o)
option_map-twice f g None = refl
option_map-twice f g (Some x) = refl
