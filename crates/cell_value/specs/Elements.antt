-- Laws of what lists have: from the first element on, and what `map`, `filter`, `filter_map` and one list behind
-- another make.
use Rattle.std.proofs.Common.{◌≡◌, ◌<◌, ◌⊎◌, inl, inr, ℕ, zero, suc, List, [], ◌∷◌, ◌++◌, length, get_or, map, Bool, true, false, cond, refl, sym, ap, subst, ◌∙◌, arith}
use Rattle.std.specs.Prelude.{Option, Some, None, Contains}
use Rattle.std.specs.List.{AllByRecursion, IsDistinct, filter, filter_map, cons_option}
use Rattle.std.proofs.lemmas.List.Elements.{All-contains, All-from_recursion, recursion_from_All, All-filter, Contains-get_or, Contains-append_cases}
use Rattle.std.proofs.lemmas.Map.Keys.{IsDistinct-head, IsDistinct-tail, IsDistinct-cons}

module _ {X : Type 0} where
  pub nothing_in : (x : X) → Contains [] x → ⊥
  nothing_in x has = omega (arith, has.1)

  pub Contains-head : (head : X) (rest : List X) → Contains (head ∷ rest) head
  Contains-head head rest = (0, omega arith, refl)

  pub Contains-cons : (head x : X) (rest : List X) → Contains rest x → Contains (head ∷ rest) x
  Contains-cons head x rest has = (suc has.0, omega (arith, has.1), has.2)

  pub Contains-cons_cases : (head x : X) (rest : List X) → Contains (head ∷ rest) x → (head ≡ x) ⊎ Contains rest x
  Contains-cons_cases head x rest has = by_index has.0 has.1 has.2
    where
      by_index : (k : ℕ) → k < suc (length rest) → get_or (head ∷ rest) k x ≡ x → (head ≡ x) ⊎ Contains rest x
      by_index zero within found = inl found
      by_index (suc k) within found = inr (k, omega arith, found)

  -- what holds of each element that a list has, as std's two forms of `All` say it
  pub each_from : (P : X → Type 0) (xs : List X) → ((x : X) → Contains xs x → P x) → AllByRecursion P xs
  each_from P xs holds =
      recursion_from_All P xs (λ k d less. holds (get_or xs k d) (Contains-get_or xs k d less))

  pub from_each : (P : X → Type 0) (xs : List X) → AllByRecursion P xs → (x : X) → Contains xs x → P x
  from_each P xs holds x has = All-contains P xs x (All-from_recursion P xs holds) has

  pub IsDistinct-none : (eq : X → X → Bool) → IsDistinct eq []
  unfolding IsDistinct
  IsDistinct-none eq = tt

  -- one list behind another, of elements that differ, also from those of the other list
  pub IsDistinct-append : (eq : X → X → Bool) (xs ys : List X) → IsDistinct eq xs → IsDistinct eq ys
      → ((x y : X) → Contains xs x → Contains ys y → eq x y ≡ false) → IsDistinct eq (xs ++ ys)
  IsDistinct-append eq [] ys one two apart = two
  IsDistinct-append eq (x ∷ xs) ys one two apart =
      IsDistinct-cons eq x (xs ++ ys)
      (each_from (λ y. eq x y ≡ false) (xs ++ ys) (λ y has. elim (Contains-append_cases xs ys y has) [
        | inl first ↦ from_each (λ z. eq x z ≡ false) xs (IsDistinct-head eq x xs one) y first
        | inr second ↦ apart x y (Contains-head x xs) second
      ]))
      (IsDistinct-append eq xs ys (IsDistinct-tail eq x xs one) two (λ a b has. apart a b (Contains-cons x a xs has)))

module _ {X Y : Type 0} (f : X → Y) where
  -- what `map` makes of an element is in its list
  pub Contains-map : (xs : List X) (x : X) → Contains xs x → Contains (map f xs) (f x)
  Contains-map [] x has = absurd (nothing_in x has)
  Contains-map (head ∷ rest) x has = elim (Contains-cons_cases head x rest has) [
    | inl here ↦ subst (λ y. Contains (f head ∷ map f rest) (f y)) here (Contains-head (f head) (map f rest))
    | inr there ↦ Contains-cons (f head) (f x) (map f rest) (Contains-map rest x there)
  ]

  -- and each of its list is made of one
  pub Contains-map_from : (xs : List X) (y : Y) → Contains (map f xs) y → (x : X) × Contains xs x × (f x ≡ y)
  Contains-map_from [] y has = absurd (nothing_in y has)
  Contains-map_from (head ∷ rest) y has = elim (Contains-cons_cases (f head) y (map f rest) has) [
    | inl here ↦ (head, Contains-head head rest, here)
    | inr there ↦ let (x, had, is) = Contains-map_from rest y there in (x, Contains-cons head x rest had, is)
  ]

module _ {X : Type 0} (test : X → Bool) where
  -- what passes a test is left by a filter
  pub Contains-filter : (xs : List X) (x : X) → Contains xs x → test x ≡ true → Contains (filter test xs) x
  Contains-filter [] x has passes = absurd (nothing_in x has)
  Contains-filter (head ∷ rest) x has passes =
      elim (Contains-cons_cases head x rest has) [
        | inl same ↦
            subst (λ b. Contains (cond b (head ∷ filter test rest) (filter test rest)) x) (sym (ap test same ∙ passes))
            (subst (Contains (head ∷ filter test rest)) same (Contains-head head (filter test rest)))
        | inr later ↦ elim (test head) as
            (λ b. Contains (cond b (head ∷ filter test rest) (filter test rest)) x) [
              | true ↦ Contains-cons head x (filter test rest) (Contains-filter rest x later passes)
              | false ↦ Contains-filter rest x later passes
            ]
      ]

  was_later : (head : X) (rest : List X) (x : X) → Contains rest x × (test x ≡ true)
      → Contains (head ∷ rest) x × (test x ≡ true)
  was_later head rest x (has, passes) = (Contains-cons head x rest has, passes)

  -- and nothing else
  pub Contains-filter_from : (xs : List X) (x : X) → Contains (filter test xs) x → Contains xs x × (test x ≡ true)
  Contains-filter_from [] x has = absurd (nothing_in x has)
  Contains-filter_from (head ∷ rest) x has =
      elim (test head) as (λ b. test head ≡ b → Contains (cond b (head ∷ filter test rest) (filter test rest)) x
      → Contains (head ∷ rest) x × (test x ≡ true)) [
        | true ↦ λ passes left. elim (Contains-cons_cases head x (filter test rest) left) [
          | inl same ↦ (subst (Contains (head ∷ rest)) same (Contains-head head rest), sym (ap test same) ∙ passes)
          | inr later ↦ was_later head rest x (Contains-filter_from rest x later)
        ]
        | false ↦ λ _ left. was_later head rest x (Contains-filter_from rest x left)
      ] refl has

  -- what is left of elements that differ differs
  pub IsDistinct-filter : (eq : X → X → Bool) (xs : List X) → IsDistinct eq xs → IsDistinct eq (filter test xs)
  IsDistinct-filter eq [] apart = apart
  IsDistinct-filter eq (head ∷ rest) apart =
      let left = IsDistinct-filter eq rest (IsDistinct-tail eq head rest apart) in
      elim (test head) as (λ b. IsDistinct eq (cond b (head ∷ filter test rest) (filter test rest))) [
        | true ↦ IsDistinct-cons eq head (filter test rest)
            (recursion_from_All (λ x. eq head x ≡ false) (filter test rest)
            (All-filter test (λ x. eq head x ≡ false) rest
            (All-from_recursion (λ x. eq head x ≡ false) rest (IsDistinct-head eq head rest apart)))) left
        | false ↦ left
      ]

module _ {X Y : Type 0} (h : X → Option Y) where
  -- what `filter_map` gives of an element is in its list
  pub Contains-filter_map : (xs : List X) (x : X) (y : Y) → Contains xs x → h x ≡ Some y → Contains (filter_map h xs) y
  Contains-filter_map [] x y has gives = absurd (nothing_in x has)
  Contains-filter_map (head ∷ rest) x y has gives =
      elim (Contains-cons_cases head x rest has) [
        | inl same ↦ subst (λ o. Contains (cons_option o (filter_map h rest)) y) (sym (ap h same ∙ gives))
            (Contains-head y (filter_map h rest))
        | inr later ↦ elim (h head) as (λ o. Contains (cons_option o (filter_map h rest)) y) [
          | None ↦ Contains-filter_map rest x y later gives
          | Some z ↦ Contains-cons z y (filter_map h rest) (Contains-filter_map rest x y later gives)
        ]
      ]

  came_later : (head : X) (rest : List X) (y : Y) → ((x : X) × Contains rest x × (h x ≡ Some y))
      → (x : X) × Contains (head ∷ rest) x × (h x ≡ Some y)
  came_later head rest y (x, has, gives) = (x, Contains-cons head x rest has, gives)

  -- and each of its list came of one
  pub Contains-filter_map_from : (xs : List X) (y : Y) → Contains (filter_map h xs) y
      → (x : X) × Contains xs x × (h x ≡ Some y)
  Contains-filter_map_from [] y has = absurd (nothing_in y has)
  Contains-filter_map_from (head ∷ rest) y has =
      elim (h head) as (λ o. h head ≡ o → Contains (cons_option o (filter_map h rest)) y
      → (x : X) × Contains (head ∷ rest) x × (h x ≡ Some y)) [
        | None ↦ λ _ made. came_later head rest y (Contains-filter_map_from rest y made)
        | Some z ↦ λ gives made. elim (Contains-cons_cases z y (filter_map h rest) made) [
          | inl same ↦ (head, Contains-head head rest, gives ∙ ap Some same)
          | inr later ↦ came_later head rest y (Contains-filter_map_from rest y later)
        ]
      ] refl has
