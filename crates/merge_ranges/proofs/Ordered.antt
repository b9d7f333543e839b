-- Lists in one order, which have the same elements.
use Rattle.std.proofs.Common.{◌≡◌, inl, inr, sym, ap, subst, ◌∙◌, List, [], ◌∷◌, refl}
use Rattle.std.specs.Prelude.{Contains}
use Rattle.std.specs.Cmp.{IsTotalOrder}
use Rattle.std.specs.List.Sorted.{IsStrictlySortedBy}
use Rattle.std.specs.Ordering.{ordering_reverse}
use Rattle.std.specs.declared.cmp.Ordering.{Ordering}
use Rattle.std.specs.declared.cmp.Ordering.TheVariants.{Less, Greater}
use Rattle.std.proofs.lemmas.Map.Keys.{sorted_head, sorted_tail}
use Rattle.cell_value.specs.Elements.{Contains-cons, Contains-cons_cases, Contains-head, from_each, nothing_in}

module _ {X : Type 0} {order : X → X → Ordering} (total : IsTotalOrder order) where
  not_both : (x y : X) → order x y ≡ Less → ¬ (order y x ≡ Less)
  not_both x y less more =
      let turned : Less ≡ Greater = sym less ∙ total.antisymm x y ∙ ap ordering_reverse more in
      cc

  before_all : (x : X) (xs : List X) → IsStrictlySortedBy order (x ∷ xs) → (y : X) → Contains xs y → order x y ≡ Less
  before_all x xs sorted y has = from_each (λ z. order x z ≡ Less) xs (sorted_head order x xs sorted) y has

  same_first : (x y : X) (xs ys : List X) → IsStrictlySortedBy order (x ∷ xs) → IsStrictlySortedBy order (y ∷ ys)
      → Contains (y ∷ ys) x → Contains (x ∷ xs) y → x ≡ y
  same_first x y xs ys sorted sorted' has has' = elim (Contains-cons_cases y x ys has) [
    | inl same ↦ sym same
    | inr behind ↦ elim (Contains-cons_cases x y xs has') [
      | inl same ↦ same
      | inr behind' ↦ absurd (not_both x y (before_all x xs sorted y behind') (before_all y ys sorted' x behind))
    ]
  ]

  -- what is behind the first one is behind it in the other list
  behind_too : (x y : X) (xs ys : List X) → x ≡ y → IsStrictlySortedBy order (x ∷ xs)
      → ((z : X) → Contains (x ∷ xs) z → Contains (y ∷ ys) z) → (z : X) → Contains xs z → Contains ys z
  behind_too x y xs ys first sorted also z has =
      elim (Contains-cons_cases y z ys (also z (Contains-cons x z xs has))) [
        | inl same ↦
            let here : order x x ≡ Less =
            subst (λ w. order x w ≡ Less) (sym (first ∙ same)) (before_all x xs sorted z has) in
            absurd (not_both x x here here)
        | inr behind ↦ behind
      ]

  pub sorted_same : (xs ys : List X) → IsStrictlySortedBy order xs → IsStrictlySortedBy order ys
      → ((z : X) → Contains xs z → Contains ys z) → ((z : X) → Contains ys z → Contains xs z) → xs ≡ ys
  sorted_same [] [] sorted sorted' also also' = refl
  sorted_same [] (y ∷ ys) sorted sorted' also also' = absurd (nothing_in y (also' y (Contains-head y ys)))
  sorted_same (x ∷ xs) [] sorted sorted' also also' = absurd (nothing_in x (also x (Contains-head x xs)))
  sorted_same (x ∷ xs) (y ∷ ys) sorted sorted' also also' =
      let first = same_first x y xs ys sorted sorted' (also x (Contains-head x xs)) (also' y (Contains-head y ys)) in
      ap (λ z. z ∷ xs) first
      ∙ ap (λ zs. y ∷ zs) (sorted_same xs ys (sorted_tail order x xs sorted) (sorted_tail order y ys sorted')
      (behind_too x y xs ys first sorted also) (behind_too y x ys xs (sym first) sorted' also'))
