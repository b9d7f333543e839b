-- Lists in a strict order: there is one of the things of a list, and it can't be that there is none of those of it for
-- which something doesn't hold.
use Rattle.std.proofs.Common.{◌≡◌, inl, inr, refl, sym, ap, subst, ◌∙◌, List, [], ◌∷◌}
use Rattle.std.specs.Prelude.{◌↔◌, ◌⊎◌, Contains}
use Rattle.std.specs.Cmp.{IsTotalOrder}
use Rattle.std.specs.List.Sorted.{IsStrictlySortedBy}
use Rattle.std.specs.Ordering.{ordering_reverse}
use Rattle.std.specs.declared.cmp.Ordering.{Ordering}
use Rattle.std.specs.declared.cmp.Ordering.TheVariants.{Less, Equal, Greater}
use Rattle.std.proofs.lemmas.Map.Keys.{sorted_head, sorted_tail}
use Rattle.cell_value.specs.Elements.{Contains-cons, Contains-cons_cases, Contains-head, each_from, from_each, nothing_in}

-- it can't be that something neither holds nor doesn't
pub undecided : {P : Type 0} → ¬ (¬ (P ⊎ ¬ P))
undecided none = none (inr (λ holds. none (inl holds)))

module _ {X : Type 0} {order : X → X → Ordering} (total : IsTotalOrder order) where
  none_sorted : IsStrictlySortedBy order []
  unfolding IsStrictlySortedBy
  none_sorted = tt

  one_before : (x : X) (ys : List X) → ((y : X) → Contains ys y → order x y ≡ Less) → IsStrictlySortedBy order ys
      → IsStrictlySortedBy order (x ∷ ys)
  unfolding IsStrictlySortedBy
  one_before x ys before sorted = (each_from (λ y. order x y ≡ Less) ys before, sorted)

  before_all : (x : X) (ys : List X) → IsStrictlySortedBy order (x ∷ ys) → (y : X) → Contains ys y → order x y ≡ Less
  before_all x ys sorted y has = from_each (λ z. order x z ≡ Less) ys (sorted_head order x ys sorted) y has

  -- ---- one thing more

  -- a list in order has just the things of which that is true
  abbrev pub HasJust : (X → Type 0) → Type 0
  HasJust Is = (ys : List X) × IsStrictlySortedBy order ys × ((z : X) → Contains ys z ↔ Is z)

  insert : (x : X) (ys : List X) → IsStrictlySortedBy order ys
      → ((y : X) → Contains ys y → order x y ≡ Equal → x ≡ y) → HasJust (λ z. (x ≡ z) ⊎ Contains ys z)
  insert x [] sorted once = (
    x ∷ [],
    one_before x [] (λ y has. absurd (nothing_in y has)) none_sorted,
    λ z. (
      Contains-cons_cases x z [],
      elim [
        | inl same ↦ subst (Contains (x ∷ [])) same (Contains-head x [])
        | inr behind ↦ absurd (nothing_in z behind)
      ],
    ),
  )
  insert x (y ∷ ys) sorted once =
      by_order (order x y) refl
      (insert x ys (sorted_tail order y ys sorted) (λ w has. once w (Contains-cons y w ys has)))
    where
      after_both : order x y ≡ Less → (w : X) → Contains (y ∷ ys) w → order x w ≡ Less
      after_both less w has = elim (Contains-cons_cases y w ys has) [
        | inl same ↦ subst (λ v. order x v ≡ Less) same less
        | inr behind ↦ total.trans x y w less (before_all y ys sorted w behind)
      ]

      y_before : order x y ≡ Greater → (zs : List X) → ((z : X) → Contains zs z ↔ ((x ≡ z) ⊎ Contains ys z))
          → (w : X) → Contains zs w → order y w ≡ Less
      y_before greater zs has_just w has = elim ((has_just w).0 has) [
        | inl same ↦ subst (λ v. order y v ≡ Less) same (total.antisymm y x ∙ ap ordering_reverse greater)
        | inr behind ↦ before_all y ys sorted w behind
      ]

      by_order : (found : Ordering) → order x y ≡ found → HasJust (λ z. (x ≡ z) ⊎ Contains ys z)
          → HasJust (λ z. (x ≡ z) ⊎ Contains (y ∷ ys) z)
      by_order Less less rest = (
        x ∷ y ∷ ys,
        one_before x (y ∷ ys) (after_both less) sorted,
        λ z. (
          Contains-cons_cases x z (y ∷ ys),
          elim [
            | inl same ↦ subst (Contains (x ∷ y ∷ ys)) same (Contains-head x (y ∷ ys))
            | inr behind ↦ Contains-cons x z (y ∷ ys) behind
          ],
        ),
      )
      by_order Equal equal rest = (
        y ∷ ys,
        sorted,
        λ z. (
          λ has. inr has,
          elim [
            | inl same ↦ subst (Contains (y ∷ ys)) (sym (once y (Contains-head y ys) equal) ∙ same) (Contains-head y ys)
            | inr has ↦ has
          ],
        ),
      )
      by_order Greater greater (zs, in_order, has_just) = (
        y ∷ zs,
        one_before y zs (y_before greater zs has_just) in_order,
        λ z. (
          (λ has. elim (Contains-cons_cases y z zs has) [
            | inl same ↦ inr (subst (Contains (y ∷ ys)) same (Contains-head y ys))
            | inr behind ↦ elim ((has_just z).0 behind) [
              | inl same ↦ inl same
              | inr later ↦ inr (Contains-cons y z ys later)
            ]
          ]),
          (λ either. elim either [
            | inl same ↦ Contains-cons y z zs ((has_just z).1 (inl same))
            | inr has ↦ elim (Contains-cons_cases y z ys has) [
              | inl same ↦ subst (Contains (y ∷ zs)) same (Contains-head y zs)
              | inr later ↦ Contains-cons y z zs ((has_just z).1 (inr later))
            ]
          ]),
        ),
      )

  -- ---- all things of a list, no two of which stand at one place of the order

  pub in_order : (xs : List X)
      → ((one other : X) → Contains xs one → Contains xs other → order one other ≡ Equal → one ≡ other)
      → HasJust (Contains xs)
  in_order [] once = ([], none_sorted, λ z. (λ has. has, λ has. has))
  in_order (x ∷ xs) once =
      let (ys, sorted, same) = in_order xs
      (λ one other has has'. once one other (Contains-cons x one xs has) (Contains-cons x other xs has')) in
      let (zs, sorted', listed) = insert x ys sorted
      (λ y has. once x y (Contains-head x xs) (Contains-cons x y xs ((same y).0 has))) in (
        zs,
        sorted',
        λ z. (
          (λ has. elim ((listed z).0 has) [
            | inl is ↦ subst (Contains (x ∷ xs)) is (Contains-head x xs)
            | inr behind ↦ Contains-cons x z xs ((same z).0 behind)
          ]),
          (λ has. (listed z).1 (elim (Contains-cons_cases x z xs has) [
            | inl is ↦ inl is
            | inr behind ↦ inr ((same z).1 behind)
          ])),
        ),
      )

  -- ---- those of them for which something doesn't hold

  module _ (Goes : X → Type 0) where
    goes_or_stays : (x : X) (xs : List X) → IsStrictlySortedBy order (x ∷ xs)
        → HasJust (λ z. Contains xs z × ¬ (Goes z)) → Goes x ⊎ ¬ (Goes x)
        → HasJust (λ z. Contains (x ∷ xs) z × ¬ (Goes z))
    goes_or_stays x xs sorted (ys, in_order, has_just) (inl goes) = (
      ys,
      in_order,
      λ z. (
        (λ has. let (among, stays) = (has_just z).0 has in (Contains-cons x z xs among, stays)),
        (λ both. elim (Contains-cons_cases x z xs both.0) [
          | inl same ↦ absurd (both.1 (subst Goes same goes))
          | inr behind ↦ (has_just z).1 (behind, both.1)
        ]),
      ),
    )
    goes_or_stays x xs sorted (ys, in_order, has_just) (inr stays) = (
      x ∷ ys,
      one_before x ys (λ y has. before_all x xs sorted y ((has_just y).0 has).0) in_order,
      λ z. (
        (λ has. elim (Contains-cons_cases x z ys has) [
          | inl same ↦ (subst (Contains (x ∷ xs)) same (Contains-head x xs), subst (λ w. ¬ (Goes w)) same stays)
          | inr behind ↦ let (among, stays) = (has_just z).0 behind in (Contains-cons x z xs among, stays)
        ]),
        (λ both. elim (Contains-cons_cases x z xs both.0) [
          | inl same ↦ subst (Contains (x ∷ ys)) same (Contains-head x ys)
          | inr behind ↦ Contains-cons x z ys ((has_just z).1 (behind, both.1))
        ]),
      ),
    )

    pub left : (xs : List X) → IsStrictlySortedBy order xs → ¬ (¬ (HasJust (λ z. Contains xs z × ¬ (Goes z))))
    left [] sorted none = none ([], none_sorted, λ z. (λ has. absurd (nothing_in z has), λ both. both.0))
    left (x ∷ xs) sorted none = left xs (sorted_tail order x xs sorted) (λ some.
        undecided (λ either. none (goes_or_stays x xs sorted some either)))
