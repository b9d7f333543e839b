-- From a list those can be picked of which something holds, in their order. Whether it holds of one needn't be told.
use Rattle.std.proofs.Common.{ℕ, suc, zero, ◌+◌, ◌<◌, ◌≤◌, List, [], ◌∷◌, ◌++◌, inl, inr, Contains, get_or, ap, sym, subst, ◌∙◌, arith}
use Rattle.std.specs.Prelude.{◌≢◌, ◌↔◌}
use Rattle.std.specs.List.{AllPairs, range_with_len}
use Rattle.std.proofs.Math.Nat.{lt_irrefl}
use Rattle.std.proofs.lemmas.Bool.{cases_eq}
use Rattle.std.proofs.lemmas.List.Elements.{Contains-append_cases, Contains-get_or}
use Rattle.std.proofs.lemmas.List.Kept.{AllPairs-cons}
use Rattle.cell_value.specs.Elements.{nothing_in, Contains-head, Contains-cons, Contains-cons_cases}
use Rattle.values_api.specs.AllPlaces.{all_places, in_places, in_row, row_places}

module _ {X : Type 0} (R : X → X → Type 0) where
  -- each of them stands in that relation to those behind it
  abbrev pub AreInOrder : List X → Type 0
  AreInOrder [] = Unit {0}
  AreInOrder (x ∷ xs) = ((y : X) → Contains xs y → R x y) × AreInOrder xs

  pub pairs_in_order : (xs : List X) → AreInOrder xs → AllPairs R xs
  pairs_in_order [] are = λ i j d less within. absurd (let no : ⊥ = omega (arith, within) in no)
  pairs_in_order (x ∷ xs) are =
      AllPairs-cons R x xs (λ k d there. are.0 (get_or xs k d) (Contains-get_or xs k d there)) (pairs_in_order xs are.1)

  pub in_order_append : (xs ys : List X) → AreInOrder xs → AreInOrder ys
      → ((x y : X) → Contains xs x → Contains ys y → R x y) → AreInOrder (xs ++ ys)
  in_order_append [] ys one other both = other
  in_order_append (x ∷ xs) ys one other both = (
    λ y has. elim (Contains-append_cases xs ys y has) [
      | inl first ↦ one.0 y first
      | inr later ↦ both x y (Contains-head x xs) later
    ],
    in_order_append xs ys one.1 other (λ z y has. both z y (Contains-cons x z xs has)),
  )

  module _ (P : X → Type 0) where
    -- those of the list of which it holds, in their order
    pub record ArePicked (xs ys : List X) : Type 0 where
      pub in_order : AreInOrder ys
      pub exactly : (x : X) → Contains ys x ↔ (Contains xs x × P x)

    with_one : (x : X) (xs ys : List X) → ((y : X) → Contains xs y → R x y) → P x → ArePicked xs ys
        → ArePicked (x ∷ xs) (x ∷ ys)
    with_one x xs ys before holds are = record {
      in_order = (λ y has. before y ((are.exactly y).0 has).0, are.in_order);
      exactly = λ y. (
        λ has. elim (Contains-cons_cases x y ys has) [
          | inl same ↦ subst (λ z. Contains (x ∷ xs) z × P z) same (Contains-head x xs, holds)
          | inr later ↦ let picked = (are.exactly y).0 later in (Contains-cons x y xs picked.0, picked.1)
        ],
        λ both. elim (Contains-cons_cases x y xs both.0) [
          | inl same ↦ subst (λ z. Contains (x ∷ ys) z) same (Contains-head x ys)
          | inr later ↦ Contains-cons x y ys ((are.exactly y).1 (later, both.1))
        ],
      );
    }

    without_one : (x : X) (xs ys : List X) → ¬ (P x) → ArePicked xs ys → ArePicked (x ∷ xs) ys
    without_one x xs ys fails are = record {
      in_order = are.in_order;
      exactly = λ y. (
        λ has. let picked = (are.exactly y).0 has in (Contains-cons x y xs picked.0, picked.1),
        λ both. elim (Contains-cons_cases x y xs both.0) [
          | inl same ↦ absurd (fails (subst P (sym same) both.1))
          | inr later ↦ (are.exactly y).1 (later, both.1)
        ],
      );
    }

    pub some_picked : (xs : List X) → AreInOrder xs → ¬ ((ys : List X) → ¬ (ArePicked xs ys))
    some_picked [] are none = none [] (record {
      in_order = tt;
      exactly = λ x. (λ has. absurd (nothing_in x has), λ both. both.0);
    })
    some_picked (x ∷ xs) are none = some_picked xs are.1 (λ ys picked.
        none ys (without_one x xs ys (λ holds. none (x ∷ ys) (with_one x xs ys are.0 holds picked)) picked))

-- ---- numbers from one on

pub in_range : (from count at : ℕ) → Contains (range_with_len from count) at → (from ≤ at) × (at < from + count)
in_range from zero at has = absurd (nothing_in at has)
in_range from (suc count) at has = elim (Contains-cons_cases from at (range_with_len (from + 1) count) has) [
  | inl same ↦ (omega (arith, same), omega (arith, same))
  | inr later ↦ let (low, high) = in_range (from + 1) count at later in (omega (arith, low), omega (arith, high))
]

pub range_in_order : (from count : ℕ) → AreInOrder (λ one other. one < other) (range_with_len from count)
range_in_order from zero = tt
range_in_order from (suc count) = (
  λ y has. let (low, high) = in_range (from + 1) count y has in omega (arith, low),
  range_in_order (from + 1) count,
)

pub range_has : (from count at : ℕ) → from ≤ at → at < from + count → Contains (range_with_len from count) at
range_has from zero at low high = absurd (let no : ⊥ = omega (arith, low, high) in no)
range_has from (suc count) at low high = elim (cases_eq from at) [
  | inl same ↦
      subst (λ n. Contains (from ∷ range_with_len (from + 1) count) n) same
      (Contains-head from (range_with_len (from + 1) count))
  | inr apart ↦
      Contains-cons from at (range_with_len (from + 1) count)
      (range_has (from + 1) count at (omega (arith, low, apart)) (omega (arith, high)))
]

-- ---- the places of so many rows and columns, no two of which are one

abbrev AreApart : ℕ × ℕ → ℕ × ℕ → Type 0
AreApart one other = one ≢ other

row_apart : (row cols : ℕ) → AreInOrder AreApart (row_places row cols)
row_apart row zero = tt
row_apart row (suc cols) = (
  λ place has same.
      let (own, below) = in_row row cols place has in
      lt_irrefl cols (subst (λ (p : ℕ × ℕ). p.1 < cols) (sym same) below),
  row_apart row cols,
)

pub places_apart : (rows cols : ℕ) → AreInOrder AreApart (all_places rows cols)
places_apart zero cols = tt
places_apart (suc rows) cols =
    in_order_append AreApart (row_places rows cols) (all_places rows cols) (row_apart rows cols)
    (places_apart rows cols)
    (λ one other has had same.
    let (own, below) = in_row rows cols one has in
    let (before, beyond) = in_places rows cols other had in
    lt_irrefl rows (subst (λ n. n < rows) (ap (λ (p : ℕ × ℕ). p.0) (sym same) ∙ own) before))
