-- A torn band by the places of its settled lines.
use Rattle.std.proofs.Common.{◌≡◌, ℕ, zero, suc, ◌+◌, ◌-◌, ◌<◌, ◌≤◌, Bool, true, false, not, ◌&&◌, List, [], ◌∷◌, length, get_or, Some, arith, refl, sym, ap, subst, ◌∙◌, inl, inr}
use Rattle.std.specs.Prelude.{◌≢◌, ◌==◌, slice_range, slice_get}
use Rattle.std.specs.List.{filter, list_any, position_or_len, Contains}
use Rattle.std.proofs.lemmas.Bool.{cases_Bool, cases_lt, both_ways, and_parts, or_cases, eqb-true, not-true, not-false, false≢true}
use Rattle.std.proofs.lemmas.Option.{slice_get-get_or, get_or_from_slice_get, slice_get_within}
use Rattle.std.proofs.lemmas.List.Sums.{passes_at_first, fails_before_first}
use Rattle.std.proofs.lemmas.List.Folds.{list_any_at, Any-from_list_any}
use Rattle.std.proofs.lemmas.List.{get_or_default}
use Rattle.grid_range.specs.Order.{is_among, first_to_last, IsFirstPlace, IsLastPlace}
use Rattle.grid_range.specs.NameBand.NameBand.{Closed, Open}
use Rattle.grid_range.specs.Following.{survivors, settled}
use Rattle.grid_range.specs.FollowingLaws.{IsSettled, TornClosedByPlaces, TornOpenByPlaces}
use Rattle.grid_range.proofs.Lists.{from_first_drop, is_among-filter}
use Rattle.grid_range.proofs.Ranges.{Covers, has, reach_at, length_cases, first_name, survivors_among, settled_among}
use Rattle.grid_range.proofs.Following.{place_of_name, name_of_place, meets_order, survivors_in_order, settled_some, torn_closed_is_range, torn_open_is_range}

-- the last place at which a test passes
last_passing : (t : ℕ → Bool) (xs : List ℕ) → list_any t xs ≡ true
    → (k : ℕ) × (k < length xs) × (t (get_or xs k 0) ≡ true)
    × ((j : ℕ) → k < j → j < length xs → t (get_or xs j 0) ≡ false)
last_passing t [] h = absurd (false≢true h)
last_passing t (x ∷ xs) h = elim (cases_Bool (list_any t xs)) [
  | inl some ↦
      let (k, l, passes, behind) = last_passing t xs some in
      (suc k, omega arith, passes, past k behind)
  | inr none ↦ (0, omega arith, here none, past_none none)
]
  where
    past : (k : ℕ) → ((j : ℕ) → k < j → j < length xs → t (get_or xs j 0) ≡ false)
        → (j : ℕ) → suc k < j → j < length (x ∷ xs) → t (get_or (x ∷ xs) j 0) ≡ false
    past k behind zero a b = absurd (omega arith)
    past k behind (suc j) a b = behind j (omega arith) (omega arith)

    here : list_any t xs ≡ false → t x ≡ true
    here none = elim (or_cases (t x) (list_any t xs) h) [
      | inl passes ↦ passes
      | inr some ↦ absurd (both_ways (list_any t xs) none some)
    ]

    past_none : list_any t xs ≡ false → (j : ℕ) → 0 < j → j < length (x ∷ xs) → t (get_or (x ∷ xs) j 0) ≡ false
    past_none none zero a b = absurd (omega arith)
    past_none none (suc j) a b = elim (cases_Bool (t (get_or xs j 0))) [
      | inl passes ↦ absurd (both_ways (list_any t xs) none (list_any_at t xs j 0 (omega arith) passes))
      | inr fails ↦ fails
    ]

no_names : (xs : List ℕ) → (length xs == 0) ≡ true → xs ≡ []
no_names [] h = refl
no_names (x ∷ xs) h = let empty = eqb-true (length (x ∷ xs)) 0 h in absurd (omega arith)

module _ (order changed names : List ℕ) where
  abbrev left : List ℕ
  left = survivors order names

  abbrev unmoved : List ℕ
  unmoved = filter (λ name. not (is_among changed name)) left

  abbrev calm : List ℕ
  calm = settled changed left

  in_left : (name : ℕ) → Contains order name → Contains names name → is_among left name ≡ true
  in_left name there here =
      is_among-filter (is_among names) order name
      ∙ (rw (name_of_place order name there, name_of_place names name here) refl)

  in_unmoved : (name : ℕ) → is_among unmoved name ≡ (is_among left name && not (is_among changed name))
  in_unmoved name = is_among-filter (λ n. not (is_among changed n)) left name

  all_moved : unmoved ≡ [] → (name : ℕ) → Contains order name → Contains names name → Contains changed name
  all_moved none name there here =
      let fails : false ≡ not (is_among changed name) =
      ap (λ xs. is_among xs name) (sym none) ∙ in_unmoved name
      ∙ ap (λ b. b && not (is_among changed name)) (in_left name there here) in
      place_of_name changed name (not-false (is_among changed name) (sym fails))

  is_settled : (name : ℕ) → is_among calm name ≡ true → IsSettled order changed names name
  is_settled name h = record {
    listed = place_of_name names name (survivors_among order names name (settled_among changed left name h));
    settled = λ moved. elim (cases_Bool (length unmoved == 0)) [
      | inl none ↦ all_moved (no_names unmoved none)
      | inr some ↦
          let still : is_among unmoved name ≡ true = rw some at h in
          let parts = and_parts (is_among left name) (not (is_among changed name)) (sym (in_unmoved name) ∙ still) in
          absurd (both_ways (is_among changed name) (not-true (is_among changed name) parts.1)
          (name_of_place changed name moved))
    ];
  }

  from_settled : (name : ℕ) → Contains order name → IsSettled order changed names name → is_among calm name ≡ true
  from_settled name there is = elim (cases_Bool (length unmoved == 0)) [
    | inl none ↦ rw none (in_left name there is.listed)
    | inr some ↦ rw some (elim (cases_Bool (is_among changed name)) [
      | inl moved ↦ absurd (never (place_of_name changed name moved) (first_name unmoved (more some)))
      | inr stays ↦ in_unmoved name ∙ rw (in_left name there is.listed, stays) refl
    ])
  ]
    where
      more : (length unmoved == 0) ≡ false → 0 < length unmoved
      more some = elim (length_cases unmoved) [
        | inl empty ↦ absurd (both_ways (length unmoved == 0) some (rw empty refl))
        | inr h ↦ h
      ]

      never : Contains changed name → is_among unmoved (get_or unmoved 0 0) ≡ true → ⊥
      never moved h =
          let x = get_or unmoved 0 0 in
          let parts = and_parts (is_among left x) (not (is_among changed x)) (sym (in_unmoved x) ∙ h) in
          let also = is.settled moved x
          (place_of_name order x (survivors_in_order order names x parts.0))
          (place_of_name names x (survivors_among order names x parts.0)) in
          both_ways (is_among changed x) (not-true (is_among changed x) parts.1) (name_of_place changed x also)

  module _ (any : left ≢ []) where
    meets : list_any (is_among calm) order ≡ true
    meets =
        let some : 0 < length left = elim (length_cases left) [ inl none ↦ absurd (any none) | inr h ↦ h ] in
        let first = first_name calm (settled_some changed left some) in
        meets_order order calm (get_or calm 0 0) first
        (survivors_in_order order names (get_or calm 0 0) (settled_among changed left (get_or calm 0 0) first))

    abbrev start : ℕ
    start = position_or_len (is_among calm) order

    at_place : (place line : ℕ) → slice_get order place ≡ Some line → IsSettled order changed names line
        → (place < length order) × (has order calm place ≡ true)
    at_place place line at is =
        let l = slice_get_within order place line at in
        let here : Contains order line = (place, l, get_or_from_slice_get order place line line at) in (
          l,
          subst (λ n. is_among calm n ≡ true) (sym (get_or_from_slice_get order place line 0 at))
              (from_settled line here is),
        )

    not_before : (place : ℕ) → has order calm place ≡ true → start ≤ place
    not_before place h = elim (cases_lt place start) [
      | inl below ↦ absurd (both_ways (has order calm place) (fails_before_first (is_among calm) order place 0 below) h)
      | inr from ↦ from
    ]

    there : start < length order
    there =
        let (k, name, l, at, passes) = Any-from_list_any (is_among calm) order meets in
        let here : has order calm k ≡ true =
        subst (λ n. is_among calm n ≡ true) (sym (get_or_default order k 0 name l ∙ at)) passes in
        let from = not_before k here in
        omega arith

    starts : IsFirstPlace order (IsSettled order changed names) start
    starts = record {
      name = get_or order start 0;
      here = slice_get-get_or order start 0 there;
      such = is_settled (get_or order start 0) (passes_at_first (is_among calm) order 0 there);
      first = λ other line at is. not_before other (at_place other line at is).1;
    }

    abbrev Last : ℕ → Type 0
    Last k = (k < length order) × (has order calm k ≡ true)
        × ((j : ℕ) → k < j → j < length order → has order calm j ≡ false)

    not_behind : (k : ℕ) → Last k → (place : ℕ) → place < length order → has order calm place ≡ true → place ≤ k
    not_behind k ends place l h = elim (cases_lt k place) [
      | inl behind ↦ absurd (both_ways (has order calm place) (ends.2 place behind l) h)
      | inr near ↦ near
    ]

    ends_at : (k : ℕ) → Last k → IsLastPlace order (IsSettled order changed names) k
    ends_at k ends = record {
      name = get_or order k 0;
      here = slice_get-get_or order k 0 ends.0;
      such = is_settled (get_or order k 0) ends.1;
      last = λ other line at is. let place = at_place other line at is in not_behind k ends other place.0 place.1;
    }

    covers : (k : ℕ) → Last k → Covers true order (has order calm) start (k + 1)
    covers k ends = let from = not_before k ends.1 in record {
      some = omega arith;
      there = omega (arith, ends.0);
      first = passes_at_first (is_among calm) order 0 there;
      last = (let e : k + 1 - 1 ≡ k = omega arith in rw e ends.1);
      all = λ j l h. (not_before j h, (let near = not_behind k ends j l h in omega arith));
    }

    by_places : (k : ℕ) → Last k → first_to_last order calm ≡ slice_range order start (k + 1)
    by_places k ends = reach_at true order calm start (k + 1) (covers k ends)

pub torn_closed_by_places : TornClosedByPlaces
torn_closed_by_places order changed names any torn =
    let (k, l, passes, behind) = last_passing (is_among (calm order changed names)) order
    (meets order changed names any) in
    record {
      first = start order changed names any;
      last = k;
      is_first = starts order changed names any;
      is_last = ends_at order changed names any k (l, passes, behind);
      is = torn_closed_is_range order changed names any torn
          ∙ ap (λ xs. Some (Closed xs)) (by_places order changed names any k (l, passes, behind));
    }

pub torn_open_by_places : TornOpenByPlaces
torn_open_by_places order changed names any torn = record {
  first = start order changed names any;
  is_first = starts order changed names any;
  is = torn_open_is_range order changed names any torn
      ∙ ap (λ xs. Some (Open xs)) (from_first_drop (is_among (calm order changed names)) order);
}
