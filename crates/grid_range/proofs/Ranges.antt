-- What names become, by places: `names` are followed to the places `start` to `end - 1` of the order.
use Rattle.std.proofs.Common.{◌≡◌, ℕ, suc, ◌+◌, ◌-◌, ◌<◌, ◌≤◌, Bool, true, false, not, ◌&&◌, List, [], ◌∷◌, length, get_or, take, drop, None, Some, eqb, arith, refl, sym, ap, ◌∙◌, ◌⊎◌, inl, inr}
use Rattle.std.specs.Prelude.{◌≢◌, slice_range, ◌==◌}
use Rattle.std.specs.List.{filter, list_all}
use Rattle.std.proofs.lemmas.Bool.{cases_Bool, and_parts, false≢true, both_ways, ne_eqb, eq-eqb}
use Rattle.std.proofs.lemmas.List.{get_or-drop, take_rest, length-drop}
use Rattle.std.proofs.lemmas.List.Folds.{list_any_at}
use Rattle.grid_range.specs.Order.{is_among, from_first, to_last, first_to_last, first_to_end}
use Rattle.grid_range.specs.Following.{survivors, settled, followed_names}
use Rattle.grid_range.proofs.Lists.{from_first_at, to_last_at, list_all_places, filter_none, filter_filter_none, filter_same, filter_stretch, filter_tail, filled_stretch, filled_tail, is_among-filter, first_passes, to_last_first}
use Rattle.grid_range.proofs.Orders.{get_or-slice_range, length-slice_range}

-- whether one of the names stands at a place of the order
abbrev pub has : List ℕ → List ℕ → ℕ → Bool
has order names place = is_among names (get_or order place 0)

-- the same for a name that isn't among those that changed
abbrev pub has_settled : List ℕ → List ℕ → List ℕ → ℕ → Bool
has_settled order changed names place = has order names place && not (has order changed place)

-- the two ranges by one word: up to the last of the names, or to the end
abbrev pub reach : Bool → List ℕ → List ℕ → List ℕ
reach true = first_to_last
reach false = first_to_end

-- what a range ends with: a place that passes, or the end of the order
abbrev pub EndsAt : Bool → List ℕ → (ℕ → Bool) → ℕ → Type 0
EndsAt true order passes e = passes (e - 1) ≡ true
EndsAt false order passes e = e ≡ length order

-- the places that pass lie in `start` to `end - 1`, and reach its ends
pub record Covers (closed : Bool) (order : List ℕ) (passes : ℕ → Bool) (start end : ℕ) : Type 0 where
  pub some : start < end
  pub there : end ≤ length order
  pub first : passes start ≡ true
  pub last : EndsAt closed order passes end
  pub all : (j : ℕ) → j < length order → passes j ≡ true → (start ≤ j) × (j < end)

-- some place behind that passes, or nothing for an open range
abbrev pub PassesBehind : Bool → List ℕ → (ℕ → Bool) → ℕ → Type 0
PassesBehind true order passes j = (k : ℕ) × (j < k) × (k < length order) × (passes k ≡ true)
PassesBehind false order passes j = Unit {0}

fails_from : (t : Bool) → (t ≡ true → ⊥) → t ≡ false
fails_from true h = absurd (h refl)
fails_from false h = refl

-- the range of names that cover places are these places
pub reach_at : (closed : Bool) (order names : List ℕ) (s e : ℕ) → Covers closed order (has order names) s e
    → reach closed order names ≡ slice_range order s e
reach_at true order names s e c =
    let t = is_among names in
    let front : from_first t order ≡ drop s order =
    from_first_at t order s (omega arith) c.first
    (λ j l. fails_from (has order names j)
    (λ h. let at = c.all j (omega arith) h in omega arith)) in
    let long : length (drop s order) ≡ length order - s = length-drop s order in
    let here : (k : ℕ) → get_or (drop s order) k 0 ≡ get_or order (s + k) 0 = λ k. get_or-drop s order k 0 in
    let place : s + (e - 1 - s) ≡ e - 1 = omega arith in
    let ending : to_last t (drop s order) ≡ take (suc (e - 1 - s)) (drop s order) =
    to_last_at t (drop s order) (e - 1 - s) (omega arith)
    (rw (here (e - 1 - s), place) c.last)
    (λ j l m. rw (here j) (fails_from (has order names (s + j))
    (λ h. let at = c.all (s + j) (omega arith) h in omega arith))) in
    let size : suc (e - 1 - s) ≡ e - s = omega arith in
    ap (to_last t) front ∙ ending ∙ ap (λ n. take n (drop s order)) size
reach_at false order names s e c =
    let front : from_first (is_among names) order ≡ drop s order =
    from_first_at (is_among names) order s (omega arith) c.first
    (λ j l. fails_from (has order names j)
    (λ h. let at = c.all j (omega arith) h in omega arith)) in
    front ∙ sym (take_rest order s) ∙ ap (λ n. take (n - s) (drop s order)) (sym c.last)

pub Covers-same : (closed : Bool) (order : List ℕ) (p q : ℕ → Bool) (s e : ℕ)
    → ((j : ℕ) → j < length order → p j ≡ q j) → Covers closed order p s e → Covers closed order q s e
Covers-same closed order p q s e same c = record {
  some = c.some;
  there = c.there;
  first = sym (same s (let c_some = c.some in let c_there = c.there in omega arith)) ∙ c.first;
  last = ends closed c.last;
  all = λ j l h. c.all j l (same j l ∙ h);
}
  where
    ends : (closed : Bool) → EndsAt closed order p e → EndsAt closed order q e
    ends true last =
        let a = c.some in let b = c.there in sym (same (e - 1) (omega arith)) ∙ last
    ends false last = last

pub among_order : (order : List ℕ) (j : ℕ) → j < length order → is_among order (get_or order j 0) ≡ true
among_order order j l =
    list_any_at (λ n. eqb n (get_or order j 0)) order j 0 l (eq-eqb (get_or order j 0) (get_or order j 0) refl)

-- the survivors stand where the names do
pub survivors_stand : (order names : List ℕ) (j : ℕ) → j < length order
    → has order (survivors order names) j ≡ has order names j
survivors_stand order names j l =
    is_among-filter (is_among names) order (get_or order j 0)
    ∙ ap (λ b. b && has order names j) (among_order order j l)

-- the survivors that didn't change
abbrev unmoved : List ℕ → List ℕ → List ℕ → List ℕ
unmoved order changed names = filter (λ name. not (is_among changed name)) (survivors order names)

unmoved_stand : (order changed names : List ℕ) (j : ℕ) → j < length order
    → has order (unmoved order changed names) j ≡ has_settled order changed names j
unmoved_stand order changed names j l =
    is_among-filter (λ name. not (is_among changed name)) (survivors order names) (get_or order j 0)
    ∙ ap (λ b. b && not (has order changed j)) (survivors_stand order names j l)

pub not_empty : (xs : List ℕ) (name : ℕ) → is_among xs name ≡ true → (length xs == 0) ≡ false
not_empty [] name h = absurd (false≢true h)
not_empty (x ∷ xs) name h = ne_eqb (length (x ∷ xs)) 0 (λ e. omega arith)

pub length_cases : (xs : List ℕ) → (xs ≡ []) ⊎ (0 < length xs)
length_cases [] = inl refl
length_cases (x ∷ xs) = inr (omega arith)

pub first_name : (names : List ℕ) → 0 < length names → is_among names (get_or names 0 0) ≡ true
first_name names some = among_order names 0 some

pub survivors_same : (order names : List ℕ)
    → survivors order names ≡ filter (is_among (survivors order names)) order
survivors_same order names = filter_same (is_among names) (is_among (survivors order names)) order
    (λ j l. sym (survivors_stand order names j l))

-- no other line is in the range of the survivors
abbrev pub Fills : Bool → List ℕ → List ℕ → Bool → Type 0
Fills closed order names b =
    list_all (is_among (survivors order names)) (reach closed order (survivors order names)) ≡ b

-- what names are followed to: nothing where none is left, else what is left or a range of it
pub followed_cases : (closed : Bool) (order changed names : List ℕ)
    → ((survivors order names ≡ []) × (followed_names (reach closed) order changed names ≡ None))
    ⊎ ((0 < length (survivors order names)) × Fills closed order names true
    × (survivors order names ≡ reach closed order (survivors order names))
    × (followed_names (reach closed) order changed names ≡ Some (survivors order names)))
    ⊎ ((0 < length (survivors order names)) × Fills closed order names false
    × (followed_names (reach closed) order changed names
    ≡ Some (reach closed order (settled changed (survivors order names)))))
followed_cases closed order changed names = elim (length_cases (survivors order names)) [
  | inl none ↦ inl (none, rw none refl)
  | inr some ↦
      let left = survivors order names in
      let any : (length left == 0) ≡ false = not_empty left (get_or left 0 0) (first_name left some) in
      elim (cases_Bool (list_all (is_among left) (reach closed order left))) [
        | inl fills ↦ inr (inl (some, fills, filled closed fills, rw (any, fills) refl))
        | inr gap ↦ inr (inr (some, gap, rw (any, gap) refl))
      ]
]
  where
    filled : (closed : Bool) → Fills closed order names true
        → survivors order names ≡ reach closed order (survivors order names)
    filled true fills =
        survivors_same order names ∙ filter_stretch (is_among (survivors order names)) order fills
    filled false fills =
        survivors_same order names ∙ filter_tail (is_among (survivors order names)) order fills

left_some : (order names : List ℕ) (i : ℕ) → i < length order → has order names i ≡ true
    → survivors order names ≢ []
left_some order names i l h none =
    both_ways (has order names i) (sym (survivors_stand order names i l) ∙ rw none refl) h

-- names of which some is left become these places
followed_by : (closed : Bool) (order changed names : List ℕ) (s e i : ℕ) → i < length order
    → has order names i ≡ true
    → (Fills closed order names true
    → reach closed order (survivors order names) ≡ slice_range order s e)
    → (Fills closed order names false
    → reach closed order (settled changed (survivors order names)) ≡ slice_range order s e)
    → followed_names (reach closed) order changed names ≡ Some (slice_range order s e)
followed_by closed order changed names s e i l h full torn = elim (followed_cases closed order changed names) [
  | inl (none, _) ↦ absurd (left_some order names i l h none)
  | inr rest ↦ elim rest [
    | inl (_, fills, filled, kept) ↦ kept ∙ ap Some (filled ∙ full fills)
    | inr (_, gap, is) ↦ is ∙ ap Some (torn gap)
  ]
]

settled_unmoved : (order changed names : List ℕ) (i : ℕ) → i < length order
    → has_settled order changed names i ≡ true
    → settled changed (survivors order names) ≡ unmoved order changed names
settled_unmoved order changed names i l h =
    rw (not_empty (unmoved order changed names) (get_or order i 0)
    (unmoved_stand order changed names i l ∙ h)) refl

-- the range of the survivors, and of those that didn't change
survivors_range : (closed : Bool) (order names : List ℕ) (s e : ℕ)
    → Covers closed order (has order names) s e
    → reach closed order (survivors order names) ≡ slice_range order s e
survivors_range closed order names s e c =
    reach_at closed order (survivors order names) s e
    (Covers-same closed order (has order names) (has order (survivors order names)) s e
    (λ j l. sym (survivors_stand order names j l)) c)

settled_range : (closed : Bool) (order changed names : List ℕ) (s e : ℕ)
    → Covers closed order (has_settled order changed names) s e
    → reach closed order (settled changed (survivors order names)) ≡ slice_range order s e
settled_range closed order changed names s e c =
    let in_order : s < length order = let a = c.some in let b = c.there in omega arith in
    rw (settled_unmoved order changed names s in_order c.first)
    (reach_at closed order (unmoved order changed names) s e
    (Covers-same closed order (has_settled order changed names)
    (has order (unmoved order changed names)) s e
    (λ j l. sym (unmoved_stand order changed names j l)) c))

-- none of the names is left
pub lost : (closed : Bool) (order changed names : List ℕ)
    → ((j : ℕ) → j < length order → has order names j ≡ false)
    → followed_names (reach closed) order changed names ≡ None
lost closed order changed names none =
    rw (filter_none (is_among names) order none) refl

-- the places are the range both of the names and of those that didn't change
pub hull : (closed : Bool) (order changed names : List ℕ) (s e : ℕ)
    → Covers closed order (has order names) s e
    → Covers closed order (has_settled order changed names) s e
    → followed_names (reach closed) order changed names ≡ Some (slice_range order s e)
hull closed order changed names s e names_cover settled_cover =
    followed_by closed order changed names s e s
    (let a = names_cover.some in let b = names_cover.there in omega arith) names_cover.first
    (λ _. survivors_range closed order names s e names_cover)
    (λ _. settled_range closed order changed names s e settled_cover)

-- the names stand at just the places: no other line is in their range
pub together_fills : (closed : Bool) (order names : List ℕ) (s e : ℕ)
    → Covers closed order (has order names) s e
    → ((j : ℕ) → s ≤ j → j < e → has order names j ≡ true)
    → list_all (is_among (survivors order names)) (reach closed order (survivors order names)) ≡ true
together_fills closed order names s e cover full =
    let left = survivors order names in
    let long = length-slice_range order s e cover.there in
    rw (survivors_range closed order names s e cover)
    (list_all_places (is_among left) (slice_range order s e) (λ j l.
    let near : s + j < e = omega arith in
    let inside : s + j < length order = let b = cover.there in omega arith in
    rw (get_or-slice_range order s e j near)
    (survivors_stand order names (s + j) inside ∙ full (s + j) (omega arith) near)))

pub together : (closed : Bool) (order changed names : List ℕ) (s e : ℕ)
    → Covers closed order (has order names) s e
    → ((j : ℕ) → s ≤ j → j < e → has order names j ≡ true)
    → followed_names (reach closed) order changed names ≡ Some (slice_range order s e)
together closed order changed names s e cover full =
    let left = survivors order names in
    followed_by closed order changed names s e s
    (let a = cover.some in let b = cover.there in omega arith) cover.first
    (λ _. survivors_range closed order names s e cover)
    (λ gap. absurd (both_ways (list_all (is_among left) (reach closed order left)) gap
    (together_fills closed order names s e cover full)))

-- all of the names changed
pub carried : (closed : Bool) (order changed names : List ℕ) (s e : ℕ)
    → Covers closed order (has order names) s e
    → ((j : ℕ) → j < length order → has order names j ≡ true → has order changed j ≡ true)
    → followed_names (reach closed) order changed names ≡ Some (slice_range order s e)
carried closed order changed names s e cover all_changed =
    let left = survivors order names in
    let inside : s < length order = let a = cover.some in let b = cover.there in omega arith in
    let nothing : unmoved order changed names ≡ [] =
    filter_filter_none (is_among names) (λ name. not (is_among changed name)) order
    (λ j l h. ap not (all_changed j l h)) in
    let stay : settled changed left ≡ left = rw nothing refl in
    followed_by closed order changed names s e s inside cover.first
    (λ _. survivors_range closed order names s e cover)
    (λ _. rw stay (survivors_range closed order names s e cover))

-- a line that isn't one of the names stands between two of them, or behind one of an open range
pub torn : (closed : Bool) (order changed names : List ℕ) (s e i j : ℕ) → i < j → j < length order
    → has order names i ≡ true → has order names j ≡ false
    → PassesBehind closed order (has order names) j
    → Covers closed order (has_settled order changed names) s e
    → followed_names (reach closed) order changed names ≡ Some (slice_range order s e)
torn closed order changed names s e i j below there at_i at_j behind cover =
    let left = survivors order names in
    let stands = survivors_stand order names in
    followed_by closed order changed names s e i (omega arith) at_i
    (λ fills. absurd (both_ways (has order left j) (stands j there ∙ at_j)
    (filled closed (λ k l. stands k l) behind fills)))
    (λ _. settled_range closed order changed names s e cover)
  where
    filled : (closed : Bool)
        → ((k : ℕ) → k < length order → has order (survivors order names) k ≡ has order names k)
        → PassesBehind closed order (has order names) j
        → list_all (is_among (survivors order names)) (reach closed order (survivors order names)) ≡ true
        → has order (survivors order names) j ≡ true
    filled true stands (k, above, l, at_k) fills =
        filled_stretch (is_among (survivors order names)) order i j k fills below above l
        (stands i (omega arith) ∙ at_i) (stands k l ∙ at_k)
    filled false stands _ fills =
        filled_tail (is_among (survivors order names)) order i j fills below there
        (stands i (omega arith) ∙ at_i)

pub some_same : (xs ys : List ℕ) → Some xs ≡ Some ys → xs ≡ ys
some_same xs ys h = cc

pub some_none : (xs : List ℕ) → Some xs ≡ None → ⊥
some_none xs h = cc

-- what is lost has no name in the order
pub lost_names : (closed : Bool) (order changed names : List ℕ)
    → followed_names (reach closed) order changed names ≡ None
    → (j : ℕ) → j < length order → has order names j ≡ false
lost_names closed order changed names gone j l = elim (followed_cases closed order changed names) [
  | inl (none, _) ↦ sym (survivors_stand order names j l) ∙ rw none refl
  | inr rest ↦ elim rest [
    | inl (_, _, _, kept) ↦ absurd (some_none (survivors order names) (sym kept ∙ gone))
    | inr (_, _, is) ↦
        absurd (some_none (reach closed order (settled changed (survivors order names))) (sym is ∙ gone))
  ]
]

-- the first line of a stretch of names is one of them
stretch_first : (order names : List ℕ) → 0 < length (first_to_last order names)
    → is_among names (get_or (first_to_last order names) 0 0) ≡ true
stretch_first order names some =
    let begins = to_last_first (is_among names) (from_first (is_among names) order) some in
    rw begins.1 (first_passes (is_among names) order begins.0)

pub survivors_among : (order names : List ℕ) (name : ℕ) → is_among (survivors order names) name ≡ true
    → is_among names name ≡ true
survivors_among order names name h =
    (and_parts (is_among order name) (is_among names name)
    (sym (is_among-filter (is_among names) order name) ∙ h)).1

pub settled_among : (changed names : List ℕ) (name : ℕ) → is_among (settled changed names) name ≡ true
    → is_among names name ≡ true
settled_among changed names name h =
    let calm = filter (λ n. not (is_among changed n)) names in
    elim (cases_Bool (length calm == 0)) [
      | inl none ↦ rw none at h
      | inr some ↦
          (and_parts (is_among names name) (not (is_among changed name))
          (sym (is_among-filter (λ n. not (is_among changed n)) names name) ∙ (rw some at h))).0
    ]

-- the first line of what names are followed to is one of them
pub followed_first : (order changed names found : List ℕ)
    → followed_names first_to_last order changed names ≡ Some found → 0 < length found
    → is_among names (get_or found 0 0) ≡ true
followed_first order changed names found is some = elim (followed_cases true order changed names) [
  | inl (_, gone) ↦ absurd (some_none found (sym is ∙ gone))
  | inr rest ↦ elim rest [
    | inl (_, _, _, kept) ↦
        let same : survivors order names ≡ found = some_same (survivors order names) found (sym kept ∙ is) in
        survivors_among order names (get_or found 0 0) (rw same (first_name found some))
    | inr (_, _, torn_) ↦
        let calm = settled changed (survivors order names) in
        let same : first_to_last order calm ≡ found = some_same (first_to_last order calm) found (sym torn_ ∙ is) in
        survivors_among order names (get_or found 0 0)
        (settled_among changed (survivors order names) (get_or found 0 0)
        (rw (← same) (stretch_first order calm (rw (← same) at some))))
  ]
]
