-- Orders by their places: which names of a stretch stand where.
use Rattle.std.proofs.Common.{◌++◌, ◌≡◌, ℕ, ◌+◌, ◌-◌, ◌<◌, ◌≤◌, Bool, true, false, ◌&&◌, List, length, get_or, drop, eqb, leb, ltb, arith, sym, ap, ◌∙◌, inl, inr, ◌⊎◌}
use Rattle.std.specs.Prelude.{slice_range}
use Rattle.std.proofs.lemmas.Bool.{cases_lt, cases_order, ne_eqb, eq-eqb, lt-ltb, le-ltb, le-leb, lt-leb, and_from, and_parts, and_left, and_right, leb-true, ltb-true}
use Rattle.std.proofs.lemmas.List.{drop_at, take_at, get_or_default, get_or-take, get_or-drop, length-take-le, length-drop}
use Rattle.std.proofs.lemmas.List.Folds.{list_any_at}
use Rattle.grid_range.specs.Order.{IsOrder, is_among}
use Rattle.grid_range.proofs.Lists.{none_any}

-- a name stands at one place
pub place_unique : (order : List ℕ) (i j : ℕ) → IsOrder order → i < length order → j < length order
    → get_or order i 0 ≡ get_or order j 0 → i ≡ j
place_unique order i j distinct in_i in_j same = elim (cases_order i j) [
  | inl e ↦ e
  | inr apart ↦ elim apart [
    | inl below ↦ absurd (distinct i j 0 below in_j same)
    | inr above ↦ absurd (distinct j i 0 above in_i (sym same))
  ]
]

-- different places have different names
pub IsOrder-from_places : (order : List ℕ)
    → ((i j : ℕ) → i < j → j < length order → get_or order i 0 ≡ get_or order j 0 → ⊥) → IsOrder order
IsOrder-from_places order apart = λ i j d below there same.
    apart i j below there
    (get_or_default order i 0 d (omega arith) ∙ same ∙ get_or_default order j d 0 there)

pub get_or-slice_range : (xs : List ℕ) (s e j : ℕ) → s + j < e
    → get_or (slice_range xs s e) j 0 ≡ get_or xs (s + j) 0
get_or-slice_range xs s e j l =
    get_or-take (e - s) (drop s xs) j 0 (omega arith) ∙ get_or-drop s xs j 0

pub length-slice_range : (xs : List ℕ) (s e : ℕ) → e ≤ length xs
    → length (slice_range xs s e) ≡ e - s
length-slice_range xs s e l =
    length-take-le (e - s) (drop s xs) (omega (arith, length-drop s xs))

-- whether a place is one of a stretch
abbrev pub inside : ℕ → ℕ → ℕ → Bool
inside s e k = leb s k && ltb k e

pub inside_from : (s e k : ℕ) → s ≤ k → k < e → inside s e k ≡ true
inside_from s e k a b = and_from (leb s k) (ltb k e) (le-leb s k a) (lt-ltb k e b)

pub inside_true : (s e k : ℕ) → inside s e k ≡ true → (s ≤ k) × (k < e)
inside_true s e k h =
    let parts = and_parts (leb s k) (ltb k e) h in
    (leb-true s k parts.0, ltb-true k e parts.1)

pub inside_out : (s e k : ℕ) → (k < s) ⊎ (e ≤ k) → inside s e k ≡ false
inside_out s e k (inl before) = and_left (leb s k) (ltb k e) (lt-leb s k before)
inside_out s e k (inr behind) = and_right (leb s k) (ltb k e) (le-ltb k e behind)

pub cases_inside : (s e k : ℕ) → ((s ≤ k) × (k < e)) ⊎ ((k < s) ⊎ (e ≤ k))
cases_inside s e k = elim (cases_lt k s) [
  | inl before ↦ inr (inl before)
  | inr from ↦ elim (cases_lt k e) [ inl below ↦ inl (from, below) | inr behind ↦ inr (inr behind) ]
]

among_in : (order : List ℕ) (s e k : ℕ) → e ≤ length order → s ≤ k → k < e
    → is_among (slice_range order s e) (get_or order k 0) ≡ true
among_in order s e k long from below =
    let name = get_or order k 0 in
    let at : get_or (slice_range order s e) (k - s) 0 ≡ name =
    get_or-slice_range order s e (k - s) (omega arith)
    ∙ ap (λ i. get_or order i 0) (let i : s + (k - s) ≡ k = omega arith in i) in
    list_any_at (λ n. eqb n name) (slice_range order s e) (k - s) 0
    (omega (arith, length-slice_range order s e long))
    (eq-eqb (get_or (slice_range order s e) (k - s) 0) name at)

among_out : (order : List ℕ) (s e k : ℕ) → IsOrder order → e ≤ length order → k < length order
    → (k < s) ⊎ (e ≤ k) → is_among (slice_range order s e) (get_or order k 0) ≡ false
among_out order s e k distinct long there out =
    let name = get_or order k 0 in
    none_any (λ n. eqb n name) (slice_range order s e) (λ j l.
    let near : s + j < e = omega (arith, length-slice_range order s e long) in
    rw (get_or-slice_range order s e j near)
    (ne_eqb (get_or order (s + j) 0) name (λ same.
    let is : s + j ≡ k = place_unique order (s + j) k distinct (omega arith) there same in
    omega arith)))

-- the names of a stretch are those at its places
pub among_span : (order : List ℕ) (s e k : ℕ) → IsOrder order → e ≤ length order → k < length order
    → is_among (slice_range order s e) (get_or order k 0) ≡ inside s e k
among_span order s e k distinct long there = elim (cases_inside s e k) [
  | inl within ↦ among_in order s e k long within.0 within.1 ∙ sym (inside_from s e k within.0 within.1)
  | inr out ↦ among_out order s e k distinct long there out ∙ sym (inside_out s e k out)
]

-- a part of a list by its places
pub part_is_slice : (order before part behind : List ℕ) (s e : ℕ) → order ≡ before ++ (part ++ behind)
    → length before ≡ s → s + length part ≡ e → slice_range order s e ≡ part
part_is_slice order before part behind s e is starts ends =
    let size : e - s ≡ length part = omega arith in
    rw (is, drop_at before (part ++ behind) s starts, size)
    (take_at part behind (length part) (λ i. length part))
