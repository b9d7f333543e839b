-- Lists by the places at which a test passes.
use Rattle.std.proofs.Common.{append-nil, ◌++◌, ◌≡◌, ℕ, zero, suc, ◌<◌, Bool, true, false, ◌&&◌, List, [], ◌∷◌, length, get_or, take, drop, eqb, arith, refl, sym, ap, ◌∙◌, inl, inr}
use Rattle.std.specs.Prelude.{◌==◌}
use Rattle.std.specs.List.{filter, list_any, list_all, position_or_len}
use Rattle.std.proofs.lemmas.Bool.{or_left, false≢true, cases_Bool, cases_lt, cond-true, cond-false, and_parts, or_parts, eqb-true, and_right}
use Rattle.std.proofs.lemmas.List.Sums.{passes_at_first, fails_before_first}
use Rattle.std.proofs.lemmas.List.Folds.{list_any_at}
use Rattle.std.proofs.lemmas.List.{drop_all}
use Rattle.grid_range.specs.Order.{is_among, from_first, to_last}

-- the first place at which the test passes
pub from_first_at : (t : ℕ → Bool) (xs : List ℕ) (s : ℕ) → s < length xs
    → t (get_or xs s 0) ≡ true → ((j : ℕ) → j < s → t (get_or xs j 0) ≡ false)
    → from_first t xs ≡ drop s xs
from_first_at t [] s l h b = absurd (omega arith)
from_first_at t (x ∷ xs) zero l h b = cond-true (t x) (x ∷ xs) (from_first t xs) h
from_first_at t (x ∷ xs) (suc s) l h b =
    cond-false (t x) (x ∷ xs) (from_first t xs) (b 0 (omega arith))
    ∙ from_first_at t xs s (omega arith) h (λ j k. b (suc j) (omega arith))

none_first : (t : ℕ → Bool) (xs : List ℕ) → ((j : ℕ) → j < length xs → t (get_or xs j 0) ≡ false)
    → from_first t xs ≡ []
none_first t [] b = refl
none_first t (x ∷ xs) b =
    cond-false (t x) (x ∷ xs) (from_first t xs) (b 0 (omega arith))
    ∙ none_first t xs (λ j l. b (suc j) (omega arith))

-- no element passes
pub none_any : (t : ℕ → Bool) (xs : List ℕ) → ((j : ℕ) → j < length xs → t (get_or xs j 0) ≡ false)
    → list_any t xs ≡ false
none_any t [] b = refl
none_any t (x ∷ xs) b =
    rw (b 0 (omega arith)) (none_any t xs (λ j l. b (suc j) (omega arith)))

to_last_none : (t : ℕ → Bool) (xs : List ℕ) → ((j : ℕ) → j < length xs → t (get_or xs j 0) ≡ false)
    → to_last t xs ≡ []
to_last_none t [] b = refl
to_last_none t (x ∷ xs) b =
    cond-false (list_any t (x ∷ xs)) (x ∷ to_last t xs) [] (none_any t (x ∷ xs) b)

to_last_some : (t : ℕ → Bool) (x : ℕ) (xs : List ℕ) (k : ℕ) → suc k < length (x ∷ xs)
    → t (get_or xs k 0) ≡ true → to_last t (x ∷ xs) ≡ x ∷ to_last t xs
to_last_some t x xs k l h =
    cond-true (list_any t (x ∷ xs)) (x ∷ to_last t xs) [] (list_any_at t (x ∷ xs) (suc k) 0 l h)

-- the last place at which the test passes
pub to_last_at : (t : ℕ → Bool) (xs : List ℕ) (k : ℕ) → k < length xs → t (get_or xs k 0) ≡ true
    → ((j : ℕ) → k < j → j < length xs → t (get_or xs j 0) ≡ false)
    → to_last t xs ≡ take (suc k) xs
to_last_at t [] k l h b = absurd (omega arith)
to_last_at t (x ∷ xs) zero l h b =
    cond-true (list_any t (x ∷ xs)) (x ∷ to_last t xs) [] (list_any_at t (x ∷ xs) 0 0 l h)
    ∙ ap (λ ys. x ∷ ys) (to_last_none t xs (λ j m. b (suc j) (omega arith) (omega arith)))
to_last_at t (x ∷ xs) (suc k) l h b =
    to_last_some t x xs k l h ∙ ap (λ ys. x ∷ ys)
    (to_last_at t xs k (omega arith) h (λ j m n. b (suc j) (omega arith) (omega arith)))

-- the test passes at each place
pub list_all_places : (t : ℕ → Bool) (xs : List ℕ)
    → ((j : ℕ) → j < length xs → t (get_or xs j 0) ≡ true) → list_all t xs ≡ true
list_all_places t [] b = refl
list_all_places t (x ∷ xs) b =
    rw (b 0 (omega arith)) (list_all_places t xs (λ j l. b (suc j) (omega arith)))

pub filter_none : (t : ℕ → Bool) (xs : List ℕ)
    → ((j : ℕ) → j < length xs → t (get_or xs j 0) ≡ false) → filter t xs ≡ []
filter_none t [] b = refl
filter_none t (x ∷ xs) b =
    cond-false (t x) (x ∷ filter t xs) (filter t xs) (b 0 (omega arith))
    ∙ filter_none t xs (λ j l. b (suc j) (omega arith))

-- what passes one test fails the other
pub filter_filter_none : (p q : ℕ → Bool) (xs : List ℕ)
    → ((j : ℕ) → j < length xs → p (get_or xs j 0) ≡ true → q (get_or xs j 0) ≡ false)
    → filter q (filter p xs) ≡ []
filter_filter_none p q [] b = refl
filter_filter_none p q (x ∷ xs) b =
    let rest : filter q (filter p xs) ≡ [] =
    filter_filter_none p q xs (λ j l h. b (suc j) (omega arith) h) in
    elim (cases_Bool (p x)) [
      | inl passes ↦
          rw (cond-true (p x) (x ∷ filter p xs) (filter p xs) passes, b 0 (omega arith) passes) rest
      | inr fails ↦ rw (cond-false (p x) (x ∷ filter p xs) (filter p xs) fails) rest
    ]

pub filter_same : (t u : ℕ → Bool) (xs : List ℕ)
    → ((j : ℕ) → j < length xs → t (get_or xs j 0) ≡ u (get_or xs j 0)) → filter t xs ≡ filter u xs
filter_same t u [] b = refl
filter_same t u (x ∷ xs) b =
    rw (b 0 (omega arith), filter_same t u xs (λ j l. b (suc j) (omega arith)))

filter_no_any : (t : ℕ → Bool) (xs : List ℕ) → list_any t xs ≡ false → filter t xs ≡ []
filter_no_any t [] h = refl
filter_no_any t (x ∷ xs) h =
    let parts = or_parts (t x) (list_any t xs) h in
    cond-false (t x) (x ∷ filter t xs) (filter t xs) parts.0 ∙ filter_no_any t xs parts.1

pub filter_all : (t : ℕ → Bool) (xs : List ℕ) → list_all t xs ≡ true → filter t xs ≡ xs
filter_all t [] h = refl
filter_all t (x ∷ xs) h =
    let parts = and_parts (t x) (list_all t xs) h in
    cond-true (t x) (x ∷ filter t xs) (filter t xs) parts.0
    ∙ ap (λ ys. x ∷ ys) (filter_all t xs parts.1)

filter_to_last : (t : ℕ → Bool) (xs : List ℕ) → list_all t (to_last t xs) ≡ true
    → filter t xs ≡ to_last t xs
filter_to_last t [] h = refl
filter_to_last t (x ∷ xs) h = elim (cases_Bool (list_any t (x ∷ xs))) [
  | inl some ↦
      let is : to_last t (x ∷ xs) ≡ x ∷ to_last t xs =
      cond-true (list_any t (x ∷ xs)) (x ∷ to_last t xs) [] some in
      let parts = and_parts (t x) (list_all t (to_last t xs)) (rw is at h) in
      cond-true (t x) (x ∷ filter t xs) (filter t xs) parts.0
      ∙ ap (λ ys. x ∷ ys) (filter_to_last t xs parts.1) ∙ sym is
  | inr none ↦
      filter_no_any t (x ∷ xs) none
      ∙ sym (cond-false (list_any t (x ∷ xs)) (x ∷ to_last t xs) [] none)
]

-- what passes is the stretch, where all of the stretch passes
pub filter_stretch : (t : ℕ → Bool) (xs : List ℕ) → list_all t (to_last t (from_first t xs)) ≡ true
    → filter t xs ≡ to_last t (from_first t xs)
filter_stretch t [] h = refl
filter_stretch t (x ∷ xs) h = elim (cases_Bool (t x)) [
  | inl passes ↦
      let is : from_first t (x ∷ xs) ≡ x ∷ xs = cond-true (t x) (x ∷ xs) (from_first t xs) passes in
      filter_to_last t (x ∷ xs) (rw is at h) ∙ sym (ap (to_last t) is)
  | inr fails ↦
      let is : from_first t (x ∷ xs) ≡ from_first t xs =
      cond-false (t x) (x ∷ xs) (from_first t xs) fails in
      cond-false (t x) (x ∷ filter t xs) (filter t xs) fails
      ∙ filter_stretch t xs (rw is at h) ∙ sym (ap (to_last t) is)
]

-- the same of the tail
pub filter_tail : (t : ℕ → Bool) (xs : List ℕ) → list_all t (from_first t xs) ≡ true
    → filter t xs ≡ from_first t xs
filter_tail t [] h = refl
filter_tail t (x ∷ xs) h = elim (cases_Bool (t x)) [
  | inl passes ↦
      let is : from_first t (x ∷ xs) ≡ x ∷ xs = cond-true (t x) (x ∷ xs) (from_first t xs) passes in
      filter_all t (x ∷ xs) (rw is at h) ∙ sym is
  | inr fails ↦
      let is : from_first t (x ∷ xs) ≡ from_first t xs =
      cond-false (t x) (x ∷ xs) (from_first t xs) fails in
      cond-false (t x) (x ∷ filter t xs) (filter t xs) fails
      ∙ filter_tail t xs (rw is at h) ∙ sym is
]

all_at : (t : ℕ → Bool) (xs : List ℕ) (j : ℕ) → list_all t xs ≡ true → j < length xs
    → t (get_or xs j 0) ≡ true
all_at t [] j h l = absurd (omega arith)
all_at t (x ∷ xs) zero h l = (and_parts (t x) (list_all t xs) h).0
all_at t (x ∷ xs) (suc j) h l = all_at t xs j (and_parts (t x) (list_all t xs) h).1 (omega arith)

filled_to_last : (t : ℕ → Bool) (xs : List ℕ) (j k : ℕ) → list_all t (to_last t xs) ≡ true → j < k
    → k < length xs → t (get_or xs k 0) ≡ true → t (get_or xs j 0) ≡ true
filled_to_last t [] j k h a b u = absurd (omega arith)
filled_to_last t (x ∷ xs) j zero h a b u = absurd (omega arith)
filled_to_last t (x ∷ xs) zero (suc k) h a b u =
    (and_parts (t x) (list_all t (to_last t xs)) (rw (to_last_some t x xs k b u) at h)).0
filled_to_last t (x ∷ xs) (suc j) (suc k) h a b u =
    filled_to_last t xs j k
    (and_parts (t x) (list_all t (to_last t xs)) (rw (to_last_some t x xs k b u) at h)).1
    (omega arith) (omega arith) u

-- all between two that pass does where all of the stretch does
pub filled_stretch : (t : ℕ → Bool) (xs : List ℕ) (i j k : ℕ)
    → list_all t (to_last t (from_first t xs)) ≡ true → i < j → j < k → k < length xs
    → t (get_or xs i 0) ≡ true → t (get_or xs k 0) ≡ true → t (get_or xs j 0) ≡ true
filled_stretch t [] i j k h a b c u v = absurd (omega arith)
filled_stretch t (x ∷ xs) zero j k h a b c u v =
    filled_to_last t (x ∷ xs) j k (rw (cond-true (t x) (x ∷ xs) (from_first t xs) u) at h) b c v
filled_stretch t (x ∷ xs) (suc i) zero k h a b c u v = absurd (omega arith)
filled_stretch t (x ∷ xs) (suc i) (suc j) zero h a b c u v = absurd (omega arith)
filled_stretch t (x ∷ xs) (suc i) (suc j) (suc k) h a b c u v = elim (cases_Bool (t x)) [
  | inl passes ↦
      filled_to_last t (x ∷ xs) (suc j) (suc k)
      (rw (cond-true (t x) (x ∷ xs) (from_first t xs) passes) at h) b c v
  | inr fails ↦
      filled_stretch t xs i j k
      (rw (cond-false (t x) (x ∷ xs) (from_first t xs) fails) at h)
      (omega arith) (omega arith) (omega arith) u v
]

-- all behind one that passes does where all of the tail does
pub filled_tail : (t : ℕ → Bool) (xs : List ℕ) (i j : ℕ) → list_all t (from_first t xs) ≡ true
    → i < j → j < length xs → t (get_or xs i 0) ≡ true → t (get_or xs j 0) ≡ true
filled_tail t [] i j h a b u = absurd (omega arith)
filled_tail t (x ∷ xs) zero j h a b u =
    all_at t (x ∷ xs) j (rw (cond-true (t x) (x ∷ xs) (from_first t xs) u) at h) b
filled_tail t (x ∷ xs) (suc i) zero h a b u = absurd (omega arith)
filled_tail t (x ∷ xs) (suc i) (suc j) h a b u = elim (cases_Bool (t x)) [
  | inl passes ↦ all_at t (x ∷ xs) (suc j) (rw (cond-true (t x) (x ∷ xs) (from_first t xs) passes) at h) b
  | inr fails ↦
      filled_tail t xs i j (rw (cond-false (t x) (x ∷ xs) (from_first t xs) fails) at h)
      (omega arith) (omega arith) u
]

-- a name is among those that pass where it is one of the list and passes
pub is_among-filter : (t : ℕ → Bool) (xs : List ℕ) (name : ℕ)
    → is_among (filter t xs) name ≡ (is_among xs name && t name)
is_among-filter t [] name = refl
is_among-filter t (x ∷ xs) name = elim (cases_Bool (t x)) [
  | inl passes ↦ elim (cases_Bool (eqb x name)) [
    | inl same ↦
        let here : t name ≡ true = rw (← eqb-true x name same) passes in
        rw (cond-true (t x) (x ∷ filter t xs) (filter t xs) passes, same) (sym here)
    | inr other ↦
        rw (cond-true (t x) (x ∷ filter t xs) (filter t xs) passes, other)
        (is_among-filter t xs name)
  ]
  | inr fails ↦ elim (cases_Bool (eqb x name)) [
    | inl same ↦
        let here : t name ≡ false = rw (← eqb-true x name same) fails in
        rw (cond-false (t x) (x ∷ filter t xs) (filter t xs) fails, same)
        (is_among-filter t xs name ∙ ap (λ b. list_any (λ n. n == name) xs && b) here
        ∙ and_right (list_any (λ n. n == name) xs) false refl ∙ sym here)
    | inr other ↦
        rw (cond-false (t x) (x ∷ filter t xs) (filter t xs) fails, other)
        (is_among-filter t xs name)
  ]
]

-- what begins at the first that passes begins with one that does
pub first_passes : (t : ℕ → Bool) (xs : List ℕ) → 0 < length (from_first t xs)
    → t (get_or (from_first t xs) 0 0) ≡ true
first_passes t [] l = absurd (omega arith)
first_passes t (x ∷ xs) l = elim (cases_Bool (t x)) [
  | inl passes ↦ rw (cond-true (t x) (x ∷ xs) (from_first t xs) passes) passes
  | inr fails ↦
      let is = cond-false (t x) (x ∷ xs) (from_first t xs) fails in
      rw is (first_passes t xs (rw is at l))
]

pub to_last_first : (t : ℕ → Bool) (xs : List ℕ) → 0 < length (to_last t xs)
    → (0 < length xs) × (get_or (to_last t xs) 0 0 ≡ get_or xs 0 0)
to_last_first t [] l = absurd (omega arith)
to_last_first t (x ∷ xs) l = elim (cases_Bool (list_any t (x ∷ xs))) [
  | inl some ↦ (omega arith, rw (cond-true (list_any t (x ∷ xs)) (x ∷ to_last t xs) [] some) refl)
  | inr none ↦
      let empty = rw (cond-false (list_any t (x ∷ xs)) (x ∷ to_last t xs) [] none) at l in
      absurd (omega arith)
]

-- where the first that passes stands
pub from_first_drop : (t : ℕ → Bool) (xs : List ℕ) → from_first t xs ≡ drop (position_or_len t xs) xs
from_first_drop t xs = elim (cases_lt (position_or_len t xs) (length xs)) [
  | inl there ↦
      from_first_at t xs (position_or_len t xs) there (passes_at_first t xs 0 there)
      (λ j l. fails_before_first t xs j 0 l)
  | inr past ↦
      none_first t xs (λ j l. fails_before_first t xs j 0 (omega arith))
      ∙ sym (drop_all (position_or_len t xs) xs past)
]

-- a range is a part of the list
pub from_first_end : (t : ℕ → Bool) (xs : List ℕ) → (before : List ℕ) × (xs ≡ before ++ from_first t xs)
from_first_end t [] = ([], refl)
from_first_end t (x ∷ xs) = elim (cases_Bool (t x)) [
  | inl passes ↦ ([], sym (cond-true (t x) (x ∷ xs) (from_first t xs) passes))
  | inr fails ↦
      let rest = from_first_end t xs in (
        x ∷ rest.0,
        ap (λ ys. x ∷ ys) rest.1
            ∙ ap (λ ys. x ∷ rest.0 ++ ys) (sym (cond-false (t x) (x ∷ xs) (from_first t xs) fails)),
      )
]

pub to_last_front : (t : ℕ → Bool) (xs : List ℕ) → (behind : List ℕ) × (xs ≡ to_last t xs ++ behind)
to_last_front t [] = ([], refl)
to_last_front t (x ∷ xs) = elim (cases_Bool (list_any t (x ∷ xs))) [
  | inl some ↦
      let rest = to_last_front t xs in (
        rest.0,
        ap (λ ys. x ∷ ys) rest.1
            ∙ ap (λ ys. ys ++ rest.0) (sym (cond-true (list_any t (x ∷ xs)) (x ∷ to_last t xs) [] some)),
      )
  | inr none ↦ (
    x ∷ xs,
    ap (λ ys. ys ++ (x ∷ xs))
        (sym (cond-false (list_any t (x ∷ xs)) (x ∷ to_last t xs) [] none)),
  )
]

-- and has something where the test passes somewhere
pub from_first_some : (t : ℕ → Bool) (xs : List ℕ) → list_any t xs ≡ true → 0 < length (from_first t xs)
from_first_some t [] h = absurd (false≢true h)
from_first_some t (x ∷ xs) h = elim (cases_Bool (t x)) [
  | inl passes ↦ rw (cond-true (t x) (x ∷ xs) (from_first t xs) passes) (omega arith)
  | inr fails ↦
      rw (cond-false (t x) (x ∷ xs) (from_first t xs) fails)
      (from_first_some t xs (rw fails at h))
]

pub stretch_some : (t : ℕ → Bool) (xs : List ℕ) → list_any t xs ≡ true
    → 0 < length (to_last t (from_first t xs))
stretch_some t [] h = absurd (false≢true h)
stretch_some t (x ∷ xs) h = elim (cases_Bool (t x)) [
  | inl passes ↦
      let some : list_any t (x ∷ xs) ≡ true = or_left (t x) (list_any t xs) passes in
      rw (
        cond-true (t x) (x ∷ xs) (from_first t xs) passes,
        cond-true (list_any t (x ∷ xs)) (x ∷ to_last t xs) [] some,
      ) (omega arith)
  | inr fails ↦
      rw (cond-false (t x) (x ∷ xs) (from_first t xs) fails)
      (stretch_some t xs (rw fails at h))
]

-- ranges of a list in whose middle, or at whose end, just those stand that pass
from_first-skip : (t : ℕ → Bool) (before xs : List ℕ) → list_any t before ≡ false
    → from_first t (before ++ xs) ≡ from_first t xs
from_first-skip t [] xs none = refl
from_first-skip t (x ∷ before) xs none =
    let parts = or_parts (t x) (list_any t before) none in
    cond-false (t x) (x ∷ (before ++ xs)) (from_first t (before ++ xs)) parts.0
    ∙ from_first-skip t before xs parts.1

from_first-all : (t : ℕ → Bool) (xs behind : List ℕ) → list_all t xs ≡ true → 0 < length xs
    → from_first t (xs ++ behind) ≡ xs ++ behind
from_first-all t [] behind all some = absurd (omega arith)
from_first-all t (x ∷ xs) behind all some =
    cond-true (t x) (x ∷ (xs ++ behind)) (from_first t (xs ++ behind)) (and_parts (t x) (list_all t xs) all).0

to_last-all : (t : ℕ → Bool) (xs behind : List ℕ) → list_all t xs ≡ true → list_any t behind ≡ false
    → to_last t (xs ++ behind) ≡ xs
to_last-all t [] [] all none = refl
to_last-all t [] (y ∷ behind) all none =
    cond-false (list_any t (y ∷ behind)) (y ∷ to_last t behind) [] none
to_last-all t (x ∷ xs) behind all none =
    let parts = and_parts (t x) (list_all t xs) all in
    cond-true (list_any t (x ∷ (xs ++ behind))) (x ∷ to_last t (xs ++ behind)) []
    (or_left (t x) (list_any t (xs ++ behind)) parts.0)
    ∙ ap (λ ys. x ∷ ys) (to_last-all t xs behind parts.1 none)

pub tail_part : (t : ℕ → Bool) (before xs : List ℕ) → list_any t before ≡ false → list_all t xs ≡ true
    → 0 < length xs → from_first t (before ++ xs) ≡ xs
tail_part t before xs none all some =
    from_first-skip t before xs none
    ∙ rw (append-nil xs) at (from_first-all t xs [] all some)

pub stretch_part : (t : ℕ → Bool) (before xs behind : List ℕ) → list_any t before ≡ false
    → list_all t xs ≡ true → 0 < length xs → list_any t behind ≡ false
    → to_last t (from_first t (before ++ (xs ++ behind))) ≡ xs
stretch_part t before xs behind none all some last =
    ap (to_last t) (from_first-skip t before (xs ++ behind) none ∙ from_first-all t xs behind all some)
    ∙ to_last-all t xs behind all last

pub any-from_filter : (t : ℕ → Bool) (xs : List ℕ) → length (filter t xs) ≡ 0 → list_any t xs ≡ false
any-from_filter t [] h = refl
any-from_filter t (x ∷ xs) h = elim (cases_Bool (t x)) [
  | inl passes ↦
      let none = rw (cond-true (t x) (x ∷ filter t xs) (filter t xs) passes) at h in absurd (omega arith)
  | inr fails ↦
      rw fails (any-from_filter t xs (rw (cond-false (t x) (x ∷ filter t xs) (filter t xs) fails) at h))
]
