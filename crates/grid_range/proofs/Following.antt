-- The laws of following.
use Rattle.std.proofs.Common.{◌≡◌, ℕ, ◌+◌, ◌<◌, Bool, true, false, not, List, [], ◌++◌, length, get_or, Option, None, Some, eqb, arith, refl, sym, ap, subst, ◌∙◌, inl, inr, append_assoc, length-append}
use Rattle.std.specs.Prelude.{◌≢◌, ◌↔◌, ◌==◌}
use Rattle.std.specs.List.{filter, list_any, list_all, Contains}
use Rattle.std.specs.Option.{option_map}
use Rattle.std.proofs.lemmas.Bool.{cases_Bool, false_from_ne_true, both_ways, and_parts, eqb-true, eq-eqb}
use Rattle.std.proofs.lemmas.List.{get_or_default}
use Rattle.std.proofs.lemmas.List.Elements.{Contains-get_or, filter-append}
use Rattle.std.proofs.lemmas.List.Folds.{list_any_at, Any-from_list_any}
use Rattle.grid_range.specs.Order.{StandTogether, EndTheOrder, is_among, from_first, to_last, first_to_last, first_to_end}
use Rattle.grid_range.specs.NameBand.{NameBand, IsBandOf}
use Rattle.grid_range.specs.NameBand.NameBand.{Whole, Closed, Open}
use Rattle.grid_range.specs.Following.{survivors, settled, followed_names, follow}
use Rattle.grid_range.specs.FollowingLaws.{WholeStays, GivesBands, ClosedKeepsLines, OpenKeepsLines, TornClosedIsRange, TornOpenIsRange, LostWhereGone}
use Rattle.grid_range.proofs.Lists.{filter_all, list_all_places, from_first_end, to_last_front, from_first_some, stretch_some, tail_part, stretch_part, any-from_filter, is_among-filter}
use Rattle.grid_range.proofs.Ranges.{length_cases, first_name, survivors_same, followed_cases, some_none, some_same, has, reach, lost, lost_names, settled_among}

pub whole_stays : WholeStays
unfolding follow
whole_stays order changed = refl

not_nil : (xs : List ℕ) → 0 < length xs → xs ≢ []
not_nil xs some empty = let none = rw empty at some in absurd (omega arith)

-- a name of a list is at one of its places
pub place_of_name : (xs : List ℕ) (name : ℕ) → is_among xs name ≡ true → Contains xs name
place_of_name xs name h =
    let found = Any-from_list_any (λ n. eqb n name) xs h in
    (found.0, found.2, get_or_default xs found.0 name found.1 found.2 ∙ found.3 ∙ eqb-true found.1 name found.4)

pub name_of_place : (xs : List ℕ) (name : ℕ) → Contains xs name → is_among xs name ≡ true
name_of_place xs name (k, l, at) =
    list_any_at (λ n. eqb n name) xs k name l (eq-eqb (get_or xs k name) name at)

-- the two kinds of ranges, by one word, are parts of the order
abbrev pub IsPart : Bool → List ℕ → List ℕ → Type 0
IsPart true = StandTogether
IsPart false = EndTheOrder

range_is_part : (closed : Bool) (order names : List ℕ) → IsPart closed order (reach closed order names)
range_is_part true order names =
    let front = from_first_end (is_among names) order in
    let back = to_last_front (is_among names) (from_first (is_among names) order) in (
      front.0,
      back.0,
      front.1 ∙ ap (λ ys. front.0 ++ ys) back.1
          ∙ sym (append_assoc front.0 (first_to_last order names) back.0),
    )
range_is_part false order names = from_first_end (is_among names) order

range_some : (closed : Bool) (order names : List ℕ) → list_any (is_among names) order ≡ true
    → 0 < length (reach closed order names)
range_some true order names h = stretch_some (is_among names) order h
range_some false order names h = from_first_some (is_among names) order h

-- a part that some name of the order is in
pub meets_order : (order names : List ℕ) (name : ℕ) → is_among names name ≡ true → is_among order name ≡ true
    → list_any (is_among names) order ≡ true
meets_order order names name here there =
    let at = place_of_name order name there in
    list_any_at (is_among names) order at.0 name at.1 (rw at.2 here)

pub survivors_in_order : (order names : List ℕ) (name : ℕ) → is_among (survivors order names) name ≡ true
    → is_among order name ≡ true
survivors_in_order order names name h =
    (and_parts (is_among order name) (is_among names name)
    (sym (is_among-filter (is_among names) order name) ∙ h)).0

pub settled_some : (changed names : List ℕ) → 0 < length names → 0 < length (settled changed names)
settled_some changed names some =
    elim (cases_Bool (length (filter (λ n. not (is_among changed n)) names) == 0)) [
      | inl none ↦ rw none some
      | inr any ↦ rw any (elim (length_cases (filter (λ n. not (is_among changed n)) names)) [
        | inl empty ↦ absurd (both_ways (length (filter (λ n. not (is_among changed n)) names) == 0) any
            (rw empty refl))
        | inr more ↦ more
      ])
    ]

-- what they are followed to is a part of the order, and some of it
followed_part : (closed : Bool) (order changed names found : List ℕ)
    → followed_names (reach closed) order changed names ≡ Some found
    → (found ≢ []) × IsPart closed order found
followed_part closed order changed names found is = elim (followed_cases closed order changed names) [
  | inl (none, lost_) ↦ absurd (some_none found (sym is ∙ lost_))
  | inr rest ↦ elim rest [
    | inl (some, _, filled, kept) ↦
        let same : survivors order names ≡ found = some_same (survivors order names) found (sym kept ∙ is) in (
          rw (← same) (not_nil (survivors order names) some),
          rw (← same, filled) (range_is_part closed order (survivors order names)),
        )
    | inr (some, gap, torn_) ↦
        let calm = settled changed (survivors order names) in
        let same : reach closed order calm ≡ found = some_same (reach closed order calm) found (sym torn_ ∙ is) in
        let first = first_name calm (settled_some changed (survivors order names) some) in
        let meets = meets_order order calm (get_or calm 0 0) first
        (survivors_in_order order names (get_or calm 0 0)
        (settled_among changed (survivors order names) (get_or calm 0 0) first)) in (
          rw (← same) (not_nil (reach closed order calm) (range_some closed order calm meets)),
          rw (← same) (range_is_part closed order calm),
        )
  ]
]

all_among : (names : List ℕ) → list_all (is_among names) names ≡ true
all_among names = list_all_places (is_among names) names
    (λ j l. list_any_at (λ n. eqb n (get_or names j 0)) names j 0 l (eq-eqb (get_or names j 0) (get_or names j 0) refl))

-- the lines that are left fill their range where they are a part of the order
part_fills : (closed : Bool) (order names : List ℕ) → 0 < length (survivors order names)
    → IsPart closed order (survivors order names)
    → reach closed order (survivors order names) ≡ survivors order names
part_fills true order names some (before, behind, is) =
    let left = survivors order names in
    let t = is_among left in
    let kept : left ≡ filter t before ++ filter t left ++ filter t behind =
    survivors_same order names ∙ ap (filter t) is ∙ filter-append t (before ++ left) behind
    ∙ ap (λ ys. ys ++ filter t behind) (filter-append t before left) in
    let all : filter t left ≡ left = filter_all t left (all_among left) in
    let count : length left ≡ length (filter t before) + length (filter t left) + length (filter t behind) =
    ap length kept ∙ length-append (filter t before ++ filter t left) (filter t behind)
    ∙ ap (λ n. n + length (filter t behind)) (length-append (filter t before) (filter t left)) in
    let size : length (filter t left) ≡ length left = ap length all in
    ap (λ o. to_last t (from_first t o)) (is ∙ append_assoc before left behind)
    ∙ stretch_part t before left behind (any-from_filter t before (omega arith)) (all_among left) some
    (any-from_filter t behind (omega arith))
part_fills false order names some (before, is) =
    let left = survivors order names in
    let t = is_among left in
    let kept : left ≡ filter t before ++ filter t left =
    survivors_same order names ∙ ap (filter t) is ∙ filter-append t before left in
    let all : filter t left ≡ left = filter_all t left (all_among left) in
    let count : length left ≡ length (filter t before) + length (filter t left) =
    ap length kept ∙ length-append (filter t before) (filter t left) in
    let size : length (filter t left) ≡ length left = ap length all in
    ap (from_first t) is
    ∙ tail_part t before left (any-from_filter t before (omega arith)) (all_among left) some

keeps_lines : (closed : Bool) (order changed names : List ℕ) → survivors order names ≢ []
    → IsPart closed order (survivors order names)
    → followed_names (reach closed) order changed names ≡ Some (survivors order names)
keeps_lines closed order changed names any part = elim (followed_cases closed order changed names) [
  | inl (none, _) ↦ absurd (any none)
  | inr rest ↦ elim rest [
    | inl (some, _, filled, kept) ↦ kept
    | inr (some, gap, _) ↦
        let left = survivors order names in
        let fills : list_all (is_among left) (reach closed order left) ≡ true =
        rw (part_fills closed order names some part) (all_among left) in
        absurd (both_ways (list_all (is_among left) (reach closed order left)) gap fills)
  ]
]

takes_range : (closed : Bool) (order changed names : List ℕ) → survivors order names ≢ []
    → ¬ (IsPart closed order (survivors order names))
    → followed_names (reach closed) order changed names
    ≡ Some (reach closed order (settled changed (survivors order names)))
takes_range closed order changed names any torn_ = elim (followed_cases closed order changed names) [
  | inl (none, _) ↦ absurd (any none)
  | inr rest ↦ elim rest [
    | inl (some, _, filled, _) ↦
        absurd (torn_ (rw filled (range_is_part closed order (survivors order names))))
    | inr (some, gap, is) ↦ is
  ]
]

pub closed_keeps_lines : ClosedKeepsLines
unfolding follow
closed_keeps_lines order changed names any part = ap (option_map Closed) (keeps_lines true order changed names any part)

pub open_keeps_lines : OpenKeepsLines
unfolding follow
open_keeps_lines order changed names any part = ap (option_map Open) (keeps_lines false order changed names any part)

pub torn_closed_is_range : TornClosedIsRange
unfolding follow
torn_closed_is_range order changed names any torn_ =
    ap (option_map Closed) (takes_range true order changed names any torn_)

pub torn_open_is_range : TornOpenIsRange
unfolding follow
torn_open_is_range order changed names any torn_ =
    ap (option_map Open) (takes_range false order changed names any torn_)

-- a band that names make, or that is lost with them
made_gives : (make : List ℕ → NameBand) (found : Option (List ℕ)) (band : NameBand) (P : NameBand → Type 0)
    → ((names : List ℕ) → found ≡ Some names → P (make names))
    → option_map make found ≡ Some band → P band
made_gives make None band P each is = absurd (none_some band is)
  where
    none_some : (band : NameBand) → None ≡ Some band → ⊥
    none_some band h = cc
made_gives make (Some names) band P each is = subst P (same (make names) band is) (each names refl)
  where
    same : (made band : NameBand) → Some made ≡ Some band → made ≡ band
    same made band h = cc

made_none : (make : List ℕ → NameBand) (found : Option (List ℕ)) → option_map make found ≡ None → found ≡ None
made_none make None h = refl
made_none make (Some names) h = absurd (some_none (make names) h)
  where
    some_none : (band : NameBand) → Some band ≡ None → ⊥
    some_none band h = cc

pub gives_bands : GivesBands
unfolding follow
gives_bands order changed Whole found is = subst (IsBandOf order) (same found is) tt
  where
    same : (found : NameBand) → Some Whole ≡ Some found → Whole ≡ found
    same found h = cc
gives_bands order changed (Closed names) found is =
    made_gives Closed (followed_names first_to_last order changed names) found (IsBandOf order)
    (λ left h. followed_part true order changed names left h) is
gives_bands order changed (Open names) found is =
    made_gives Open (followed_names first_to_end order changed names) found (IsBandOf order)
    (λ left h. followed_part false order changed names left h) is

-- names are lost exactly where none of them is in the order
pub names_lost : (closed : Bool) (order changed names : List ℕ)
    → (followed_names (reach closed) order changed names ≡ None)
    ↔ ((name : ℕ) → Contains names name → ¬ (Contains order name))
names_lost closed order changed names = (
  (λ gone name here (k, l, at).
      both_ways (is_among names name)
      (subst (λ n. is_among names n ≡ false) (get_or_default order k 0 name l ∙ at)
      (lost_names closed order changed names gone k l))
      (name_of_place names name here)),
  (λ none. lost closed order changed names (λ j l.
      false_from_ne_true (has order names j) (λ h.
      none (get_or order j 0) (place_of_name names (get_or order j 0) h)
      (Contains-get_or order j 0 l)))),
)

pub lost_where_gone : LostWhereGone
unfolding follow
lost_where_gone order changed Whole = ((λ h. whole h), (λ h. absurd h))
  where
    whole : Some Whole ≡ None → ⊥
    whole h = cc
lost_where_gone order changed (Closed names) =
    let both = names_lost true order changed names in (
      (λ h. both.0 (made_none Closed (followed_names first_to_last order changed names) h)),
      (λ h. ap (option_map Closed) (both.1 h)),
    )
lost_where_gone order changed (Open names) =
    let both = names_lost false order changed names in (
      (λ h. both.0 (made_none Open (followed_names first_to_end order changed names) h)),
      (λ h. ap (option_map Open) (both.1 h)),
    )
