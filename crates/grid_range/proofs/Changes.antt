-- Where the line at a place of the order after a change stood before.
use Rattle.std.proofs.Common.{subst, false, ◌&&◌, true, false, ◌≡◌, ℕ, ◌+◌, ◌-◌, ◌<◌, ◌≤◌, List, [], ◌++◌, length, get_or, take, drop, Some, eqb, arith, refl, sym, ap, ◌∙◌, inl, inr, ◌⊎◌, length-append, slice_get, append-nil}
use Rattle.std.specs.Prelude.{slice_range, ◌↔◌, nat_le, nat_lt, if◌then◌else◌}
use Rattle.std.proofs.lemmas.Bool.{cases_Bool, and_cases, leb-false, cases_lt, ne_eqb, eq-eqb}
use Rattle.std.proofs.lemmas.Bool.Decides.{nat_tests}
use Rattle.std.proofs.lemmas.List.{get_or_default, take-append-le, take-take, take_all, drop_all, take_at, drop_at, length-take-le, length-drop, get_or_append_left, get_or-append_right, get_or-take, get_or-drop}
use Rattle.std.proofs.lemmas.Option.{slice_get-get_or, slice_get_past}
use Rattle.std.proofs.lemmas.List.Sums.{position_or_len_is}
use Rattle.grid_range.specs.Order.{IsOrder}
use Rattle.std.specs.List.{Contains}
use Rattle.grid_range.specs.OrderChange.{put_before}
use Rattle.grid_range.specs.OrderChange.OrderChange.{Inserting, Deleting, Moving}
use Rattle.grid_range.specs.FollowingLaws.{OrdersStay, MoveKeepsLines}
use Rattle.grid_range.proofs.Lists.{from_first_at}
use Rattle.grid_range.proofs.Orders.{IsOrder-from_places, cases_inside, place_unique, get_or-slice_range, length-slice_range}

-- the order without the lines `a` to `b - 1`
abbrev pub without : List ℕ → ℕ → ℕ → List ℕ
without order a b = take a order ++ drop b order

-- the place of the order at which the line at a place without those lines stands
abbrev pub skip : ℕ → ℕ → ℕ → ℕ
skip a b place = if nat_lt place a then place else place + (b - a)

pub skip_is : (a b place : ℕ) → ((place < a) × (skip a b place ≡ place))
    ⊎ ((a ≤ place) × (skip a b place ≡ place + (b - a)))
skip_is a b place = grind (arith, nat_tests)

pub length-without : (order : List ℕ) (a b : ℕ) → a ≤ b → b ≤ length order
    → length (without order a b) ≡ length order - (b - a)
length-without order a b ab long =
    omega (
      arith,
      length-append (take a order) (drop b order),
      length-take-le a order
          (omega arith),
      length-drop b order,
    )

pub get_or-without : (order : List ℕ) (a b place : ℕ) → a ≤ b → b ≤ length order
    → get_or (without order a b) place 0 ≡ get_or order (skip a b place) 0
get_or-without order a b place ab long = elim (skip_is a b place) [
  | inl (near, is) ↦
      get_or_append_left (take a order) (drop b order) 0 place (omega (arith, length-take-le a order (omega arith)))
      ∙ get_or-take a order place 0 near ∙ ap (λ i. get_or order i 0) (sym is)
  | inr (far, is) ↦
      get_or-append_right (take a order) (drop b order) a place 0 (length-take-le a order (omega arith)) far
      ∙ get_or-drop b order (place - a) 0
      ∙ ap (λ i. get_or order i 0) (let i : b + (place - a) ≡ skip a b place = omega arith in i)
]

pub without_order : (order : List ℕ) (a b : ℕ) → a ≤ b → b ≤ length order → IsOrder order
    → IsOrder (without order a b)
without_order order a b ab long distinct =
    let size = length-without order a b ab long in
    IsOrder-from_places (without order a b) (λ i j below there same.
    let once : skip a b i ≡ skip a b j =
    place_unique order (skip a b i) (skip a b j) distinct
    (omega (arith, skip_is a b i)) (omega (arith, skip_is a b j))
    (sym (get_or-without order a b i ab long) ∙ same ∙ get_or-without order a b j ab long) in
    omega (arith, skip_is a b i, skip_is a b j))

-- the last lines of a stretch left out, and then the others
pub without_without : (order : List ℕ) (a m b : ℕ) → a ≤ m → m ≤ length order
    → without (without order m b) a m ≡ without order a b
without_without order a m b am long =
    let size = length-take-le m order long in
    rw (
      take-append-le a (take m order) (drop b order) (omega arith),
      take-take a m order am,
      drop_at (take m order) (drop b order) m size,
    )
    refl

-- those lines put back before place `d` of the others
abbrev pub exchanged : List ℕ → ℕ → ℕ → ℕ → List ℕ
exchanged order a b d = take d (without order a b) ++ slice_range order a b ++ drop d (without order a b)

-- the place at which the line at a place afterwards stood before
abbrev pub before_move : ℕ → ℕ → ℕ → ℕ → ℕ
before_move a b d place =
    if nat_lt place d then skip a b place
    else if nat_lt place (d + (b - a)) then a + (place - d)
    else skip a b (place - (b - a))

before_front : (a b d place : ℕ) → place < d → before_move a b d place ≡ skip a b place
before_front a b d place near = grind (arith, nat_tests)

before_carried : (a b d place : ℕ) → d ≤ place → place < d + (b - a)
    → before_move a b d place ≡ a + (place - d)
before_carried a b d place far near = grind (arith, nat_tests)

before_behind : (a b d place : ℕ) → d + (b - a) ≤ place
    → before_move a b d place ≡ skip a b (place - (b - a))
before_behind a b d place far = grind (arith, nat_tests)

pub before_move_is : (a b d place : ℕ) → a ≤ b
    → ((place < d) × (place < a) × (before_move a b d place ≡ place))
    ⊎ ((place < d) × (a ≤ place) × (before_move a b d place ≡ place + (b - a)))
    ⊎ ((d ≤ place) × (place < d + (b - a)) × (before_move a b d place ≡ a + (place - d)))
    ⊎ ((d + (b - a) ≤ place) × (place - (b - a) < a) × (before_move a b d place ≡ place - (b - a)))
    ⊎ ((d + (b - a) ≤ place) × (a ≤ place - (b - a)) × (before_move a b d place ≡ place))
before_move_is a b d place ab = elim (cases_lt place d) [
  | inl near ↦ elim (skip_is a b place) [
    | inl (x, is) ↦ inl (near, x, before_front a b d place near ∙ is)
    | inr (x, is) ↦ inr (inl (near, x, before_front a b d place near ∙ is))
  ]
  | inr far ↦ elim (cases_lt place (d + (b - a))) [
    | inl near ↦ inr (inr (inl (far, near, before_carried a b d place far near)))
    | inr behind ↦ elim (skip_is a b (place - (b - a))) [
      | inl (x, is) ↦ inr (inr (inr (inl (behind, x, before_behind a b d place behind ∙ is))))
      | inr (x, is) ↦
          let here : place - (b - a) + (b - a) ≡ place = omega arith in
          inr (inr (inr (inr (behind, x, before_behind a b d place behind ∙ is ∙ here))))
    ]
  ]
]

pub length-exchanged : (order : List ℕ) (a b d : ℕ) → a ≤ b → b ≤ length order
    → d ≤ length order - (b - a) → length (exchanged order a b d) ≡ length order
length-exchanged order a b d ab long near =
    let rest = without order a b in
    let stretch = slice_range order a b in
    omega (
      arith,
      length-append (take d rest ++ stretch) (drop d rest),
      length-append (take d rest) stretch,
      length-take-le d rest (omega (arith, length-without order a b ab long)),
      length-drop d rest,
      length-without order a b ab long,
      length-slice_range order a b long,
    )

pub get_or-exchanged : (order : List ℕ) (a b d place : ℕ) → a ≤ b → b ≤ length order
    → d ≤ length order - (b - a) → place < length order
    → get_or (exchanged order a b d) place 0 ≡ get_or order (before_move a b d place) 0
get_or-exchanged order a b d place ab long near there = elim (cases_lt place d) [
  | inl front ↦
      get_or_append_left (take d rest ++ stretch) (drop d rest) 0 place (omega (arith, both_long))
      ∙ get_or_append_left (take d rest) stretch 0 place (omega (arith, front_long))
      ∙ get_or-take d rest place 0 front
      ∙ get_or-without order a b place ab long
      ∙ ap (λ i. get_or order i 0) (sym (before_front a b d place front))
  | inr far ↦ elim (cases_lt place (d + (b - a))) [
    | inl carried ↦
        get_or_append_left (take d rest ++ stretch) (drop d rest) 0 place (omega (arith, both_long))
        ∙ get_or-append_right (take d rest) stretch d place 0 front_long far
        ∙ get_or-slice_range order a b (place - d) (omega arith)
        ∙ ap (λ i. get_or order i 0) (sym (before_carried a b d place far carried))
    | inr behind ↦
        get_or-append_right (take d rest ++ stretch) (drop d rest) (d + (b - a)) place 0 both_long behind
        ∙ get_or-drop d rest (place - (d + (b - a))) 0
        ∙ ap (λ i. get_or rest i 0)
        (let i : d + (place - (d + (b - a))) ≡ place - (b - a) = omega arith in i)
        ∙ get_or-without order a b (place - (b - a)) ab long
        ∙ ap (λ i. get_or order i 0) (sym (before_behind a b d place behind))
  ]
]
  where
    rest : List ℕ
    rest = without order a b

    stretch : List ℕ
    stretch = slice_range order a b

    front_long : length (take d rest) ≡ d
    front_long = length-take-le d rest (omega (arith, length-without order a b ab long))

    both_long : length (take d rest ++ stretch) ≡ d + (b - a)
    both_long =
        omega (arith, length-append (take d rest) stretch, front_long, length-slice_range order a b long)

-- a name is put before the place at which it stands
pub put_before_at : (order names : List ℕ) (name d : ℕ) → d < length order → get_or order d 0 ≡ name
    → ((j : ℕ) → j < d → get_or order j 0 ≡ name → ⊥)
    → put_before (Some name) names order ≡ take d order ++ names ++ drop d order
put_before_at order names name d there here others =
    let t = λ (n : ℕ). eqb n name in
    let found : t (get_or order d 0) ≡ true = eq-eqb (get_or order d 0) name here in
    let apart : (j : ℕ) → j < d → t (get_or order j 0) ≡ false =
    λ j l. ne_eqb (get_or order j 0) name (others j l) in
    rw (position_or_len_is t order d 0 (omega arith) apart (λ _. found), from_first_at t order d there found apart) refl

-- each line of the order before stands somewhere afterwards
pub moved_to : (a b d n place : ℕ) → a ≤ b → b ≤ n → d ≤ n - (b - a) → place < n
    → (p : ℕ) × (p < n) × (before_move a b d p ≡ place)
moved_to a b d n place ab long near there = elim (cases_inside a b place) [
  | inl within ↦ (d + (place - a), omega arith, omega (arith, before_move_is a b d (d + (place - a)) ab))
  | inr out ↦ elim out [
    | inl front ↦ elim (cases_lt place d) [
      | inl same ↦ (place, there, omega (arith, before_move_is a b d place ab))
      | inr far ↦ (place + (b - a), omega arith, omega (arith, before_move_is a b d (place + (b - a)) ab))
    ]
    | inr behind ↦ elim (cases_lt (place - (b - a)) d) [
      | inl back ↦ (place - (b - a), omega arith, omega (arith, before_move_is a b d (place - (b - a)) ab))
      | inr far ↦ (place, there, omega (arith, before_move_is a b d place ab))
    ]
  ]
]

-- lines that are put elsewhere have different names as before, and had
pub exchanged_order : (order : List ℕ) (a b d : ℕ) → a ≤ b → b ≤ length order
    → d ≤ length order - (b - a) → IsOrder order → IsOrder (exchanged order a b d)
exchanged_order order a b d ab long near distinct =
    let size = length-exchanged order a b d ab long near in
    IsOrder-from_places (exchanged order a b d) (λ i j below there same.
    let at_i = get_or-exchanged order a b d i ab long near (omega arith) in
    let at_j = get_or-exchanged order a b d j ab long near (omega arith) in
    let once : before_move a b d i ≡ before_move a b d j =
    place_unique order (before_move a b d i) (before_move a b d j) distinct
    (omega (arith, before_move_is a b d i ab)) (omega (arith, before_move_is a b d j ab))
    (sym at_i ∙ same ∙ at_j) in
    omega (arith, before_move_is a b d i ab, before_move_is a b d j ab))

pub order_exchanged : (order : List ℕ) (a b d : ℕ) → a ≤ b → b ≤ length order
    → d ≤ length order - (b - a) → IsOrder (exchanged order a b d) → IsOrder order
order_exchanged order a b d ab long near distinct =
    let size = length-exchanged order a b d ab long near in
    IsOrder-from_places order (λ i j below there same.
    go size i j below there same
    (moved_to a b d (length order) i ab long near (omega arith))
    (moved_to a b d (length order) j ab long near there))
  where
    go : length (exchanged order a b d) ≡ length order → (i j : ℕ) → i < j → j < length order
        → get_or order i 0 ≡ get_or order j 0
        → (p : ℕ) × (p < length order) × (before_move a b d p ≡ i)
        → (q : ℕ) × (q < length order) × (before_move a b d q ≡ j) → ⊥
    go size i j below there same (p, p_in, at_p) (q, q_in, at_q) =
        let from_p = get_or-exchanged order a b d p ab long near p_in in
        let from_q = get_or-exchanged order a b d q ab long near q_in in
        let once : p ≡ q = place_unique (exchanged order a b d) p q distinct (omega arith) (omega arith)
        (from_p ∙ ap (λ k. get_or order k 0) at_p ∙ same
        ∙ ap (λ k. get_or order k 0) (sym at_q) ∙ sym from_q) in
        let both : i ≡ j = sym at_p ∙ ap (before_move a b d) once ∙ at_q in
        omega arith

-- putting the lines before the one that stood at `to`, or last, is putting them at a place of the rest
pub put_before_to : (order : List ℕ) (a b to d : ℕ) → IsOrder order → a ≤ b → b ≤ length order
    → to ≤ length order → ((to < a) × (d ≡ to)) ⊎ ((b < to) × (d ≡ to - (b - a)))
    → put_before (slice_get order to) (slice_range order a b) (without order a b) ≡ exchanged order a b d
put_before_to order a b to d distinct ab long near place = elim (cases_lt to (length order)) [
  | inl there ↦
      rw (slice_get-get_or order to 0 there)
      (put_before_at (without order a b) (slice_range order a b) (get_or order to 0) d
      (omega (arith, size)) (at d ∙ ap (λ i. get_or order i 0) (target (skip_is a b d)))
      (λ j l same.
      let once : skip a b j ≡ to =
      place_unique order (skip a b j) to distinct (omega (arith, skip_is a b j)) there
      (sym (at j) ∙ same) in
      omega (arith, skip_is a b j)))
  | inr last ↦
      rw (
        slice_get_past order to last,
        take_all d (without order a b) (omega (arith, size)),
        drop_all d (without order a b) (omega (arith, size)),
      )
      (sym (append-nil (without order a b ++ slice_range order a b)))
]
  where
    size : length (without order a b) ≡ length order - (b - a)
    size = length-without order a b ab long

    at : (j : ℕ) → get_or (without order a b) j 0 ≡ get_or order (skip a b j) 0
    at j = get_or-without order a b j ab long

    target : ((d < a) × (skip a b d ≡ d)) ⊎ ((a ≤ d) × (skip a b d ≡ d + (b - a))) → skip a b d ≡ to
    target sum = omega arith

-- inserting is moving the new lines from the end
pub inserted_exchanged : (order fresh : List ℕ) (at : ℕ)
    → exchanged (order ++ fresh) (length order) (length order + length fresh) at
    ≡ take at order ++ fresh ++ drop at order
inserted_exchanged order fresh at =
    rw (front, all, none, append-nil order, stretch) refl
  where
    front : take (length order) (order ++ fresh) ≡ order
    front = take_at order fresh (length order) refl

    all : drop (length order) (order ++ fresh) ≡ fresh
    all = drop_at order fresh (length order) refl

    none : drop (length order + length fresh) (order ++ fresh) ≡ []
    none = drop_all (length order + length fresh) (order ++ fresh) (omega (arith, length-append order fresh))

    stretch : take (length order + length fresh - length order) fresh ≡ fresh
    stretch = take_all (length order + length fresh - length order) fresh (omega arith)

-- a place among the other lines for a destination outside the stretch
pub landing_place : (a b to : ℕ) → (nat_le a to && nat_le to b) ≡ false
    → (d : ℕ) × (((to < a) × (d ≡ to)) ⊎ ((b < to) × (d ≡ to - (b - a))))
landing_place a b to goes = elim (and_cases (nat_le a to) (nat_le to b) goes) [
  | inl h ↦ (to, inl (leb-false a to h, refl))
  | inr h ↦ (to - (b - a), inr (leb-false to b h, refl))
]

-- inserting is putting the new lines there from the front, too
inserted_front : (order names : List ℕ) (at : ℕ)
    → exchanged (names ++ order) 0 (length names) at ≡ take at order ++ names ++ drop at order
inserted_front order names at =
    let rest : without (names ++ order) 0 (length names) ≡ order = drop_at names order (length names) refl in
    let part : slice_range (names ++ order) 0 (length names) ≡ names =
    let size : length names - 0 ≡ length names = omega arith in
    rw size (take_at names order (length names) refl) in
    rw (rest, part) refl

-- a change leaves each line a name of its own
pub orders_stay : OrdersStay
orders_stay order (Inserting at names) distinct (place, some, fresh) =
    let size = length-append names order in
    subst IsOrder (inserted_front order names at)
    (exchanged_order (names ++ order) 0 (length names) at (omega arith) (omega arith) (omega arith) fresh)
orders_stay order (Deleting start end) distinct (line, there) =
    without_order order start end (omega arith) there distinct
orders_stay order (Moving start end to) distinct (line, there, target) =
    elim (cases_Bool (nat_le start to && nat_le to end)) [
      | inl idle ↦ rw idle distinct
      | inr goes ↦
          let d = landing_place start end to goes in
          rw (goes, put_before_to order start end to d.0 distinct (omega arith) there target d.1)
          (exchanged_order order start end d.0 (omega arith) there (omega (arith, d.1)) distinct)
    ]

exchanged_lines : (order : List ℕ) (a b d name : ℕ) → a ≤ b → b ≤ length order → d ≤ length order - (b - a)
    → Contains order name ↔ Contains (exchanged order a b d) name
exchanged_lines order a b d name ab long near =
    let size = length-exchanged order a b d ab long near in (
      (λ (k, l, at). there k l at (moved_to a b d (length order) k ab long near l)),
      (λ (k, l, at). (
        before_move a b d k,
        omega (arith, size, before_move_is a b d k ab),
        get_or_default order (before_move a b d k) name 0 (omega (arith, size, before_move_is a b d k ab))
            ∙ sym (get_or-exchanged order a b d k ab long near (omega (arith, size)))
            ∙ get_or_default (exchanged order a b d) k 0 name l ∙ at,
      )),
    )
  where
    there : (k : ℕ) → k < length order → get_or order k name ≡ name
        → (p : ℕ) × (p < length order) × (before_move a b d p ≡ k) → Contains (exchanged order a b d) name
    there k l at (p, in_, is) =
        let size = length-exchanged order a b d ab long near in (
          p,
          omega arith,
          get_or_default (exchanged order a b d) p name 0 (omega arith)
              ∙ get_or-exchanged order a b d p ab long near in_
              ∙ ap (λ i. get_or order i 0) is ∙ get_or_default order k 0 name l ∙ at,
        )

pub move_keeps_lines : MoveKeepsLines
move_keeps_lines order start end to name distinct (line, there, target) =
    elim (cases_Bool (nat_le start to && nat_le to end)) [
      | inl idle ↦ rw idle ((λ h. h), (λ h. h))
      | inr goes ↦
          let d = landing_place start end to goes in
          rw (goes, put_before_to order start end to d.0 distinct (omega arith) there target d.1)
          (exchanged_lines order start end d.0 name (omega arith) there (omega (arith, d.1)))
    ]
