-- Which lines a move leaves side by side in their old order.
use Rattle.std.proofs.Common.{◌≡◌, ℕ, ◌+◌, ◌-◌, ◌<◌, ◌≤◌, ◌⊎◌, inl, inr, arith, refl, sym, ap, subst, ◌∙◌, true, false, List, ◌++◌, length, get_or, take, drop, length-append, Bool}
use Rattle.std.specs.Prelude.{slice_range, ◌&&◌, nat_le, IsTrue, ◌↔◌}
use Rattle.std.proofs.lemmas.Bool.{false≢true, cases_Bool, cases_lt, not-false, not-true}
use Rattle.std.proofs.lemmas.Bool.Decides.{nat_tests}
use Rattle.std.proofs.lemmas.List.{take-append-drop, same_lists, get_or_append_left, get_or-append_right, get_or_default, append_assoc}
use Rattle.grid_range.specs.Order.{IsOrder, StandTogether}
use Rattle.grid_range.proofs.Orders.{place_unique, get_or-slice_range, length-slice_range}
use Rattle.grid_range.proofs.Changes.{exchanged, before_move, before_move_is, length-exchanged, get_or-exchanged, put_before_to, landing_place}
use Rattle.grid_range.specs.OrderChange.{order_after}
use Rattle.grid_range.specs.OrderChange.OrderChange.{Moving}
use Rattle.grid_range.specs.declared.band.Band.{Band}
use Rattle.grid_range.specs.declared.band.Band.TheVariants as bands
use Rattle.grid_range.specs.declared.change.Change.{Change}
use Rattle.grid_range.specs.declared.change.Change.TheVariants.{Insert, Delete, Move}
use Rattle.grid_range.specs.Band.{Within, first_line, end_line}
use Rattle.grid_range.specs.Change.{Fits, Changes, order_change, inserted_lines}
use Rattle.grid_range.specs.Tearing.{IsMove, StaysWhole, IsTorn, keeps_whole, tears}
use Rattle.grid_range.specs.TrackingLaws.{TornOrWhole, TearsWhereTorn}
use Rattle.grid_range.proofs.Named.{numbers, numbers_change}

-- names that are read from one place on stand together
together_from : (after names : List ℕ) (x : ℕ) → x + length names ≤ length after
    → ((k : ℕ) → k < length names → get_or after (x + k) 0 ≡ get_or names k 0) → StandTogether after names
together_from after names x within same =
    let n = length names in
    let part : slice_range after x (x + n) ≡ names =
    same_lists (slice_range after x (x + n)) names (omega (arith, length-slice_range after x (x + n) within))
    (λ k d l.
    let short : k < n = omega (arith, length-slice_range after x (x + n) within) in
    get_or_default (slice_range after x (x + n)) k d 0 l
    ∙ get_or-slice_range after x (x + n) k (omega arith) ∙ same k short ∙ sym (get_or_default names k d 0 short)) in
    let size : x + n - x ≡ n = omega arith in (
      take x after,
      drop n (drop x after),
      sym (take-append-drop x after)
          ∙ ap (λ ys. take x after ++ ys) (sym (take-append-drop n (drop x after)))
          ∙ sym (append_assoc (take x after) (take n (drop x after)) (drop n (drop x after)))
          ∙ ap (λ ys. take x after ++ ys ++ drop n (drop x after)) (sym (ap (λ m. take m (drop x after)) size) ∙ part),
    )

-- all of a stretch's lines are moved, or none, and to no place between them
abbrev pub Whole : ℕ → ℕ → ℕ → ℕ → ℕ → Type 0
Whole a b to s e = ((a ≤ s) × (e ≤ b)) ⊎ ((e ≤ a) × (to ≤ s)) ⊎ ((e ≤ a) × (e ≤ to)) ⊎ ((b ≤ s) × (to ≤ s))
    ⊎ ((b ≤ s) × (e ≤ to))

module _ (order : List ℕ) (a b to d : ℕ) (distinct : IsOrder order) (some : a < b) (long : b ≤ length order)
    (target : to ≤ length order)
    (lands : ((to < a) × (d ≡ to)) ⊎ ((b < to) × (d ≡ to - (b - a)))) where
  near : d ≤ length order - (b - a)
  near = omega (arith, lands)

  size : length (exchanged order a b d) ≡ length order
  size = length-exchanged order a b d (omega arith) long near

  -- those of a stretch stand at a place from which the lines stood there
  moved_together : (s e x : ℕ) → s < e → e ≤ length order → x + (e - s) ≤ length order
      → ((k : ℕ) → k < e - s → before_move a b d (x + k) ≡ s + k)
      → StandTogether (exchanged order a b d) (slice_range order s e)
  moved_together s e x rise there fits goes =
      let count = length-slice_range order s e there in
      together_from (exchanged order a b d) (slice_range order s e) x (omega (arith, size, count))
      (λ k l.
      get_or-exchanged order a b d (x + k) (omega arith) long near (omega (arith, count))
      ∙ ap (λ i. get_or order i 0) (goes k (omega (arith, count)))
      ∙ sym (get_or-slice_range order s e k (omega (arith, count))))

  pub whole_together : (s e : ℕ) → s < e → e ≤ length order → Whole a b to s e
      → StandTogether (exchanged order a b d) (slice_range order s e)
  whole_together s e rise there whole = elim whole [
    | inl carried ↦ moved_together s e (d + (s - a)) rise there (omega (arith, lands))
        (λ k l. omega (arith, lands, before_move_is a b d (d + (s - a) + k) (omega arith)))
    | inr rest ↦ elim rest [
      | inl pushed ↦ moved_together s e (s + (b - a)) rise there (omega (arith, lands))
          (λ k l. omega (arith, lands, before_move_is a b d (s + (b - a) + k) (omega arith)))
      | inr rest2 ↦ elim rest2 [
        | inl front ↦ moved_together s e s rise there (omega (arith, lands))
            (λ k l. omega (arith, lands, before_move_is a b d (s + k) (omega arith)))
        | inr rest3 ↦ elim rest3 [
          | inl back ↦ moved_together s e s rise there (omega (arith, lands))
              (λ k l. omega (arith, lands, before_move_is a b d (s + k) (omega arith)))
          | inr pulled ↦ moved_together s e (s - (b - a)) rise there (omega (arith, lands))
              (λ k l. omega (arith, lands, before_move_is a b d (s - (b - a) + k) (omega arith)))
        ]
      ]
    ]
  ]

  -- two lines that stood side by side, where the move comes between them, don't any more
  parted : (p j : ℕ) → 0 < p → (p ≡ a) ⊎ (p ≡ b) ⊎ (p ≡ to) → before_move a b d j ≡ p - 1
      → before_move a b d (j + 1) ≡ p → ⊥
  parted p j first at one next = omega (
    arith,
    at,
    lands,
    before_move_is a b d j (omega arith),
    before_move_is a b d
        (j + 1) (omega arith),
  )

  -- which line stands at a place of names that stand together
  stood : (s e j k : ℕ) → e ≤ length order → k < e - s → j + k < length order → (before behind : List ℕ)
      → length before ≡ j
      → exchanged order a b d ≡ before ++ slice_range order s e ++ behind → before_move a b d (j + k) ≡ s + k
  stood s e j k there l fits before behind long_before is =
      let count = length-slice_range order s e there in
      let within : before_move a b d (j + k) < length order =
      omega (arith, lands, before_move_is a b d (j + k) (omega arith)) in
      let here : j + k - j ≡ k = omega arith in
      place_unique order (before_move a b d (j + k)) (s + k) distinct within (omega arith)
      (sym (get_or-exchanged order a b d (j + k) (omega arith) long near fits)
      ∙ ap (λ xs. get_or xs (j + k) 0) is
      ∙ get_or_append_left (before ++ slice_range order s e) behind 0 (j + k)
      (omega (arith, length-append before (slice_range order s e), count))
      ∙ get_or-append_right before (slice_range order s e) j (j + k) 0 long_before (omega arith)
      ∙ ap (λ i. get_or (slice_range order s e) i 0) here
      ∙ get_or-slice_range order s e k (omega arith))

  pub torn_apart : (s e p : ℕ) → s < p → p < e → e ≤ length order → (p ≡ a) ⊎ (p ≡ b) ⊎ (p ≡ to)
      → ¬ (StandTogether (exchanged order a b d) (slice_range order s e))
  torn_apart s e p front back there at (before, behind, is) =
      let count = length-slice_range order s e there in
      let total = ap length is in
      let fits : length before + (e - s) ≤ length order =
      omega (
        arith,
        size,
        count,
        total,
        length-append (before ++ slice_range order s e) behind,
        length-append before
            (slice_range order s e),
      ) in
      let j = length before + (p - 1 - s) in
      let one = stood s e (length before) (p - 1 - s) there (omega arith) (omega arith) before behind refl is in
      let two = stood s e (length before) (p - s) there (omega arith) (omega arith) before behind refl is in
      let next : length before + (p - s) ≡ length before + (p - 1 - s) + 1 = omega arith in
      parted p (length before + (p - 1 - s)) (omega arith) at (omega (arith, one)) (ap (before_move a b d) (sym next)
      ∙ two ∙ (let e : s + (p - s) ≡ p = omega arith in e))

-- what the test of a move says
pub whole_cases : (a b to s e : ℕ) → (nat_le a to && nat_le to b) ≡ false → keeps_whole a b to s e ≡ true
    → Whole a b to s e
whole_cases a b to s e goes h = grind (arith, nat_tests)

torn_cases : (a b to s e : ℕ) → a < b → s < e → keeps_whole a b to s e ≡ false
    → (p : ℕ) × (s < p) × (p < e) × ((p ≡ a) ⊎ (p ≡ b) ⊎ (p ≡ to))
torn_cases a b to s e some rise h = elim (cases_lt s a) [
  | inl low ↦ elim (cases_lt a e) [
    | inl in_ ↦ (a, low, in_, inl refl)
    | inr out ↦ (to, grind (arith, nat_tests), grind (arith, nat_tests), inr (inr refl))
  ]
  | inr high ↦ elim (cases_lt b e) [
    | inl over ↦ elim (cases_lt s b) [
      | inl in_ ↦ (b, in_, over, inr (inl refl))
      | inr out ↦ (to, grind (arith, nat_tests), grind (arith, nat_tests), inr (inr refl))
    ]
    | inr under ↦ absurd (false≢true (sym h ∙ contained a b to s e high under))
  ]
]
  where
    contained : (a b to s e : ℕ) → a ≤ s → e ≤ b → keeps_whole a b to s e ≡ true
    contained a b to s e l u = grind (arith, nat_tests)

-- what a move makes of an order, and of a stretch of it
module _ (order fresh after : List ℕ) (a b to count : ℕ) (changes : Changes (Move a b to) count order fresh after) where
  moved_order : (d : ℕ) → ((to < a) × (d ≡ to)) ⊎ ((b < to) × (d ≡ to - (b - a)))
      → (nat_le a to && nat_le to b) ≡ false → after ≡ exchanged order a b d
  moved_order d lands goes =
      let is : order_after (Moving a b to) order ≡ exchanged order a b d =
      rw goes (put_before_to order a b to d changes.distinct
      (omega (arith, changes.made.0)) changes.made.1 changes.made.2 lands) in
      changes.result ∙ is

  still_together : (s e : ℕ) → s < e → e ≤ length order → StandTogether order (slice_range order s e)
  still_together s e rise there =
      let size = length-slice_range order s e there in
      together_from order (slice_range order s e) s (omega (arith, size))
      (λ k l. sym (get_or-slice_range order s e k (omega (arith, size))))

  pub keeps_together : (s e : ℕ) → s < e → e ≤ count → keeps_whole a b to s e ≡ true
      → StandTogether after (slice_range order s e)
  keeps_together s e rise there whole =
      let long : e ≤ length order = omega (arith, changes.long) in
      elim (cases_Bool (nat_le a to && nat_le to b)) [
        | inl idle ↦
            let is : order_after (Moving a b to) order ≡ order = rw idle refl in
            subst (λ xs. StandTogether xs (slice_range order s e)) (sym (changes.result ∙ is))
            (still_together s e rise long)
        | inr goes ↦
            let d = landing_place a b to goes in
            subst (λ xs. StandTogether xs (slice_range order s e)) (sym (moved_order d.0 d.1 goes))
            (whole_together order a b to d.0 changes.distinct changes.made.0 changes.made.1 changes.made.2 d.1 s e rise
            long (whole_cases a b to s e goes whole))
      ]

  pub tears_apart : (s e : ℕ) → s < e → e ≤ count → keeps_whole a b to s e ≡ false
      → ¬ (StandTogether after (slice_range order s e))
  tears_apart s e rise there torn together =
      let long : e ≤ length order = omega (arith, changes.long) in
      let goes : (nat_le a to && nat_le to b) ≡ false = elim (cases_Bool (nat_le a to && nat_le to b)) [
        | inl idle ↦ absurd (false≢true (sym torn ∙ idle_whole a b to s e idle))
        | inr goes ↦ goes
      ] in
      let d = landing_place a b to goes in
      let (p, front, back, at) = torn_cases a b to s e changes.made.0 rise torn in
      torn_apart order a b to d.0 changes.distinct changes.made.0 changes.made.1 changes.made.2 d.1 s e p front back
      long at
      (subst (λ xs. StandTogether xs (slice_range order s e)) (moved_order d.0 d.1 goes) together)
    where
      idle_whole : (a b to s e : ℕ) → (nat_le a to && nat_le to b) ≡ true → keeps_whole a b to s e ≡ true
      idle_whole a b to s e idle = grind (arith, nat_tests)

-- a band that is among the lines has some where a move can be made
lines_of : (change : Change) (count : ℕ) (band : Band) → Fits change count → IsMove change → Within band count
    → (first_line band < end_line band count) × (end_line band count ≤ count)
lines_of (Insert at n) count band fits move within = absurd move
lines_of (Delete a b) count band fits move within = absurd move
lines_of (Move a b to) count bands.Whole fits move within = (omega arith, omega arith)
lines_of (Move a b to) count (bands.From start) fits move within = (within, omega arith)
lines_of (Move a b to) count (bands.Span start end) fits move within = within

stays_whole : (change : Change) (count : ℕ) (band : Band) → Fits change count → Within band count → IsMove change
    → tears change (first_line band) (end_line band count) ≡ false → StaysWhole change count band
stays_whole (Insert at n) count band fits within move whole = absurd move
stays_whole (Delete a b) count band fits within move whole = absurd move
stays_whole (Move a b to) count band fits within move whole =
    let lines = lines_of (Move a b to) count band fits tt within in
    record {
      stands = λ order fresh after changes.
          keeps_together order fresh after a b to count changes (first_line band) (end_line band count) lines.0 lines.1
          (not-false (keeps_whole a b to (first_line band) (end_line band count)) whole);
    }

pub is_torn : (change : Change) (count : ℕ) (band : Band) → Fits change count → Within band count
    → tears change (first_line band) (end_line band count) ≡ true → IsTorn change count band
is_torn (Insert at n) count band fits within torn = absurd (false≢true torn)
is_torn (Delete a b) count band fits within torn = absurd (false≢true torn)
is_torn (Move a b to) count band fits within torn =
    let lines = lines_of (Move a b to) count band fits tt within in
    record {
      move = tt;
      torn = λ order fresh after changes together.
          tears_apart order fresh after a b to count changes (first_line band) (end_line band count) lines.0 lines.1
          (not-true (keeps_whole a b to (first_line band) (end_line band count)) torn) together;
    }

pub torn_or_whole : TornOrWhole
torn_or_whole band count change fits within move =
    elim (cases_Bool (tears change (first_line band) (end_line band count))) [
      | inl torn ↦ inl (is_torn change count band fits within torn)
      | inr whole ↦ inr (stays_whole change count band fits within move whole)
    ]

pub tears_where_torn : TearsWhereTorn
tears_where_torn band count change fits within = (
  is_torn change count band fits within,
  (λ torn. elim (cases_Bool (tears change (first_line band) (end_line band count))) [
    | inl apart ↦ apart
    | inr whole ↦
        let order = numbers 0 count in
        let fresh = numbers count (inserted_lines change) in
        let after = order_after (order_change change fresh) order in
        let changes = numbers_change change count fits in
        absurd (torn.torn order fresh after changes
        ((stays_whole change count band fits within torn.move whole).stands order fresh after changes))
  ]),
)

-- the test's answer says whether the band is torn
pub tears_is_torn : (change : Change) (count : ℕ) (band : Band) (first past : ℕ) (result : Bool)
    → result ≡ tears change first past → first ≡ first_line band → past ≡ end_line band count
    → Fits change count → Within band count → IsTrue result ↔ IsTorn change count band
tears_is_torn change count band first past result is at_first at_past fits within =
    let value : result ≡ tears change (first_line band) (end_line band count) = rw (← at_first, ← at_past) is in
    let both = tears_where_torn band count change fits within in
    ((λ apart. both.0 (sym value ∙ apart)), (λ torn. value ∙ both.1 torn))
