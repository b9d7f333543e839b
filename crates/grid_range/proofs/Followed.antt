-- The places that `span_after` gives are those to which the names of a band are followed.
use Rattle.std.proofs.Common.{◌≡◌, ℕ, ◌+◌, ◌-◌, ◌<◌, ◌≤◌, Bool, true, false, ◌&&◌, List, [], ◌++◌, length, take, drop, None, leb, arith, refl, sym, ap, subst, ◌∙◌, inl, inr, ◌⊎◌, length-append}
use Rattle.std.specs.Prelude.{slice_range, nat_le}
use Rattle.std.proofs.lemmas.Bool.{cases_Bool, cases_lt, and_parts, and_cases, leb-true, leb-false}
use Rattle.std.proofs.lemmas.List.{take_all, drop_at, drop-append-le, take-append-le, length-drop}
use Rattle.grid_range.specs.Order.{IsOrder}
use Rattle.grid_range.specs.Following.{followed_names}
use Rattle.grid_range.specs.OrderChange.{order_after}
use Rattle.grid_range.specs.OrderChange.OrderChange.{Moving}
use Rattle.grid_range.proofs.Ranges.{reach}
use Rattle.grid_range.proofs.Changes.{landing_place, before_move, before_move_is, exchanged, length-exchanged, get_or-exchanged, put_before_to, order_exchanged, inserted_exchanged, without, skip}
use Rattle.grid_range.proofs.Arrivals.{EndOf, Came, Follows, Settles, Tears, follow_hull, follow_together, follow_carried, follow_torn, follow_lost}
use Rattle.grid_range.specs.Tracking.{closed_up, start_opened, end_opened, span_moved}
use Rattle.grid_range.proofs.Changing.{closed_stays, open_stays}
use Rattle.grid_range.proofs.Deletions.{ClosedUp, left_count, left_came, deleted, deleted_open, deleted_none}
use Rattle.grid_range.proofs.Spans.{StartOpened, EndOpened, closed_up_is, start_opened_is, end_opened_is}
use Rattle.grid_range.proofs.Moves as moves

-- a closed band becomes the lines of the span, an open one those from its start on
abbrev pub SpanFollows : Bool → List ℕ → List ℕ → List ℕ → ℕ × ℕ → Type 0
SpanFollows true after changed names span = Follows true after changed names span.0 span.1
SpanFollows false after changed names span = Follows false after changed names span.0 (length after)

Follows-at : {closed : Bool} {after changed names : List ℕ} (s e s' e' : ℕ) → s' ≡ s → e' ≡ e
    → Follows closed after changed names s e → Follows closed after changed names s' e'
Follows-at s e s' e' same_start same_end c = rw (same_start, same_end) c

-- the lines from `a` to `b - 1` are put before line `d` of the others
module _ (order : List ℕ) (a b d : ℕ) (some : a < b) (within : b ≤ length order)
    (near : d + (b - a) ≤ length order) (distinct : IsOrder order) where
  abbrev N : ℕ
  N = length (exchanged order a b d)

  size : N ≡ length order
  size = length-exchanged order a b d (omega arith) within (omega arith)

  came : Came order (exchanged order a b d) (before_move a b d)
  came = record {
    within = λ j l. omega (arith, size, before_move_is a b d j (omega arith));
    same = λ j l. get_or-exchanged order a b d j (omega arith) within (omega arith) (omega (arith, size));
  }

  within_after : b ≤ N
  within_after = omega (arith, size)

  near_after : d + (b - a) ≤ N
  near_after = omega (arith, size)

  pub beside_follows : (closed : Bool) (s e s' e' s1 e1 : ℕ) → s < e → e ≤ length order
      → (e ≤ a) ⊎ (b ≤ s) → ClosedUp a b s s1 → ClosedUp a b e e1
      → StartOpened d (b - a) s1 s' → EndOpened d (b - a) e1 e'
      → SpanFollows closed (exchanged order a b d) (slice_range order a b) (slice_range order s e) (s', e')
  beside_follows true s e s' e' s1 e1 line there apart s_up e_up s_open e_open =
      let outside = moves.beside_outside a b d N some within_after near_after
      s e s' e' s1 e1 line (omega (arith, size)) apart s_up e_up s_open e_open in
      follow_hull order (exchanged order a b d) (before_move a b d) came distinct true s e a b s' e' there within
      (moves.beside a b d N some within_after near_after
      s e s' e' s1 e1 line (omega (arith, size)) apart s_up e_up s_open e_open)
      outside.0 outside.1
  beside_follows false s e s' e' s1 e1 line there apart s_up e_up s_open e_open =
      follow_hull order (exchanged order a b d) (before_move a b d) came distinct false s e a b s'
      N there within
      (moves.beside_open a b d N some within_after near_after
      s e s' s1 line (omega (arith, size)) apart s_up s_open)
      (moves.beside_open_outside a b d N some within_after near_after
      s e s' s1 line (omega (arith, size)) apart s_up s_open)
      tt

  pub carried_follows : (closed : Bool) (s e : ℕ) → s < e → e ≤ length order → EndOf closed (length order) e
      → a ≤ s → e ≤ b
      → SpanFollows closed (exchanged order a b d) (slice_range order a b) (slice_range order s e)
      (d + (s - a), d + (e - a))
  carried_follows true s e line there end low high =
      follow_carried order (exchanged order a b d) (before_move a b d) came distinct true s e a b
      (d + (s - a)) (d + (e - a)) there within low high
      (moves.carried a b d N some within_after near_after s e line low high)
  carried_follows false s e line there end low high =
      let to_end : N ≡ e = omega (arith, size) in
      follow_carried order (exchanged order a b d) (before_move a b d) came distinct false s e a b
      (d + (s - a)) N there within low high
      (rw (← to_end) (moves.carried_open a b d N some within_after near_after s
      (omega (arith, size)) low (omega (arith, size))))

  pub kept_follows : (closed : Bool) (s e : ℕ) → e ≤ length order → EndOf closed (length order) e
      → s ≤ a → b ≤ e → s ≤ d → d + (b - a) ≤ e
      → SpanFollows closed (exchanged order a b d) (slice_range order a b) (slice_range order s e) (s, e)
  kept_follows true s e there end low high from until =
      follow_together order (exchanged order a b d) (before_move a b d) came distinct true s e a b s e there within
      (moves.kept a b d N some within_after near_after s e low high
      (omega (arith, size)) from until)
      (moves.kept_full a b d N some within_after near_after s e low high from until)
  kept_follows false s e there end low high from until =
      let to_end : N ≡ e = omega (arith, size) in
      follow_together order (exchanged order a b d) (before_move a b d) came distinct false s e a b s
      N there within
      (rw (← to_end) (moves.kept_open a b d N some within_after near_after s low from))
      (λ j l m. moves.kept_full a b d N some within_after near_after
      s e low high from until j l (omega arith))

  torn_at : (closed : Bool) (s e s' e' i j : ℕ) → e ≤ length order
      → Tears closed N (before_move a b d) s e i j
      → Settles closed N (before_move a b d) s e a b s' e'
      → Follows closed (exchanged order a b d) (slice_range order a b) (slice_range order s e) s' e'
  torn_at closed s e s' e' i j there tears settles =
      follow_torn order (exchanged order a b d) (before_move a b d) came distinct closed s e a b s' e' i j
      there within tears settles

  -- some lines of the band leave it, or some of those that move were others
  pub torn_follows : (closed : Bool) (s e s1 e1 s' e' : ℕ) → s < e → e ≤ length order
      → EndOf closed (length order) e → s < b → a < e → (s < a) ⊎ (b < e)
      → (a < s) ⊎ (e < b) ⊎ (d < s) ⊎ (e < d + (b - a)) → (d < a) ⊎ (a < d)
      → ClosedUp a b s s1 → ClosedUp a b e e1 → StartOpened d (b - a) s1 s' → EndOpened d (b - a) e1 e'
      → SpanFollows closed (exchanged order a b d) (slice_range order a b) (slice_range order s e) (s', e')
  torn_follows true s e s1 e1 s' e' line there end meets_end meets_start outside out way s_up e_up s_open e_open =
      elim (cases_lt a s) [
        | inl start ↦ elim way [
          | inl front ↦ Follows-at b e s' e' (omega arith) (omega arith)
              (torn_at true s e b e (d + (b - a) - 1) (d + (b - a)) there
              (moves.start_front_tears a b d N some within_after near_after s e start meets_end
              (omega arith) (omega (arith, size)) front)
              (moves.start_front a b d N some within_after near_after s e start meets_end
              (omega arith) (omega (arith, size)) front))
          | inr back ↦
              let e1_is : e1 ≡ e - (b - a) = omega arith in
              Follows-at a e' s' e' (omega arith) refl
              (torn_at true s e a e' a d there
              (moves.start_back_tears a b d N some within_after near_after s e start meets_end
              (omega arith) (omega (arith, size)) back)
              (moves.start_back a b d N some within_after near_after s e e' start meets_end
              (omega arith) (omega (arith, size)) back (rw e1_is at e_open)))
        ]
        | inr before_start ↦ elim (cases_lt e b) [
          | inl finish ↦ elim way [
            | inl front ↦
                let s1_is : s1 ≡ s = omega arith in
                Follows-at s' b s' e' refl (omega arith)
                (torn_at true s e s' b d (d + (e - a)) there
                (moves.end_front_tears a b d N some within_after near_after s e (omega arith)
                meets_start finish front)
                (moves.end_front a b d N some within_after near_after s e s' (omega arith)
                meets_start finish front (rw s1_is at s_open)))
            | inr back ↦ Follows-at s a s' e' (omega arith) (omega arith)
                (torn_at true s e s a (a - 1) a there
                (moves.end_back_tears a b d N some within_after near_after s e (omega arith)
                meets_start finish back)
                (moves.end_back a b d N some within_after near_after s e (omega arith)
                meets_start finish back))
          ]
          | inr behind_end ↦ elim (cases_lt d s) [
            | inl front ↦ Follows-at (s + (b - a)) e s' e' (omega arith) (omega arith)
                (torn_at true s e (s + (b - a)) e d (d + (b - a)) there
                (moves.left_front_tears a b d N some within_after near_after s e before_start
                behind_end (omega (arith, size)) (omega arith) front)
                (moves.left_front a b d N some within_after near_after s e before_start
                behind_end (omega (arith, size)) (omega arith) front))
            | inr far ↦ Follows-at s (e - (b - a)) s' e' (omega arith) (omega arith)
                (torn_at true s e s (e - (b - a)) s (e - (b - a)) there
                (moves.left_back_tears a b d N some within_after near_after s e before_start
                behind_end (omega (arith, size)) (omega arith) (omega arith))
                (moves.left_back a b d N some within_after near_after s e before_start
                behind_end (omega (arith, size)) (omega arith) (omega arith)))
          ]
        ]
      ]
  torn_follows false s e s1 e1 s' e' line there end meets_end meets_start outside out way s_up e_up s_open e_open =
      let to_end : N ≡ e = omega (arith, size) in
      elim (cases_lt a s) [
        | inl start ↦ elim way [
          | inl front ↦ Follows-at b N s' N (omega arith) refl
              (torn_at false s e b N (d + (b - a) - 1) (d + (b - a)) there
              (rw (← to_end) (moves.start_front_open_tears a b d N some within_after near_after s
              start meets_end (omega arith) front))
              (rw (← to_end) (moves.start_front_open a b d N some within_after near_after s
              start meets_end (omega arith) front)))
          | inr back ↦ Follows-at a N s' N (omega arith) refl
              (torn_at false s e a N a d there
              (rw (← to_end) (moves.start_back_open_tears a b d N some within_after near_after s
              start meets_end (omega arith) back))
              (rw (← to_end) (moves.start_back_open a b d N some within_after near_after s
              start meets_end (omega arith) back)))
        ]
        | inr before_start ↦ Follows-at (s + (b - a)) N s' N (omega arith) refl
            (torn_at false s e (s + (b - a)) N d (d + (b - a)) there
            (rw (← to_end) (moves.left_front_open_tears a b d N some within_after near_after s
            before_start (omega arith) (omega arith)))
            (rw (← to_end) (moves.left_front_open a b d N some within_after near_after s
            before_start (omega arith) (omega arith))))
      ]

-- where a destination outside the stretch lands among the other lines
landing : (a b to : ℕ) → (to < a) ⊎ (b < to)
    → ((to < a) × (closed_up a b to ≡ to)) ⊎ ((b < to) × (closed_up a b to ≡ to - (b - a)))
landing a b to (inl front) = inl (front, omega (arith, closed_up_is a b to))
landing a b to (inr back) = inr (back, omega (arith, closed_up_is a b to))

way_of : (a b to : ℕ) → (nat_le a to && nat_le to b) ≡ false → (to < a) ⊎ (b < to)
way_of a b to goes = elim (landing_place a b to goes).1 [
  | inl (front, _) ↦ inl front
  | inr (back, _) ↦ inr back
]

-- a move that moves something
pub moved_order : (order : List ℕ) (a b to : ℕ) → IsOrder order → a < b → b ≤ length order
    → to ≤ length order → (nat_le a to && nat_le to b) ≡ false
    → (order_after (Moving a b to) order ≡ exchanged order a b (closed_up a b to))
    × (closed_up a b to + (b - a) ≤ length order)
moved_order order a b to distinct some within target goes =
    let way : (to < a) ⊎ (b < to) = way_of a b to goes in (
      rw goes (put_before_to order a b to (closed_up a b to) distinct (omega arith) within target
          (landing a b to way)),
      omega (arith, closed_up_is a b to),
    )

-- a move of the lines from `a` to `b - 1` before line `to`
pub moved_follows : (closed : Bool) (order : List ℕ) (a b to s e : ℕ) → IsOrder order → a < b
    → b ≤ length order → to ≤ length order → s < e → e ≤ length order → EndOf closed (length order) e
    → SpanFollows closed (order_after (Moving a b to) order) (slice_range order a b) (slice_range order s e)
    (span_moved s e a b to)
moved_follows closed order a b to s e distinct some within target line there end =
    elim (cases_Bool (nat_le a to && nat_le to b)) [
      | inl idle ↦ rw idle (stays closed end)
      | inr goes ↦
          let way : (to < a) ⊎ (b < to) = way_of a b to goes in
          rw (
            goes,
            put_before_to order a b to (closed_up a b to) distinct (omega arith) within target
                (landing a b to way),
          )
          (elim (cases_Bool (nat_le a s && nat_le e b)) [
            | inl all ↦
                let low_high = and_parts (nat_le a s) (nat_le e b) all in
                rw all (carried_follows order a b (closed_up a b to) some within (near way) distinct
                closed s e line there end (leb-true a s low_high.0) (leb-true e b low_high.1))
            | inr not_all ↦ rw not_all
                (elim (cases_Bool (nat_le s a && nat_le b e && nat_le s to && nat_le to e)) [
                  | inl inner ↦ rw inner (within_band way (inner_parts inner))
                  | inr outer ↦ rw outer
                      (changed way (not_carried (and_cases (nat_le a s) (nat_le e b) not_all))
                      (not_inner outer))
                ])
          ])
    ]
  where
    d_is : ClosedUp a b to (closed_up a b to)
    d_is = closed_up_is a b to

    near : (to < a) ⊎ (b < to) → closed_up a b to + (b - a) ≤ length order
    near way = omega (arith, d_is)

    stays : (closed : Bool) → EndOf closed (length order) e
        → SpanFollows closed order (slice_range order a b) (slice_range order s e) (s, e)
    stays true end = record {
      some = line;
      there = there;
      is = closed_stays order (slice_range order a b) s e distinct line there;
    }
    stays false end = record {
      some = omega arith;
      there = omega arith;
      is = rw end (open_stays order (slice_range order a b) s distinct (omega arith));
    }

    inner_parts : (nat_le s a && nat_le b e && nat_le s to && nat_le to e) ≡ true
        → (s ≤ a) × (b ≤ e) × (s ≤ to) × (to ≤ e)
    inner_parts h =
        let last = and_parts (nat_le s a && nat_le b e && nat_le s to) (nat_le to e) h in
        let third = and_parts (nat_le s a && nat_le b e) (nat_le s to) last.0 in
        let pair = and_parts (nat_le s a) (nat_le b e) third.0 in
        (leb-true s a pair.0, leb-true b e pair.1, leb-true s to third.1, leb-true to e last.1)

    within_band : (to < a) ⊎ (b < to) → (s ≤ a) × (b ≤ e) × (s ≤ to) × (to ≤ e)
        → SpanFollows closed (exchanged order a b (closed_up a b to)) (slice_range order a b)
        (slice_range order s e) (s, e)
    within_band way (low, high, from, until) =
        kept_follows order a b (closed_up a b to) some within (near way) distinct closed s e there end low high
        (omega (arith, d_is)) (omega (arith, d_is))

    not_carried : (leb a s ≡ false) ⊎ (leb e b ≡ false) → (s < a) ⊎ (b < e)
    not_carried (inl h) = inl (leb-false a s h)
    not_carried (inr h) = inr (leb-false e b h)

    not_inner : (nat_le s a && nat_le b e && nat_le s to && nat_le to e) ≡ false
        → (a < s) ⊎ (e < b) ⊎ (to < s) ⊎ (e < to)
    not_inner h = elim (and_cases (nat_le s a && nat_le b e && nat_le s to) (nat_le to e) h) [
      | inl first ↦ elim (and_cases (nat_le s a && nat_le b e) (nat_le s to) first) [
        | inl pair ↦ elim (and_cases (nat_le s a) (nat_le b e) pair) [
          | inl x ↦ inl (leb-false s a x)
          | inr x ↦ inr (inl (leb-false b e x))
        ]
        | inr x ↦ inr (inr (inl (leb-false s to x)))
      ]
      | inr x ↦ inr (inr (inr (leb-false to e x)))
    ]

    side : (to < a) ⊎ (b < to) → (closed_up a b to < a) ⊎ (a < closed_up a b to)
    side (inl front) = inl (omega (arith, d_is))
    side (inr back) = inr (omega (arith, d_is))

    out_of_rest : (to < a) ⊎ (b < to) → s < b → a < e → (a < s) ⊎ (e < b) ⊎ (to < s) ⊎ (e < to)
        → (a < s) ⊎ (e < b) ⊎ (closed_up a b to < s) ⊎ (e < closed_up a b to + (b - a))
    out_of_rest way x y (inl h) = inl h
    out_of_rest way x y (inr (inl h)) = inr (inl h)
    out_of_rest way x y (inr (inr (inl h))) = inr (inr (inl (omega (arith, d_is))))
    out_of_rest way x y (inr (inr (inr h))) = inr (inr (inr (omega (arith, d_is))))

    apart : (to < a) ⊎ (b < to) → (e ≤ a) ⊎ (b ≤ s)
        → SpanFollows closed (exchanged order a b (closed_up a b to)) (slice_range order a b)
        (slice_range order s e) (
          start_opened (closed_up a b to) (b - a) (closed_up a b s),
          end_opened (closed_up a b to) (b - a)
              (closed_up a b e),
        )
    apart way where_ =
        beside_follows order a b (closed_up a b to) some within (near way) distinct closed s e
        (start_opened (closed_up a b to) (b - a) (closed_up a b s))
        (end_opened (closed_up a b to) (b - a) (closed_up a b e))
        (closed_up a b s) (closed_up a b e) line there where_ (closed_up_is a b s) (closed_up_is a b e)
        (start_opened_is (closed_up a b to) (b - a) (closed_up a b s))
        (end_opened_is (closed_up a b to) (b - a) (closed_up a b e))

    changed : (to < a) ⊎ (b < to) → (s < a) ⊎ (b < e) → (a < s) ⊎ (e < b) ⊎ (to < s) ⊎ (e < to)
        → SpanFollows closed (exchanged order a b (closed_up a b to)) (slice_range order a b)
        (slice_range order s e) (
          start_opened (closed_up a b to) (b - a) (closed_up a b s),
          end_opened (closed_up a b to) (b - a)
              (closed_up a b e),
        )
    changed way outside out = elim (cases_lt s b) [
      | inl meets_end ↦ elim (cases_lt a e) [
        | inl meets_start ↦
            torn_follows order a b (closed_up a b to) some within (near way) distinct closed s e
            (closed_up a b s) (closed_up a b e)
            (start_opened (closed_up a b to) (b - a) (closed_up a b s))
            (end_opened (closed_up a b to) (b - a) (closed_up a b e))
            line there end meets_end meets_start outside (out_of_rest way meets_end meets_start out) (side way)
            (closed_up_is a b s) (closed_up_is a b e)
            (start_opened_is (closed_up a b to) (b - a) (closed_up a b s))
            (end_opened_is (closed_up a b to) (b - a) (closed_up a b e))
        | inr before_stretch ↦ apart way (inl before_stretch)
      ]
      | inr behind_stretch ↦ apart way (inr behind_stretch)
    ]

-- new lines before line `at`, or last
pub inserted_follows : (closed : Bool) (order fresh : List ℕ) (at s e : ℕ)
    → IsOrder (take at order ++ fresh ++ drop at order) → at ≤ length order → 0 < length fresh
    → s < e → e ≤ length order
    → SpanFollows closed (take at order ++ fresh ++ drop at order) fresh (slice_range order s e)
    (start_opened at (length fresh) s, end_opened at (length fresh) e)
inserted_follows closed order fresh at s e distinct place some line there =
    let span : ℕ × ℕ = (start_opened at (length fresh) s, end_opened at (length fresh) e) in
    let At : List ℕ → List ℕ → List ℕ → Type 0 = λ after changed names. SpanFollows closed after changed names span in
    subst (λ after. At after fresh (slice_range order s e)) (inserted_exchanged order fresh at)
    (subst (λ changed. At (exchanged all start end at) changed (slice_range order s e)) stretch
    (subst (λ names. At (exchanged all start end at) (slice_range all start end) names) band
    (beside_follows all start end at (omega arith) (omega (arith, size)) (omega (arith, size))
    (order_exchanged all start end at (omega arith) (omega (arith, size)) (omega (arith, size))
    (subst IsOrder (sym (inserted_exchanged order fresh at)) distinct))
    closed s e (start_opened at (length fresh) s) (end_opened at (length fresh) e) s e line
    (omega (arith, size)) (inl there) (inl (omega arith, refl)) (inl (there, refl))
    (rw number (start_opened_is at (length fresh) s)) (rw number (end_opened_is at (length fresh) e)))))
  where
    all : List ℕ
    all = order ++ fresh

    start : ℕ
    start = length order

    end : ℕ
    end = length order + length fresh

    size : length (order ++ fresh) ≡ length order + length fresh
    size = length-append order fresh

    number : end - start ≡ length fresh
    number = omega arith

    stretch : slice_range all start end ≡ fresh
    stretch =
        ap (take (end - start)) (drop_at order fresh (length order) refl)
        ∙ take_all (end - start) fresh (omega arith)

    band : slice_range all s e ≡ slice_range order s e
    band =
        ap (take (e - s)) (drop-append-le s order fresh (omega arith))
        ∙ take-append-le (e - s) (drop s order) fresh (omega (arith, length-drop s order))

-- the lines from `a` to `b - 1` go
module _ (order : List ℕ) (a b : ℕ) (distinct : IsOrder order) (some : a < b) (within : b ≤ length order) where
  pub deleted_follows : (closed : Bool) (s e : ℕ) → s < e → e ≤ length order → EndOf closed (length order) e
      → closed_up a b s < closed_up a b e
      → SpanFollows closed (without order a b) [] (slice_range order s e) (closed_up a b s, closed_up a b e)
  deleted_follows true s e line there end left =
      follow_hull order (without order a b) (skip a b) (left_came order a b some within) distinct true s e 0 0
      (closed_up a b s) (closed_up a b e) there (omega arith)
      (deleted a b (length (without order a b)) s e (closed_up a b s) (closed_up a b e) some
      (omega (arith, left_count order a b some within)) line (omega (arith, left_count order a b some within)) left
      (closed_up_is a b s) (closed_up_is a b e))
      (λ x y. omega arith) (λ x y. omega arith)
  deleted_follows false s e line there end left =
      let all : length (without order a b) + (b - a) ≡ e = omega (arith, left_count order a b some within) in
      follow_hull order (without order a b) (skip a b) (left_came order a b some within) distinct false s e 0 0
      (closed_up a b s) (length (without order a b)) there (omega arith)
      (rw (← all) (deleted_open a b (length (without order a b)) s (closed_up a b s) some
      (omega (arith, left_count order a b some within)) (omega arith)
      (omega (arith, closed_up_is a b e)) (closed_up_is a b s)))
      (λ x y. omega arith) tt

  pub deleted_lost : (closed : Bool) (s e : ℕ) → s < e → e ≤ length order
      → closed_up a b e ≤ closed_up a b s
      → followed_names (reach closed) (without order a b) [] (slice_range order s e) ≡ None
  deleted_lost closed s e line there gone =
      follow_lost order (without order a b) (skip a b) (left_came order a b some within) distinct closed [] s e there
      (λ j l. deleted_none a b s e (closed_up a b s) (closed_up a b e) j some line gone
      (closed_up_is a b s) (closed_up_is a b e))
