-- Where a stretch of lines is after a change that doesn't tear it.
use Rattle.std.proofs.Common.{◌≡◌, ℕ, ◌+◌, ◌-◌, ◌<◌, ◌≤◌, ◌⊎◌, inl, inr, arith, refl, subst, true, false, nat_lt, sym}
use Rattle.std.specs.Prelude.{Option, Some, None, ◌&&◌, nat_le}
use Rattle.std.specs.Option.{option_map}
use Rattle.std.proofs.lemmas.Bool.{cases_Bool, cases_lt, ltb-true, not-false}
use Rattle.std.proofs.lemmas.Option.{same_Some, none-some, cond_some}
use Rattle.std.proofs.lemmas.Bool.Decides.{nat_tests}
use Rattle.grid_range.proofs.Deletions.{ClosedUp}
use Rattle.grid_range.specs.declared.band.Band.{Band}
use Rattle.grid_range.specs.declared.band.Band.TheVariants.{Span}
use Rattle.grid_range.specs.declared.change.Change.{Change}
use Rattle.grid_range.specs.declared.change.Change.TheVariants.{Insert, Delete, Move}
use Rattle.grid_range.specs.Band.{HasLine, Within}
use Rattle.grid_range.specs.Change.{Fits}
use Rattle.grid_range.specs.Tracking.{span_after, span_moved, closed_up, start_opened, end_opened}
use Rattle.grid_range.proofs.Spans.{closed_up_is, start_opened_is, end_opened_is, StartOpened, EndOpened}
use Rattle.grid_range.specs.Tearing.{IsTorn, keeps_whole, tears}
use Rattle.grid_range.specs.TrackingLaws.{SpansStayApart}
use Rattle.grid_range.proofs.Tearing.{whole_cases, is_torn}

-- after a move
abbrev Moved : ℕ → ℕ → ℕ → ℕ → ℕ → ℕ → ℕ → Type 0
Moved a b to s e x y =
    ((x ≡ s) × (y ≡ e) × (a ≤ to) × (to ≤ b))
    ⊎ ((a ≤ s) × (e ≤ b) × (to < a) × (x ≡ to + (s - a)) × (y ≡ to + (e - a)))
    ⊎ ((a ≤ s) × (e ≤ b) × (b < to) × (x ≡ to - (b - a) + (s - a)) × (y ≡ to - (b - a) + (e - a)))
    ⊎ ((e ≤ a) × (to ≤ s) × (x ≡ s + (b - a)) × (y ≡ e + (b - a)))
    ⊎ ((b ≤ s) × (e ≤ to) × (x ≡ s - (b - a)) × (y ≡ e - (b - a)))
    ⊎ ((e ≤ a) × (e ≤ to) × (x ≡ s) × (y ≡ e) × ((to < a) ⊎ (b < to)))
    ⊎ ((b ≤ s) × (to ≤ s) × (x ≡ s) × (y ≡ e) × ((to < a) ⊎ (b < to)))

move_idle : (a b to s e : ℕ) → (nat_le a to && nat_le to b) ≡ true
    → Moved a b to s e (span_moved s e a b to).0 (span_moved s e a b to).1
move_idle a b to s e idle = grind (arith, nat_tests)

move_carried : (a b to s e : ℕ) → a < b → s < e → (nat_le a to && nat_le to b) ≡ false → a ≤ s → e ≤ b
    → Moved a b to s e (span_moved s e a b to).0 (span_moved s e a b to).1
move_carried a b to s e some rise goes front back = grind (arith, nat_tests)

move_pushed : (a b to s e : ℕ) → a < b → s < e → (nat_le a to && nat_le to b) ≡ false → e ≤ a → to ≤ s
    → Moved a b to s e (span_moved s e a b to).0 (span_moved s e a b to).1
move_pushed a b to s e some rise goes front back = grind (arith, nat_tests)

move_front : (a b to s e : ℕ) → a < b → s < e → (nat_le a to && nat_le to b) ≡ false → e ≤ a → e ≤ to
    → Moved a b to s e (span_moved s e a b to).0 (span_moved s e a b to).1
move_front a b to s e some rise goes front back = grind (arith, nat_tests)

move_back : (a b to s e : ℕ) → a < b → s < e → (nat_le a to && nat_le to b) ≡ false → b ≤ s → to ≤ s
    → Moved a b to s e (span_moved s e a b to).0 (span_moved s e a b to).1
move_back a b to s e some rise goes front back = grind (arith, nat_tests)

move_pulled : (a b to s e : ℕ) → a < b → s < e → (nat_le a to && nat_le to b) ≡ false → b ≤ s → e ≤ to
    → Moved a b to s e (span_moved s e a b to).0 (span_moved s e a b to).1
move_pulled a b to s e some rise goes front back = grind (arith, nat_tests)

move_lands : (a b to s e : ℕ) → a < b → s < e → keeps_whole a b to s e ≡ true
    → Moved a b to s e (span_moved s e a b to).0 (span_moved s e a b to).1
move_lands a b to s e some rise whole = elim (cases_Bool (nat_le a to && nat_le to b)) [
  | inl idle ↦ move_idle a b to s e idle
  | inr goes ↦ elim (whole_cases a b to s e goes whole) [
    | inl h ↦ move_carried a b to s e some rise goes h.0 h.1
    | inr r ↦ elim r [
      | inl h ↦ move_pushed a b to s e some rise goes h.0 h.1
      | inr r2 ↦ elim r2 [
        | inl h ↦ move_front a b to s e some rise goes h.0 h.1
        | inr r3 ↦ elim r3 [
          | inl h ↦ move_back a b to s e some rise goes h.0 h.1
          | inr h ↦ move_pulled a b to s e some rise goes h.0 h.1
        ]
      ]
    ]
  ]
]

abbrev Lands : Change → ℕ → ℕ → ℕ → ℕ → Type 0
Lands (Insert at n) s e x y = StartOpened at n s x × EndOpened at n e y
Lands (Delete a b) s e x y = ClosedUp a b s x × ClosedUp a b e y × (x < y)
Lands (Move a b to) s e x y = Moved a b to s e x y

span_lands : (change : Change) (count s e : ℕ) (to : ℕ × ℕ) → Fits change count → s < e → tears change s e ≡ false
    → span_after change s e ≡ Some to
    → Lands change s e to.0 to.1
span_lands (Insert at n) count s e to fits rise whole is =
    subst (λ (p : ℕ × ℕ). StartOpened at n s p.0 × EndOpened at n e p.1)
    (same_Some (start_opened at n s, end_opened at n e) to is)
    (start_opened_is at n s, end_opened_is at n e)
span_lands (Delete a b) count s e to fits rise whole is =
    let both = cond_some (nat_lt (closed_up a b s) (closed_up a b e)) (closed_up a b s, closed_up a b e) to is in
    subst (λ (p : ℕ × ℕ). ClosedUp a b s p.0 × ClosedUp a b e p.1 × (p.0 < p.1)) both.1
    (closed_up_is a b s, closed_up_is a b e, ltb-true (closed_up a b s) (closed_up a b e) both.0)
span_lands (Move a b to) count s e p fits rise whole is =
    subst (λ (p : ℕ × ℕ). Moved a b to s e p.0 p.1) (same_Some (span_moved s e a b to) p is)
    (move_lands a b to s e fits.0 rise (not-false (keeps_whole a b to s e) whole))

-- stretches that share no line come to share none
lands_apart : (change : Change) (count s e x y s' e' x' y' : ℕ) → Fits change count → s < e → s' < e'
    → Lands change s e x y → Lands change s' e' x' y'
    → e ≤ s' → x < y' → x' < y → ⊥
lands_apart (Insert at n) count s e x y s' e' x' y' fits rise rise' l l' far one other = omega (arith, l, l')
lands_apart (Delete a b) count s e x y s' e' x' y' fits rise rise' l l' far one other = omega (arith, l, l')
lands_apart (Move a b to) count s e x y s' e' x' y' fits rise rise' l l' far one other = omega (arith, l, l')

shared_before : (change : Change) (count s e x y s' e' x' y' : ℕ) → Fits change count → s < e → s' < e'
    → Lands change s e x y → Lands change s' e' x' y'
    → x < y' → x' < y → (s < e') × (s' < e)
shared_before change count s e x y s' e' x' y' fits rise rise' l l' one other = (
  elim (cases_lt s e') [
    | inl near ↦ near
    | inr far ↦ absurd (lands_apart change count s' e' x' y' s e x y fits rise' rise l' l far other one)
  ],
  elim (cases_lt s' e) [
    | inl near ↦ near
    | inr far ↦ absurd (lands_apart change count s e x y s' e' x' y' fits rise rise' l l' far one other)
  ],
)

-- what a band with both ends is followed to
spans : (o : Option (ℕ × ℕ)) (band : Band) → option_map (λ (p : ℕ × ℕ). Span p.0 p.1) o ≡ Some band
    → (p : ℕ × ℕ) × (o ≡ Some p) × (Span p.0 p.1 ≡ band)
spans None band is = absurd (none-some band is)
spans (Some p) band is = (p, refl, same_Some (Span p.0 p.1) band is)

untorn : (change : Change) (count s e : ℕ) → Fits change count → Within (Span s e) count
    → ¬ (IsTorn change count (Span s e)) → tears change s e ≡ false
untorn change count s e fits within whole = elim (cases_Bool (tears change s e)) [
  | inl torn ↦ absurd (whole (is_torn change count (Span s e) fits within torn))
  | inr h ↦ h
]

pub spans_stay_apart : SpansStayApart
spans_stay_apart s e s' e' one other count change fits within whole is within' whole' is' (line, _, h, h') =
    let (p, at, same) = spans (span_after change s e) one is in
    let (p', at', same') = spans (span_after change s' e') other is' in
    let lands = span_lands change count s e p fits within.0 (untorn change count s e fits within whole) at in
    let lands' = span_lands change count s' e' p' fits within'.0
    (untorn change count s' e' fits within' whole') at' in
    let here : (p.0 ≤ line) × (line < p.1) = subst (λ band. HasLine band line) (sym same) h in
    let here' : (p'.0 ≤ line) × (line < p'.1) = subst (λ band. HasLine band line) (sym same') h' in
    let shared = shared_before change count s e p.0 p.1 s' e' p'.0 p'.1 fits within.0 within'.0 lands lands'
    (omega arith) (omega arith) in
    elim (cases_lt s s') [
      | inl below ↦ (s', omega arith, (omega arith, shared.1), (omega arith, within'.0))
      | inr from ↦ (s, omega arith, (omega arith, within.0), (from, shared.0))
    ]
