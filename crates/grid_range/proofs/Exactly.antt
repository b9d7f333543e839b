-- The contracts on names have one answer each: there are names, and places show in them.
use Rattle.std.proofs.lemmas.Bool.{cases_Bool, eqb-true, eq-eqb, both_ways}
use Rattle.grid_range.specs.Area.{IsWithinOn, band_on, with_band}
use Rattle.std.specs.Option.{option_map}
use Rattle.grid_range.specs.declared.axis.Axis.TheVariants.{Rows, Columns}
use Rattle.grid_range.specs.declared.axis.Axis.{Axis}
use Rattle.std.proofs.Common.{◌≡◌, ℕ, ◌+◌, ◌-◌, ◌<◌, List, length, get_or, drop, Option, None, Some, arith, refl, sym, ap, subst, ◌∙◌, length-drop, inl, inr}
use Rattle.std.specs.Prelude.{slice_range, slice_get, MatchOption, IfSome, ◌==◌}
use Rattle.std.specs.List.{Contains}
use Rattle.std.proofs.lemmas.Option.{slice_get-get_or, get_or_from_slice_get, slice_get_within}
use Rattle.grid_range.specs.Order.{IsOrder}
use Rattle.grid_range.specs.NameBand.{NameBand}
use Rattle.grid_range.specs.NameBand.NameBand.{Whole, Closed, Open}
use Rattle.grid_range.specs.Following.{follow}
use Rattle.grid_range.specs.OrderChange.{order_after, changed_names}
use Rattle.grid_range.proofs.Orders.{place_unique, get_or-slice_range, length-slice_range}
use Rattle.grid_range.proofs.Changes.{orders_stay}
use Rattle.grid_range.specs.declared.band.Band.{Band}
use Rattle.grid_range.specs.declared.band.Band.TheVariants as bands
use Rattle.grid_range.specs.declared.change.Change.{Change}
use Rattle.grid_range.specs.Band.{Within}
use Rattle.grid_range.specs.Change.{Fits, Changes, order_change, inserted_lines, count_after}
use Rattle.grid_range.specs.Tracking.{StaysWithin, StandsFor, StandsForOption, track_of, place_of}
use Rattle.grid_range.specs.TrackingLaws.{TracksAll, TracksExactly, PlacesAll, PlacesExactly, TracksStayWithin, PlacesStayBelow, AreasStayWithin, PlacesStayApart}
use Rattle.grid_range.proofs.Named.{numbers, length-numbers, numbers_change}
use Rattle.grid_range.proofs.Theorems.{track_of_tracks, place_of_places, count_after_lines}

-- some lines stand at a band's places
stands_for_some : (order : List ℕ) (band : Band) → Within band (length order)
    → (names : NameBand) × StandsFor order band names
stands_for_some order bands.Whole within = (Whole, refl)
stands_for_some order (bands.From start) within = (Open (drop start order), (within, refl))
stands_for_some order (bands.Span start end) within =
    (Closed (slice_range order start end), (within.0, within.1, refl))

whole_open : (xs : List ℕ) → Whole ≡ Open xs → ⊥
whole_open xs h = cc

whole_closed : (xs : List ℕ) → Whole ≡ Closed xs → ⊥
whole_closed xs h = cc

open_closed : (xs ys : List ℕ) → Open xs ≡ Closed ys → ⊥
open_closed xs ys h = cc

some_none : (band : NameBand) → Some band ≡ None → ⊥
some_none band h = cc

-- a band that stands for lines is within the order
within_order : (order : List ℕ) (band : Band) (names : NameBand) → StandsFor order band names
    → Within band (length order)
within_order order bands.Whole names stands = tt
within_order order (bands.From start) names stands = stands.0
within_order order (bands.Span start end) names stands = (stands.0, stands.1)

found_within : (order : List ℕ) (found : Option NameBand) (result : Option Band) → StandsForOption order result found
    → IfSome result (λ band. Within band (length order))
found_within order found None stands = tt
found_within order None (Some band) stands = absurd stands
found_within order (Some names) (Some band) stands = within_order order band names stands

-- what `track` gives is within the lines that there are then
pub track_stays_within : (band : Band) (count : ℕ) (change : Change) (result : Option Band)
    → result ≡ track_of band count change → Fits change count → StaysWithin band count change result
track_stays_within band count change result is fits = record {
  found = λ within.
      let order : List ℕ = numbers 0 count in
      let fresh : List ℕ = numbers count (inserted_lines change) in
      let after : List ℕ = order_after (order_change change fresh) order in
      let changes = numbers_change change count fits in
      let names = stands_for_some order band (rw (length-numbers 0 count) within) in
      let tracks = track_of_tracks band count change result is fits in
      let lines : length after ≡ count_after change count =
      (count_after_lines change count (count_after change count) refl fits).has order fresh after changes in
      subst (λ n. IfSome result (λ found. Within found n)) lines
      (found_within after (follow after (changed_names (order_change change fresh) order) names.0) result
      (tracks.followed order fresh after names.0 changes names.1));
}

-- no other band stands for the same lines
same_places : (order : List ℕ) (names : NameBand) (one other : Band) → IsOrder order
    → StandsFor order one names → StandsFor order other names → one ≡ other
same_places order names bands.Whole bands.Whole distinct a b = refl
same_places order names bands.Whole (bands.From t) distinct a b = absurd (whole_open (drop t order) (sym a ∙ b.1))
same_places order names bands.Whole (bands.Span t f) distinct a b =
    absurd (whole_closed (slice_range order t f) (sym a ∙ b.2))
same_places order names (bands.From s) bands.Whole distinct a b = absurd (whole_open (drop s order) (sym b ∙ a.1))
same_places order names (bands.From s) (bands.From t) distinct a b =
    let same = tails (drop s order) (drop t order) (sym a.1 ∙ b.1) in
    let size : length order - s ≡ length order - t = sym (length-drop s order) ∙ ap length same ∙ length-drop t order in
    let first = a.0 in
    let second = b.0 in
    ap bands.From (let e : s ≡ t = omega arith in e)
  where
    tails : (xs ys : List ℕ) → Open xs ≡ Open ys → xs ≡ ys
    tails xs ys h = cc
same_places order names (bands.From s) (bands.Span t f) distinct a b =
    absurd (open_closed (drop s order) (slice_range order t f) (sym a.1 ∙ b.2))
same_places order names (bands.Span s e) bands.Whole distinct a b =
    absurd (whole_closed (slice_range order s e) (sym b ∙ a.2))
same_places order names (bands.Span s e) (bands.From t) distinct a b =
    absurd (open_closed (drop t order) (slice_range order s e) (sym b.1 ∙ a.2))
same_places order names (bands.Span s e) (bands.Span t f) distinct (some_a, there_a, is_a) (some_b, there_b, is_b) =
    let same = stretches (slice_range order s e) (slice_range order t f) (sym is_a ∙ is_b) in
    let size : e - s ≡ f - t =
    sym (length-slice_range order s e there_a) ∙ ap length same ∙ length-slice_range order t f there_b in
    let first : get_or order (s + 0) 0 ≡ get_or order (t + 0) 0 =
    sym (get_or-slice_range order s e 0 (omega arith)) ∙ ap (λ xs. get_or xs 0 0) same
    ∙ get_or-slice_range order t f 0 (omega arith) in
    let once : s + 0 ≡ t + 0 = place_unique order (s + 0) (t + 0) distinct (omega arith) (omega arith) first in
    let starts : s ≡ t = omega arith in
    let ends : e ≡ f = omega arith in
    rw (starts, ends) refl
  where
    stretches : (xs ys : List ℕ) → Closed xs ≡ Closed ys → xs ≡ ys
    stretches xs ys h = cc

same_option : (order : List ℕ) (names : Option NameBand) (one other : Option Band) → IsOrder order
    → StandsForOption order one names → StandsForOption order other names → one ≡ other
same_option order names None None distinct a b = refl
same_option order None None (Some y) distinct a b = absurd b
same_option order (Some n) None (Some y) distinct a b = absurd (some_none n a)
same_option order None (Some x) other distinct a b = absurd a
same_option order (Some n) (Some x) None distinct a b = absurd (some_none n b)
same_option order (Some n) (Some x) (Some y) distinct a b = ap Some (same_places order n x y distinct a b)

pub tracks_all : TracksAll
tracks_all band count change fits within = track_of_tracks band count change (track_of band count change) refl fits

pub tracks_exactly : TracksExactly
tracks_exactly band count change one other fits within tracks also =
    let order : List ℕ = numbers 0 count in
    let fresh : List ℕ = numbers count (inserted_lines change) in
    let after : List ℕ = order_after (order_change change fresh) order in
    let changes = numbers_change change count fits in
    let names = stands_for_some order band (rw (length-numbers 0 count) within) in
    let found = follow after (changed_names (order_change change fresh) order) names.0 in
    same_option after found one other (orders_stay order (order_change change fresh) changes.distinct changes.made)
    (tracks.followed order fresh after names.0 changes names.1)
    (also.followed order fresh after names.0 changes names.1)

pub places_all : PlacesAll
places_all change count index fits there = place_of_places change count index (place_of change index) refl fits there

stands : (order : List ℕ) (name place : ℕ) → slice_get order place ≡ Some name → Contains order name
stands order name place h =
    (place, slice_get_within order place name h, get_or_from_slice_get order place name name h)

same_place : (order : List ℕ) (name : ℕ) (one other : Option ℕ) → IsOrder order
    → MatchOption one (¬ (Contains order name)) (λ place. slice_get order place ≡ Some name)
    → MatchOption other (¬ (Contains order name)) (λ place. slice_get order place ≡ Some name)
    → one ≡ other
same_place order name None None distinct a b = refl
same_place order name None (Some y) distinct a b = absurd (a (stands order name y b))
same_place order name (Some x) None distinct a b = absurd (b (stands order name x a))
same_place order name (Some x) (Some y) distinct a b =
    ap Some (place_unique order x y distinct (slice_get_within order x name a) (slice_get_within order y name b)
    (get_or_from_slice_get order x name 0 a ∙ sym (get_or_from_slice_get order y name 0 b)))

pub places_exactly : PlacesExactly
places_exactly change count index one other fits there places also =
    let order : List ℕ = numbers 0 count in
    let fresh : List ℕ = numbers count (inserted_lines change) in
    let after : List ℕ = order_after (order_change change fresh) order in
    let changes = numbers_change change count fits in
    let size = length-numbers 0 count in
    let at : slice_get order index ≡ Some (get_or order index 0) = slice_get-get_or order index 0 (omega arith) in
    same_place after (get_or order index 0) one other
    (orders_stay order (order_change change fresh) changes.distinct changes.made)
    (places.stands order fresh after (get_or order index 0) changes at)
    (also.stands order fresh after (get_or order index 0) changes at)

place_within_order : (order : List ℕ) (name : ℕ) (result : Option ℕ)
    → MatchOption result (¬ (Contains order name)) (λ place. slice_get order place ≡ Some name)
    → IfSome result (λ place. place < length order)
place_within_order order name None at = tt
place_within_order order name (Some place) at = slice_get_within order place name at

-- what `place` gives is one of the lines that there are then
pub place_within : (change : Change) (count index : ℕ) (result : Option ℕ)
    → result ≡ place_of change index → Fits change count → index < count
    → IfSome result (λ place. place < count_after change count)
place_within change count index result is fits there =
    let order : List ℕ = numbers 0 count in
    let fresh : List ℕ = numbers count (inserted_lines change) in
    let after : List ℕ = order_after (order_change change fresh) order in
    let changes = numbers_change change count fits in
    let size = length-numbers 0 count in
    let at : slice_get order index ≡ Some (get_or order index 0) = slice_get-get_or order index 0 (omega arith) in
    let places = place_of_places change count index result is fits there in
    let lines : length after ≡ count_after change count =
    (count_after_lines change count (count_after change count) refl fits).has order fresh after changes in
    subst (λ n. IfSome result (λ place. place < n)) lines
    (place_within_order after (get_or order index 0) result
    (places.stands order fresh after (get_or order index 0) changes at))

pub tracks_stay_within : TracksStayWithin
tracks_stay_within band count change fits within =
    (track_stays_within band count change (track_of band count change) refl fits).found within

pub places_stay_below : PlacesStayBelow
places_stay_below change count index fits there =
    place_within change count index (place_of change index) refl fits there

pub areas_stay_within : AreasStayWithin
areas_stay_within area sheet axis count change fits within = elim (cases_Bool (area.sheet == sheet)) [
  | inl same ↦ rw same (mapped axis (track_of (band_on axis area) count change)
      (tracks_stay_within (band_on axis area) count change fits (within (eqb-true area.sheet sheet same))))
  | inr other ↦ rw other (λ is. absurd (both_ways (area.sheet == sheet) other (eq-eqb area.sheet sheet is)))
]
  where
    mapped : (axis : Axis) (found : Option Band) → IfSome found (λ band. Within band (count_after change count))
        → IfSome (option_map (with_band axis area) found) (IsWithinOn sheet axis (count_after change count))
    mapped axis None there = tt
    mapped Rows (Some band) there = λ _. there
    mapped Columns (Some band) there = λ _. there

pub places_stay_apart : PlacesStayApart
places_stay_apart change count one other place fits in_one in_other is_one is_other =
    place_unique order one other changes.distinct (omega (arith, size)) (omega (arith, size))
    (same (get_or order one 0) (get_or order other 0) (sym (at one in_one is_one) ∙ at other in_other is_other))
  where
    order : List ℕ
    order = numbers 0 count

    fresh : List ℕ
    fresh = numbers count (inserted_lines change)

    after : List ℕ
    after = order_after (order_change change fresh) order

    changes : Changes change count order fresh after
    changes = numbers_change change count fits

    size : length order ≡ count
    size = length-numbers 0 count

    at : (index : ℕ) → index < count → place_of change index ≡ Some place
        → slice_get after place ≡ Some (get_or order index 0)
    at index there is =
        subst (λ o. MatchOption o (¬ (Contains after (get_or order index 0)))
        (λ found. slice_get after found ≡ Some (get_or order index 0))) is
        ((places_all change count index fits there).stands order fresh after (get_or order index 0) changes
        (slice_get-get_or order index 0 (omega (arith, size))))

    same : (x y : ℕ) → Some x ≡ Some y → x ≡ y
    same x y h = cc
