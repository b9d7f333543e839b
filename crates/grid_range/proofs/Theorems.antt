-- The contracts of `track`, `place` and `lines_after` on names.
use Rattle.std.proofs.Common.{◌≡◌, ℕ, ◌+◌, ◌-◌, ◌<◌, ◌≤◌, Bool, true, false, List, [], ◌∷◌, ◌++◌, eqb, length, get_or, take, drop, Option, None, Some, arith, refl, sym, ap, subst, ◌∙◌, inl, inr, length-append, add-zero}
use Rattle.std.specs.Prelude.{slice_range, slice_get, nat_lt, nat_le, ◌&&◌, MatchOption}
use Rattle.std.specs.Option.{option_map}
use Rattle.std.specs.List.{Contains}
use Rattle.std.proofs.lemmas.Option.{slice_get-get_or, get_or_from_slice_get}
use Rattle.std.proofs.lemmas.Bool.{cases_Bool, both_ways, or_left, or_cases, eq-eqb, eqb-true, false≢true, ltb-true, ltb-false}
use Rattle.std.proofs.lemmas.List.{take_rest, get_or_default, drop_more, length-take-le, length-drop}
use Rattle.grid_range.specs.Order.{is_among, first_to_last, first_to_end}
use Rattle.grid_range.specs.NameBand.{NameBand}
use Rattle.grid_range.specs.NameBand.NameBand.{Closed, Open}
use Rattle.grid_range.specs.Following.{follow, followed_names}
use Rattle.grid_range.specs.OrderChange.{changed_names}
use Rattle.grid_range.proofs.Orders.{get_or-slice_range, length-slice_range}
use Rattle.grid_range.specs.OrderChange.OrderChange.{Inserting}
use Rattle.grid_range.proofs.Changes.{orders_stay, length-without, length-exchanged}
use Rattle.grid_range.proofs.Arrivals.{EndOf}
use Rattle.grid_range.proofs.Ranges.{reach, lost_names, followed_first}
use Rattle.grid_range.specs.declared.band.Band.{Band}
use Rattle.grid_range.specs.declared.band.Band.TheVariants as bands
use Rattle.grid_range.specs.declared.change.Change.{Change}
use Rattle.grid_range.specs.declared.change.Change.TheVariants.{Insert, Delete, Move}
use Rattle.grid_range.specs.Change.{Fits, Changes, order_change, count_after, HasLinesAfter}
use Rattle.grid_range.specs.Tracking.{StandsFor, StandsForOption, Tracks, Places, closed_up, span_after, track_of, place_of}
use Rattle.grid_range.proofs.Followed.{SpanFollows, moved_order, moved_follows, inserted_follows, deleted_follows, deleted_lost}

-- the span, or that the band is lost
abbrev SpanResult : Bool → List ℕ → List ℕ → List ℕ → Option (ℕ × ℕ) → Type 0
SpanResult closed after changed names span =
    MatchOption span (followed_names (reach closed) after changed names ≡ None)
    (SpanFollows closed after changed names)

span_after_follows : (closed : Bool) (change : Change) (order fresh after : List ℕ) (s e : ℕ)
    → Fits change (length order) → Changes change (length order) order fresh after
    → s < e → e ≤ length order → EndOf closed (length order) e
    → SpanResult closed after (changed_names (order_change change fresh) order) (slice_range order s e)
    (span_after change s e)
span_after_follows closed (Insert at number) order fresh after s e fits c line there end =
    rw (c.result, ← c.inserts)
    (inserted_follows closed order fresh at s e (orders_stay order (Inserting at fresh) c.distinct c.made) fits.0
    (rw c.inserts fits.1) line there)
span_after_follows closed (Delete a b) order fresh after s e fits c line there end =
    rw c.result (elim (cases_Bool (nat_lt (closed_up a b s) (closed_up a b e))) [
      | inl left ↦ rw left
          (deleted_follows order a b c.distinct fits.0 fits.1 closed s e line there end
          (ltb-true (closed_up a b s) (closed_up a b e) left))
      | inr gone ↦ rw gone
          (deleted_lost order a b c.distinct fits.0 fits.1 closed s e line there
          (ltb-false (closed_up a b s) (closed_up a b e) gone))
    ])
span_after_follows closed (Move a b to) order fresh after s e fits c line there end =
    rw c.result
    (moved_follows closed order a b to s e c.distinct fits.0 fits.1 fits.2 line there end)

closed_stands : (after changed names : List ℕ) (span : Option (ℕ × ℕ))
    → SpanResult true after changed names span
    → StandsForOption after (option_map (λ x. bands.Span x.0 x.1) span)
    (option_map Closed (followed_names first_to_last after changed names))
closed_stands after changed names None h = rw h refl
closed_stands after changed names (Some span) h = rw h.is (h.some, h.there, refl)

open_stands : (after changed names : List ℕ) (span : Option (ℕ × ℕ))
    → SpanResult false after changed names span
    → StandsForOption after (option_map (λ x. bands.From x.0) span)
    (option_map Open (followed_names first_to_end after changed names))
open_stands after changed names None h = rw h refl
open_stands after changed names (Some span) h = rw h.is (h.some, ap Open (take_rest after span.0))

tracks_at : (band : Band) (change : Change) (order fresh after : List ℕ) (names : NameBand)
    → Fits change (length order) → Changes change (length order) order fresh after
    → StandsFor order band names
    → StandsForOption after (track_of band (length order) change)
    (follow after (changed_names (order_change change fresh) order) names)
unfolding follow
tracks_at bands.Whole change order fresh after names fits c stands = rw stands refl
tracks_at (bands.From start) change order fresh after names fits c stands =
    rw (stands.1, ← take_rest order start)
    (open_stands after (changed_names (order_change change fresh) order)
    (slice_range order start (length order)) (span_after change start (length order))
    (span_after_follows false change order fresh after start (length order) fits c stands.0
    (omega arith) refl))
tracks_at (bands.Span start end) change order fresh after names fits c stands =
    rw stands.2
    (closed_stands after (changed_names (order_change change fresh) order)
    (slice_range order start end) (span_after change start end)
    (span_after_follows true change order fresh after start end fits c stands.0 stands.1 tt))

-- what `track` gives tracks the band
pub track_of_tracks : (band : Band) (count : ℕ) (change : Change) (result : Option Band)
    → result ≡ track_of band count change → Fits change count → Tracks band count change result
track_of_tracks band count change result is fits = record {
  followed = λ order fresh after names c stands.
      let At : ℕ → Type 0 = λ n. Fits change n → Changes change n order fresh after
      → StandsForOption after (track_of band n change)
      (follow after (changed_names (order_change change fresh) order) names) in
      rw is (subst At c.long (λ f d. tracks_at band change order fresh after names f d stands) fits c);
}

one_line : (order : List ℕ) (index : ℕ) → index < length order
    → slice_range order index (index + 1) ≡ get_or order index 0 ∷ []
one_line order index l =
    let one : index + 1 - index ≡ 1 = omega arith in
    rw (one, drop_more order index 0 l) refl

-- the place of a line is that of the band that has it alone
places_at : (after changed names : List ℕ) (name : ℕ) (span : Option (ℕ × ℕ))
    → ((n : ℕ) → is_among names n ≡ true → n ≡ name) → is_among names name ≡ true
    → SpanResult true after changed names span
    → MatchOption (option_map (λ x. x.0) span) (¬ (Contains after name))
    (λ place. slice_get after place ≡ Some name)
places_at after changed names name None alone here h =
    λ (k, l, at). both_ways (is_among names name)
    (subst (λ n. is_among names n ≡ false) (get_or_default after k 0 name l ∙ at)
    (lost_names true after changed names h k l))
    here
places_at after changed names name (Some span) alone here h =
    let size = length-slice_range after span.0 span.1 h.there in
    let some : 0 < length (slice_range after span.0 span.1) = let x = h.some in omega arith in
    let first = followed_first after changed names (slice_range after span.0 span.1) h.is some in
    let at : get_or (slice_range after span.0 span.1) 0 0 ≡ get_or after span.0 0 =
    get_or-slice_range after span.0 span.1 0 (let x = h.some in omega arith)
    ∙ ap (λ i. get_or after i 0) (add-zero span.0) in
    slice_get-get_or after span.0 0 (let x = h.some in let y = h.there in omega arith)
    ∙ ap Some (sym at ∙ alone (get_or (slice_range after span.0 span.1) 0 0) first)

place_stands : (change : Change) (count index : ℕ) (order fresh after : List ℕ) (name : ℕ)
    → Fits change count → index < count → Changes change count order fresh after
    → slice_get order index ≡ Some name
    → MatchOption (place_of change index) (¬ (Contains after name))
    (λ place. slice_get after place ≡ Some name)
place_stands change count index order fresh after name fits there c at =
    let At : ℕ → Type 0 = λ n. Fits change n → Changes change n order fresh after → index < n
    → MatchOption (place_of change index) (¬ (Contains after name))
    (λ place. slice_get after place ≡ Some name) in
    subst At c.long at_length fits c there
  where
    alone : (n : ℕ) → is_among (n ∷ []) n ≡ true
    alone n = or_left (eqb n n) false (eq-eqb n n refl)

    only : (n m : ℕ) → is_among (m ∷ []) n ≡ true → m ≡ n
    only n m h = elim (or_cases (eqb m n) false h) [
      | inl same ↦ eqb-true m n same
      | inr never ↦ absurd (false≢true never)
    ]

    at_length : Fits change (length order) → Changes change (length order) order fresh after
        → index < length order
        → MatchOption (place_of change index) (¬ (Contains after name))
        (λ place. slice_get after place ≡ Some name)
    at_length f d l =
        let names : List ℕ = slice_range order index (index + 1) in
        let one : names ≡ name ∷ [] =
        one_line order index l ∙ ap (λ n. n ∷ []) (get_or_from_slice_get order index name 0 at) in
        places_at after (changed_names (order_change change fresh) order) names name
        (span_after change index (index + 1))
        (λ n h. sym (only n name (rw one at h)))
        (rw one (alone name))
        (span_after_follows true change order fresh after index (index + 1) f d (omega arith) (omega arith) tt)

-- what `place` gives is where the line is
pub place_of_places : (change : Change) (count index : ℕ) (result : Option ℕ)
    → result ≡ place_of change index → Fits change count → index < count
    → Places change count index result
place_of_places change count index result is fits there = record {
  stands = λ order fresh after name c at.
      rw is (place_stands change count index order fresh after name fits there c at);
}

lines_at : (change : Change) (count : ℕ) (order fresh after : List ℕ) → Fits change count
    → Changes change count order fresh after → length after ≡ count_after change count
lines_at (Insert at number) count order fresh after fits c =
    rw c.result (omega (
      arith,
      c.long,
      c.inserts,
      length-append (take at order ++ fresh) (drop at order),
      length-append (take at order) fresh,
      length-take-le at order (rw c.long fits.0),
      length-drop at order,
    ))
lines_at (Delete a b) count order fresh after fits c =
    rw c.result (omega (arith, c.long, length-without order a b (omega arith) (rw c.long fits.1)))
lines_at (Move a b to) count order fresh after fits c =
    elim (cases_Bool (nat_le a to && nat_le to b)) [
      | inl idle ↦ rw (c.result, idle) c.long
      | inr goes ↦
          let moved = moved_order order a b to c.distinct fits.0 (rw c.long fits.1) (rw c.long fits.2) goes in
          rw (c.result, moved.0)
          (length-exchanged order a b (closed_up a b to) (omega arith) (rw c.long fits.1) (omega (arith, moved.1))
          ∙ c.long)
    ]

-- what `lines_after` gives is the number of lines
pub count_after_lines : (change : Change) (count lines : ℕ) → lines ≡ count_after change count
    → Fits change count → HasLinesAfter change count lines
count_after_lines change count lines is fits = record {
  has = λ order fresh after c. rw is (lines_at change count order fresh after fits c);
}
