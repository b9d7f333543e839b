-- What the merges of a list are after a change that tears none of them.
use Rattle.std.proofs.Common.{◌≡◌, ℕ, ◌<◌, ◌≤◌, inl, inr, arith, refl, sym, ap, subst, ◌∙◌, true, false, List, [], length, get_or}
use Rattle.std.specs.Prelude.{Some, Contains, Any}
use Rattle.std.specs.List.{IsDistinct, All, AllPairs, list_any, filter_map, range_with_len}
use Rattle.std.specs.List.Sorted.{IsSortedByKey, IsPermutation}
use Rattle.std.specs.declared.cmp.Ordering.TheVariants.{Less}
use Rattle.std.proofs.lemmas.Bool.{false≢true, cases_Bool}
use Rattle.std.proofs.lemmas.Option.{same_Some}
use Rattle.std.proofs.lemmas.List.Elements.{All-contains, All-contains_itself, All-weaker, Contains-get_or, recursion_from_All}
use Rattle.std.proofs.lemmas.List.Folds.{Any-from_list_any, list_any-from_Any}
use Rattle.std.proofs.lemmas.List.FromFn.{get_or-range_with_len, length-range_with_len}
use Rattle.std.proofs.lemmas.List.Sorted.{Contains-permutation, IsPermutation-sym}
use Rattle.std.proofs.lemmas.Map.Keys.{Less-from_sorted}
use Rattle.grid_range.specs.declared.area.Area.{Area}
use Rattle.grid_range.specs.declared.axis.Axis.{Axis}
use Rattle.grid_range.specs.declared.axis.Axis.TheVariants.{Rows, Columns}
use Rattle.grid_range.specs.declared.band.Band.{Band}
use Rattle.grid_range.specs.declared.change.Change.{Change}
use Rattle.grid_range.specs.declared.change.Change.TheVariants.{Insert, Delete, Move}
use Rattle.grid_range.specs.Area.{band_on, with_band, first_cell, by_rows}
use Rattle.grid_range.specs.Band.{Within}
use Rattle.grid_range.specs.Change.{Changes, Fits}
use Rattle.grid_range.specs.Order.{IsOrder}
use Rattle.grid_range.specs.OrderChange.{OrderChange, order_after}
use Rattle.grid_range.specs.Tearing.{IsMove, IsTorn, StaysWhole}
use Rattle.grid_range.specs.Tracking.{area_followed}
use Rattle.grid_range.specs.TrackingLaws.{TracksStayWithin, TearsWhereTorn, TornOrWhole, SpansStayApart}
use Rattle.merge_ranges.specs.Merges.{IsMerge, AreMerges, Overlap, by_first_cell}
use Rattle.merge_ranges.specs.Calls.{ListsJust}
use Rattle.merge_ranges.specs.Following.{AreWithin, CameFrom, FollowedStayMerges, KeepsAll}
use Rattle.merge_ranges.specs.Tests.{tears_merge, merge_after}
use Rattle.merge_ranges.specs.EndsLaws.{are_cells, cells_are}
use Rattle.merge_ranges.specs.FirstCells.{not_before_itself}
use Rattle.merge_ranges.specs.FollowingLaws.{IsUntorn, area_is, area_kept, becomes_merge, kept_area, keeps_all, met_before, none_torn}
use Rattle.merge_ranges.proofs.Rectangles.{meets, meeting, from_meeting}
use Rattle.cell_value.specs.Elements.{Contains-filter_map, Contains-filter_map_from}
use Rattle.merge_ranges.proofs.Lists.{distinct-filter_map}
use Rattle.merge_ranges.proofs.Merging.{distinct_merges, one_merge, permuted_merges}

with_sheet : (axis : Axis) (merge area : Area) (band : Band) → with_band axis merge band ≡ area
    → area.sheet ≡ merge.sheet
with_sheet Rows merge area band same = sym (ap (λ (a : Area). a.sheet) same)
with_sheet Columns merge area band same = sym (ap (λ (a : Area). a.sheet) same)

-- it is followed to an area of its sheet
pub followed_sheet : (axis : Axis) (count : ℕ) (change : Change) (merge area : Area)
    → area_followed merge.sheet axis count change merge ≡ Some area → area.sheet ≡ merge.sheet
followed_sheet axis count change merge area is =
    let (band, tracked, same) = area_is axis count change merge area is in with_sheet axis merge area band same

module _ (axis : Axis) (count : ℕ) (change : Change) (fits : Fits change count) (stay_within : TracksStayWithin)
    (apart : SpansStayApart) where
  stay_apart : (one other one' other' : Area) → IsUntorn axis count change one → IsUntorn axis count change other
      → meets one other ≡ false → merge_after axis count change one ≡ Some one'
      → merge_after axis count change other ≡ Some other' → meets one' other' ≡ false
  stay_apart one other one' other' whole whole' far is is' = elim (cases_Bool (meets one' other')) [
    | inl h ↦
        let both = meeting one' other' (becomes_merge axis count change fits stay_within one one' whole is).0
        (becomes_merge axis count change fits stay_within other other' whole' is').0 h in
        let before = met_before axis count change fits stay_within apart one other one' other' whole whole' is is' both
        in
        absurd (false≢true (sym far ∙ from_meeting one other whole.0.0 whole'.0.0 before))
    | inr h ↦ h
  ]

  module _ (merges : List Area) (are : AreMerges merges) (within : AreWithin axis count merges)
      (untorn : All (λ merge. ¬ (IsTorn change count (band_on axis merge))) merges) where
    all_untorn : All (IsUntorn axis count change) merges
    all_untorn k d l = (are.each k d l, within k d l, untorn k d l)

    -- what is followed to areas that have a cell in common is one merge
    from_one : (one other one' other' : Area) → Contains merges one → Contains merges other
        → merge_after axis count change one ≡ Some one' → merge_after axis count change other ≡ Some other'
        → meets one' other' ≡ true → one ≡ other
    from_one one other one' other' held held' is is' meet = elim (cases_Bool (meets one other)) [
      | inl met ↦ one_merge merges are one other held held' met
      | inr far ↦ absurd (false≢true (sym (stay_apart one other one' other'
          (All-contains (IsUntorn axis count change) merges one all_untorn held)
          (All-contains (IsUntorn axis count change) merges other all_untorn held') far is is') ∙ meet))
    ]

    module _ (after : List Area) (lists : ListsJust (CameFrom axis count change merges) after) where
      came_from : (k : ℕ) (d : Area) → k < length after → CameFrom axis count change merges (get_or after k d)
      came_from k d l = (lists.exactly (get_or after k d)).0 (Contains-get_or after k d l)

      goes : (area : Area) (came : CameFrom axis count change merges area)
          → merge_after axis count change came.merge ≡ Some area
      goes area came = area_kept (area_followed came.merge.sheet axis count change came.merge) area came.followed
          (are_cells area came.cells)

      all_merges : All IsMerge after
      all_merges k d l =
          let came = came_from k d l in
          becomes_merge axis count change fits stay_within came.merge (get_or after k d)
          (All-contains (IsUntorn axis count change) merges came.merge all_untorn came.listed)
          (goes (get_or after k d) came)

      all_apart : AllPairs (λ one other. ¬ (Overlap one other)) after
      all_apart i j d l m overlap =
          let one = came_from i d (omega arith) in
          let other = came_from j d m in
          let a : Area = get_or after i d in
          let b : Area = get_or after j d in
          let is = goes a one in
          let is' = goes b other in
          let meet = from_meeting a b (all_merges i d (omega arith)).0 (all_merges j d m).0 overlap in
          let same = from_one one.merge other.merge a b one.listed other.listed is is' meet in
          let equal : a ≡ b = same_Some a b
          (sym is ∙ ap (merge_after axis count change) same ∙ is') in
          not_before_itself b (subst (λ x. by_first_cell x b ≡ Less) equal
          (Less-from_sorted by_first_cell after i j d lists.in_order l m))

      pub still_merges : AreMerges after
      still_merges = record { each = all_merges; apart = all_apart; in_order = lists.in_order }

    abbrev made : List Area
    made = filter_map (merge_after axis count change) merges

    of_made : (P : Area → Type 0) → ((merge area : Area) → IsUntorn axis count change merge
        → merge_after axis count change merge ≡ Some area → P area) → All P made
    of_made P h = All-weaker (Contains made) P (λ area c.
        let (merge, held, is) = Contains-filter_map_from (merge_after axis count change) merges area c in
        h merge area (All-contains (IsUntorn axis count change) merges merge all_untorn held) is) made
        (All-contains_itself made)

    made_distinct : IsDistinct meets made
    made_distinct = distinct-filter_map (merge_after axis count change) meets meets (IsUntorn axis count change)
        stay_apart merges (recursion_from_All (IsUntorn axis count change) merges all_untorn)
        (distinct_merges merges are)

    module _ (after : List Area) (moved : IsPermutation made after)
        (sorted : IsSortedByKey first_cell by_rows after) where
      changed_are_merges : AreMerges after
      changed_are_merges = permuted_merges made after
          (of_made IsMerge (becomes_merge axis count change fits stay_within)) made_distinct moved sorted

      lists_changed : ListsJust (CameFrom axis count change merges) after
      lists_changed = record {
        in_order = changed_are_merges.in_order;
        exactly = λ area. (
          (λ c.
              let (merge, held, is) = Contains-filter_map_from (merge_after axis count change) merges area
              (Contains-permutation after made area (IsPermutation-sym made after moved) c) in
              let kept = kept_area (area_followed merge.sheet axis count change merge) area is in
              record { merge = merge; listed = held; followed = kept.0; cells = cells_are area kept.1 }),
          (λ came. Contains-permutation made after area moved
              (Contains-filter_map (merge_after axis count change) merges came.merge area came.listed
              (area_kept (area_followed came.merge.sheet axis count change came.merge) area came.followed
              (are_cells area came.cells)))),
        );
      }

module _ (axis : Axis) (count : ℕ) (change : Change) (fits : Fits change count) (where_torn : TearsWhereTorn)
    (merges : List Area) (within : AreWithin axis count merges) where
  pub tears_some : list_any (tears_merge axis count change) merges ≡ true
      → Any (λ merge. IsTorn change count (band_on axis merge)) merges
  tears_some h =
      let (k, merge, l, at, torn) = Any-from_list_any (tears_merge axis count change) merges h in
      let there = All-contains (λ m. Within (band_on axis m) count) merges merge within (k, l, at) in
      (k, merge, l, at, (where_torn (band_on axis merge) count change fits there).0 torn)

  pub some_tear : Any (λ merge. IsTorn change count (band_on axis merge)) merges
      → list_any (tears_merge axis count change) merges ≡ true
  some_tear (k, merge, l, at, torn) =
      let there = All-contains (λ m. Within (band_on axis m) count) merges merge within (k, l, at) in
      list_any-from_Any (tears_merge axis count change) merges
      (k, merge, l, at, (where_torn (band_on axis merge) count change fits there).1 torn)

-- what a change leaves that tears none of the merges
pub record Changed (axis : Axis) (count : ℕ) (change : Change) (merges after : List Area) : Type 0 where
  pub are : AreMerges after
  pub followed : ListsJust (CameFrom axis count change merges) after
  pub whole : KeepsAll axis count change merges

pub changed : (axis : Axis) (count : ℕ) (change : Change) (merges after : List Area)
    → TracksStayWithin → SpansStayApart → TearsWhereTorn → TornOrWhole
    → Fits change count → AreMerges merges → AreWithin axis count merges
    → list_any (tears_merge axis count change) merges ≡ false
    → IsPermutation (filter_map (merge_after axis count change) merges) after → IsSortedByKey first_cell by_rows after
    → Changed axis count change merges after
changed axis count change merges after stay_within apart where_torn or_whole fits are within none moved sorted =
    let untorn = none_torn axis count change fits where_torn merges within none in
    record {
      are = changed_are_merges axis count change fits stay_within apart merges are within untorn after moved sorted;
      followed = lists_changed axis count change fits stay_within apart merges are within untorn after moved sorted;
      whole = keeps_all axis count change fits where_torn merges within none or_whole;
    }

-- ---- the law

lines_apart : (count : ℕ) → IsOrder (range_with_len 0 count)
lines_apart count i j d less there =
    let inside : j < count = subst (λ n. j < n) (length-range_with_len 0 count) there in
    let one = get_or-range_with_len 0 count i d (omega (arith, less, inside)) in
    let other = get_or-range_with_len 0 count j d inside in
    λ same. absurd (omega (arith, sym one ∙ same ∙ other, less))

-- a move that leaves a band whole doesn't tear it
not_torn : (change : Change) (count : ℕ) (band : Band) → Fits change count
    → (IsMove change → StaysWhole change count band) → ¬ (IsTorn change count band)
not_torn (Insert at inserted) count band fits whole torn = torn.move
not_torn (Delete start end) count band fits whole torn = torn.move
not_torn (Move start end to) count band fits whole torn =
    let order : List ℕ = range_with_len 0 count in
    let long : length order ≡ count = length-range_with_len 0 count in
    let after : List ℕ = order_after (OrderChange.Moving start end to) order in
    let moved : Changes (Move start end to) count order [] after = record {
      distinct = lines_apart count;
      long = long;
      inserts = refl;
      made = (fits.0, subst (λ n. end ≤ n) (sym long) fits.1, subst (λ n. to ≤ n) (sym long) fits.2);
      result = refl;
    } in
    torn.torn order [] after moved ((whole tt).stands order [] after moved)

pub followed_stay : TracksStayWithin → SpansStayApart → FollowedStayMerges
followed_stay stay_within apart = record {
  stays = λ axis count change merges after fits are within whole lists.
      still_merges axis count change fits stay_within apart merges are within
      (λ k d l. not_torn change count (band_on axis (get_or merges k d)) fits (λ move. whole move k d l)) after lists;
}
