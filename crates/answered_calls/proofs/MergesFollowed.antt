-- The merges of a sheet after a change of its lines that tears none of them: each is followed, and is put where its
-- first cell has it stand.
use Rattle.std.proofs.Common.{◌≡◌, ◌⊎◌, inl, inr, ℕ, suc, List, [], ◌∷◌, refl, sym, ap, subst, ◌∙◌, false, arith}
use Rattle.std.specs.Prelude.{Option, Some, None, Contains}
use Rattle.std.specs.List.{All, AllPairs, list_any}
use Rattle.std.proofs.lemmas.List.Elements.{All-contains}
use Rattle.std.proofs.lemmas.Option.{none-some, same_Some}
use Rattle.cell_value.specs.Elements.{Contains-cons, Contains-cons_cases, Contains-head, nothing_in}
use Rattle.grid_range.specs.Area.{first_cell}
use Rattle.grid_range.specs.Change.{Fits}
use Rattle.grid_range.specs.Tracking.{area_followed}
use Rattle.grid_range.specs.TrackingLaws.{SpansStayApart, TearsWhereTorn, TornOrWhole, TracksStayWithin}
use Rattle.grid_range.specs.declared.area.Area.{Area}
use Rattle.grid_range.specs.declared.axis.Axis.{Axis}
use Rattle.grid_range.specs.declared.change.Change.{Change}
use Rattle.merge_ranges.specs.Calls.{ListsJust}
use Rattle.merge_ranges.specs.EndsLaws.{are_cells, cells_are}
use Rattle.merge_ranges.specs.FirstCells.{first_met}
use Rattle.merge_ranges.specs.Following.{AreWithin, CameFrom, KeepsAll}
use Rattle.merge_ranges.specs.FollowingLaws.{IsUntorn, area_kept, becomes_merge, kept_area, keeps_all, met_before, none_torn}
use Rattle.merge_ranges.specs.Merges.{AreMerges, Overlap}
use Rattle.merge_ranges.specs.Tests.{merge_after, tears_merge}
use Rattle.answered_calls.proofs.AreasPut.{InOrder, order_none, put, put_from, put_has, put_order}

module _ (axis : Axis) (count : ℕ) (change : Change) where
  -- the merges after the change, in order
  abbrev put_some : Option Area → List Area → List Area
  put_some None areas = areas
  put_some (Some area) areas = put area areas

  abbrev pub followed : List Area → List Area
  followed [] = []
  followed (merge ∷ merges) = put_some (merge_after axis count change merge) (followed merges)

  -- each comes from one of the merges
  abbrev Came : List Area → Area → Type 0
  Came merges area = (merge : Area) × Contains merges merge × (merge_after axis count change merge ≡ Some area)

  came_behind : (merge : Area) (merges : List Area) (area : Area) → Came merges area → Came (merge ∷ merges) area
  came_behind merge merges area (one, has, is) = (one, Contains-cons merge one merges has, is)

  came_by : (merge : Area) (merges : List Area) (area : Area) → (Contains (followed merges) area → Came merges area)
      → (becomes : Option Area) → merge_after axis count change merge ≡ becomes
      → Contains (put_some becomes (followed merges)) area → Came (merge ∷ merges) area
  came_by merge merges area behind None none has = came_behind merge merges area (behind has)
  came_by merge merges area behind (Some one) is has = elim (put_from one area (followed merges) has) [
    | inl same ↦ (merge, Contains-head merge merges, is ∙ ap Some same)
    | inr there ↦ came_behind merge merges area (behind there)
  ]

  came : (merges : List Area) (area : Area) → Contains (followed merges) area → Came merges area
  came [] area has = absurd (nothing_in area has)
  came (merge ∷ merges) area has =
      came_by merge merges area (λ there. came merges area there) (merge_after axis count change merge) refl has

  -- and what one becomes is there
  went_by : (merge : Area) (merges : List Area) (area : Area) → (becomes : Option Area)
      → (becomes ≡ Some area) ⊎ Contains (followed merges) area
      → Contains (put_some becomes (followed merges)) area
  went_by merge merges area None (inl is) = absurd (none-some area is)
  went_by merge merges area None (inr has) = has
  went_by merge merges area (Some one) (inl is) = put_has one area (followed merges) (inl (same_Some one area is))
  went_by merge merges area (Some one) (inr has) = put_has one area (followed merges) (inr has)

  went : (merges : List Area) (area one : Area) → Contains merges one → merge_after axis count change one ≡ Some area
      → Contains (followed merges) area
  went [] area one has is = absurd (nothing_in one has)
  went (merge ∷ merges) area one has is = elim (Contains-cons_cases merge one merges has) [
    | inl here ↦ went_by merge merges area (merge_after axis count change merge)
        (inl (ap (merge_after axis count change) here ∙ is))
    | inr there ↦ went_by merge merges area (merge_after axis count change merge) (inr (went merges area one there is))
  ]

  -- ---- no two come to have one first cell

  module _ (fits : Fits change count) (stay_within : TracksStayWithin) (apart : SpansStayApart) where
    met_first : (one other one' other' : Area) → IsUntorn axis count change one → IsUntorn axis count change other
        → merge_after axis count change one ≡ Some one' → merge_after axis count change other ≡ Some other'
        → first_cell one' ≡ first_cell other' → Overlap one other
    met_first one other one' other' whole whole' is is' same =
        met_before axis count change fits stay_within apart one other one' other' whole whole' is is'
        (first_met one' other' (becomes_merge axis count change fits stay_within one one' whole is).0
        (becomes_merge axis count change fits stay_within other other' whole' is').0 same)

    order_after : (merge : Area) (merges : List Area) → IsUntorn axis count change merge
        → ((one : Area) → Contains merges one → IsUntorn axis count change one)
        → ((one : Area) → Contains merges one → ¬ (Overlap merge one)) → InOrder (followed merges)
        → (becomes : Option Area) → merge_after axis count change merge ≡ becomes
        → InOrder (put_some becomes (followed merges))
    order_after merge merges whole each far sorted None is = sorted
    order_after merge merges whole each far sorted (Some area) is =
        put_order area (followed merges) sorted (λ other has same.
        let (one, there, is') = came merges other has in
        far one there (met_first merge one area other whole (each one there) is is' same))

    in_order : (merges : List Area) → ((one : Area) → Contains merges one → IsUntorn axis count change one)
        → AllPairs (λ one other. ¬ (Overlap one other)) merges → InOrder (followed merges)
    in_order [] each far = order_none
    in_order (merge ∷ merges) each far =
        order_after merge merges (each merge (Contains-head merge merges))
        (λ one has. each one (Contains-cons merge one merges has))
        (λ one (k, there, at) overlap. far 0 (suc k) one (omega arith) (omega arith)
        (subst (Overlap merge) (sym at) overlap))
        (in_order merges (λ one has. each one (Contains-cons merge one merges has))
        (λ i j d less there. far (suc i) (suc j) d (omega arith) (omega arith)))
        (merge_after axis count change merge) refl

-- ---- the merges of a sheet

-- what a change leaves that tears none of the merges
pub record Follow (axis : Axis) (count : ℕ) (change : Change) (merges : List Area) : Type 0 where
  pub just : ListsJust (CameFrom axis count change merges) (followed axis count change merges)
  pub whole : KeepsAll axis count change merges

pub merges_follow : TracksStayWithin → SpansStayApart → TearsWhereTorn → TornOrWhole
    → (axis : Axis) (count : ℕ) (change : Change) (merges : List Area) → Fits change count → AreMerges merges
    → AreWithin axis count merges → list_any (tears_merge axis count change) merges ≡ false
    → Follow axis count change merges
merges_follow stay_within apart where_torn or_whole axis count change merges fits are within none = record {
  just = record {
    in_order = in_order axis count change fits stay_within apart merges untorn are.apart;
    exactly = λ area. (
      (λ has.
          let (merge, there, is) = came axis count change merges area has in
          let kept = kept_area (area_followed merge.sheet axis count change merge) area is in
          record { merge = merge; listed = there; followed = kept.0; cells = cells_are area kept.1 }),
      (λ from. went axis count change merges area from.merge from.listed
          (area_kept (area_followed from.merge.sheet axis count change from.merge) area from.followed
          (are_cells area from.cells))),
    );
  };
  whole = keeps_all axis count change fits where_torn merges within none or_whole;
}
  where
    all_untorn : All (IsUntorn axis count change) merges
    all_untorn k d there =
        (are.each k d there, within k d there, none_torn axis count change fits where_torn merges within none k d there)

    untorn : (one : Area) → Contains merges one → IsUntorn axis count change one
    untorn one has = All-contains (IsUntorn axis count change) merges one all_untorn has
