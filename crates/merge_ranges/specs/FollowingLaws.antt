-- Laws of what merges are followed to by a change that doesn't tear them: merges, which have a cell in common only
-- where those before had one.
use Rattle.std.proofs.Common.{◌≡◌, ℕ, inl, inr, refl, sym, ap, subst, ◌∙◌, true, false, cond, List, get_or}
use Rattle.std.specs.Prelude.{Option, Some, None, IfSome}
use Rattle.std.specs.List.{All, list_any}
use Rattle.std.specs.Option.{option_and_then, option_map}
use Rattle.std.proofs.lemmas.Bool.{eq-eqb, false≢true}
use Rattle.std.proofs.lemmas.List.Folds.{list_any_at}
use Rattle.std.proofs.lemmas.Option.{cond_some, none-some, same_Some}
use Rattle.grid_range.specs.Area.{band_on, with_band}
use Rattle.grid_range.specs.Band.{ShareLine, Within}
use Rattle.grid_range.specs.Change.{Fits, count_after}
use Rattle.grid_range.specs.Tearing.{IsTorn}
use Rattle.grid_range.specs.Tracking.{area_followed, span_after, track_of}
use Rattle.grid_range.specs.TrackingLaws.{SpansStayApart, TearsWhereTorn, TornOrWhole, TracksStayWithin}
use Rattle.grid_range.specs.declared.area.Area.{Area}
use Rattle.grid_range.specs.declared.axis.Axis.{Axis}
use Rattle.grid_range.specs.declared.axis.Axis.TheVariants.{Rows, Columns}
use Rattle.grid_range.specs.declared.band.Band.{Band}
use Rattle.grid_range.specs.declared.band.Band.TheVariants.{Whole, From, Span}
use Rattle.grid_range.specs.declared.change.Change.{Change}
use Rattle.merge_ranges.specs.EndsLaws.{below, cells_are, ends_on}
use Rattle.merge_ranges.specs.Following.{AreWithin, KeepsAll}
use Rattle.merge_ranges.specs.Merges.{HasEnds, IsMerge, IsRectangle, Overlap}
use Rattle.merge_ranges.specs.Tests.{has_many_cells, merge_after, tears_merge}

-- ---- what one merge becomes

mapped : {A B : Type 0} (f : A → B) (o : Option A) (y : B) → option_map f o ≡ Some y
    → (x : A) × (o ≡ Some x) × (f x ≡ y)
mapped f None y e = absurd (none-some y e)
mapped f (Some x) y e = (x, refl, same_Some (f x) y e)

-- it is followed to one with the band that its own is followed to
pub area_is : (axis : Axis) (count : ℕ) (change : Change) (merge area : Area)
    → area_followed merge.sheet axis count change merge ≡ Some area
    → (band : Band) × (track_of (band_on axis merge) count change ≡ Some band) × (with_band axis merge band ≡ area)
area_is axis count change merge area is =
    mapped (with_band axis merge) (track_of (band_on axis merge) count change) area
    (rw (eq-eqb merge.sheet merge.sheet refl) at is)

-- an area that is kept has more than one cell
pub kept_area : (o : Option Area) (area : Area)
    → option_and_then (λ a. cond (has_many_cells a) (Some a) None) o ≡ Some area
    → (o ≡ Some area) × (has_many_cells area ≡ true)
kept_area None area e = absurd (none-some area e)
kept_area (Some a) area e =
    let both = cond_some (has_many_cells a) a area e in
    (ap Some both.1, subst (λ x. has_many_cells x ≡ true) both.1 both.0)

-- one that has them is kept
pub area_kept : (o : Option Area) (area : Area) → o ≡ Some area → has_many_cells area ≡ true
    → option_and_then (λ a. cond (has_many_cells a) (Some a) None) o ≡ Some area
area_kept o area is cells =
    ap (option_and_then (λ a. cond (has_many_cells a) (Some a) None)) is ∙ ap (λ t. cond t (Some area) None) cells

rectangle_with : (axis : Axis) (merge : Area) (band : Band) → IsRectangle merge → HasEnds band
    → IsRectangle (with_band axis merge band)
rectangle_with Rows merge band is ends = (ends, is.1)
rectangle_with Columns merge band is ends = (is.0, ends)

-- a merge that isn't torn
abbrev pub IsUntorn : Axis → ℕ → Change → Area → Type 0
IsUntorn axis count change merge =
    IsMerge merge × Within (band_on axis merge) count × ¬ (IsTorn change count (band_on axis merge))

-- ---- bands that aren't torn

module _ (count : ℕ) (change : Change) where
  -- such a band, and what it becomes
  abbrev Goes : Band → Band → Type 0
  Goes band found = HasEnds band × Within band count × ¬ (IsTorn change count band)
      × (track_of band count change ≡ Some found)

  module _ (fits : Fits change count) (stay_within : TracksStayWithin) where
    stays : (band found : Band) → Within band count → track_of band count change ≡ Some found
        → Within found (count_after change count)
    stays band found within is =
        subst (λ o. IfSome o (λ b. Within b (count_after change count))) is (stay_within band count change fits within)

    -- a band with both ends is followed to one
    ends_after : (band found : Band) → HasEnds band → Within band count → track_of band count change ≡ Some found
        → HasEnds found
    ends_after Whole found ends within is = absurd ends
    ends_after (From start) found ends within is = absurd ends
    ends_after (Span start end) found ends within is =
        let (p, at, same) = mapped (λ (p : ℕ × ℕ). Span p.0 p.1) (span_after change start end) found is in
        subst (λ band. Within band (count_after change count) → HasEnds band) same (λ there. there.0)
        (stays (Span start end) found within is)

    module _ (apart : SpansStayApart) where
      -- bands that share a line afterwards shared one before
      shared : (one other one' other' : Band) → Goes one one' → Goes other other'
          → ShareLine one' other' (count_after change count) → ShareLine one other count
      shared Whole other one' other' g g' line = absurd g.0
      shared (From start) other one' other' g g' line = absurd g.0
      shared (Span start end) Whole one' other' g g' line = absurd g'.0
      shared (Span start end) (From start') one' other' g g' line = absurd g'.0
      shared (Span start end) (Span start' end') one' other' (_, within, whole, is) (_, within', whole', is') line =
          apart start end start' end' one' other' count change fits within whole is within' whole' is' line

      -- and so did areas with these bands on the axis
      met : (axis : Axis) (one other : Area) (band band' : Band) → Goes (band_on axis one) band
          → Goes (band_on axis other) band'
          → Overlap (with_band axis one band) (with_band axis other band') → Overlap one other
      met Rows one other band band' g g' o =
          let there = below band (count_after change count) o.row
          (ends_after one.rows band g.0 g.1 g.3) (stays one.rows band g.1 g.3) o.one_holds.0 in
          let (row, l, a, b) = shared one.rows other.rows band band' g g'
          (o.row, there, o.one_holds.0, o.other_holds.0) in
          record { row = row; col = o.col; one_holds = (a, o.one_holds.1); other_holds = (b, o.other_holds.1) }
      met Columns one other band band' g g' o =
          let there = below band (count_after change count) o.col
          (ends_after one.cols band g.0 g.1 g.3) (stays one.cols band g.1 g.3) o.one_holds.1 in
          let (col, l, a, b) = shared one.cols other.cols band band' g g'
          (o.col, there, o.one_holds.1, o.other_holds.1) in
          record { row = o.row; col = col; one_holds = (o.one_holds.0, a); other_holds = (o.other_holds.0, b) }

-- ---- merges that aren't torn

module _ (axis : Axis) (count : ℕ) (change : Change) where
  becomes : (merge area : Area) → merge_after axis count change merge ≡ Some area
      → (band : Band) × (track_of (band_on axis merge) count change ≡ Some band)
      × (with_band axis merge band ≡ area) × (has_many_cells area ≡ true)
  becomes merge area is =
      let kept = kept_area (area_followed merge.sheet axis count change merge) area is in
      let (band, tracked, same) = area_is axis count change merge area kept.0 in
      (band, tracked, same, kept.1)

  module _ (fits : Fits change count) (stay_within : TracksStayWithin) where
    -- such a merge becomes a merge
    pub becomes_merge : (merge area : Area) → IsUntorn axis count change merge
        → merge_after axis count change merge ≡ Some area → IsMerge area
    becomes_merge merge area whole is =
        let (band, tracked, same, cells) = becomes merge area is in
        let ends = ends_after count change fits stay_within (band_on axis merge) band (ends_on axis merge whole.0.0)
        whole.1 tracked in
        (subst IsRectangle same (rectangle_with axis merge band whole.0.0 ends), cells_are area cells)

    -- two that come to have a cell in common had one before
    pub met_before : SpansStayApart → (one other one' other' : Area) → IsUntorn axis count change one
        → IsUntorn axis count change other → merge_after axis count change one ≡ Some one'
        → merge_after axis count change other ≡ Some other' → Overlap one' other' → Overlap one other
    met_before apart one other one' other' whole whole' is is' both =
        let (band, tracked, same, cells) = becomes one one' is in
        let (band', tracked', same', cells') = becomes other other' is' in
        met count change fits stay_within apart axis one other band band'
        (ends_on axis one whole.0.0, whole.1, whole.2, tracked)
        (ends_on axis other whole'.0.0, whole'.1, whole'.2, tracked')
        (subst (λ a. Overlap a (with_band axis other band')) (sym same) (subst (Overlap one') (sym same') both))

-- ---- the merges of a list

module _ (axis : Axis) (count : ℕ) (change : Change) (fits : Fits change count) (where_torn : TearsWhereTorn)
    (merges : List Area) (within : AreWithin axis count merges)
    (none : list_any (tears_merge axis count change) merges ≡ false) where
  -- by the test the change tears none of them
  pub none_torn : All (λ merge. ¬ (IsTorn change count (band_on axis merge))) merges
  none_torn k d l torn =
      false≢true (sym none ∙ list_any_at (tears_merge axis count change) merges k d l
      ((where_torn (band_on axis (get_or merges k d)) count change fits (within k d l)).1 torn))

  -- so a move leaves each of them whole
  pub keeps_all : TornOrWhole → KeepsAll axis count change merges
  keeps_all or_whole move k d l = elim
      (or_whole (band_on axis (get_or merges k d)) count change fits (within k d l) move) [
        | inl torn ↦ absurd (none_torn k d l torn)
        | inr whole ↦ whole
      ]
