-- Lines of a sheet can be deleted or inserted, if each sheet, each range and all else can follow: the sheet has another
-- size then, and the others keep theirs.
use Rattle.std.proofs.Common.{◌≡◌, ℕ, refl, sym, ap, subst, List, [], ◌∷◌, false, arith}
use Rattle.std.specs.Prelude.{Option, None, Some, IsSomeAnd}
use Rattle.std.specs.List.{list_any}
use Rattle.std.specs.Option.{option_map}
use Rattle.std.proofs.lemmas.Option.{none-some, same_Some}
use Rattle.cell_store.specs.Moved.{lines_on, size_after}
use Rattle.grid_range.specs.Change.{Fits}
use Rattle.grid_range.specs.Tearing.{IsMove}
use Rattle.grid_range.specs.declared.area.Area.{Area}
use Rattle.grid_range.specs.declared.axis.Axis.{Axis}
use Rattle.grid_range.specs.declared.change.Change.{Change}
use Rattle.grid_range.specs.declared.change.Change.TheVariants.{Insert, Delete, Move}
use Rattle.merge_ranges.specs.Tests.{tears_merge}
use Rattle.world_model.specs.Book.{PlaceBook}
use Rattle.world_model.specs.BookChange.{AreChanges, BookChange}
use Rattle.world_model.specs.ChangingLaws.{LineChangesAreChanges}
use Rattle.world_model.specs.Laws.{size_of}
use Rattle.world_model.specs.PlaceChange.{BookChanged}
use Rattle.world_model.specs.Sheet.{PlaceSheet}
use Rattle.world_model.specs.Sound.{IsSound, place_sheet_with}
use Rattle.dimension_ops.specs.SetProperties.{IsSized}
use Rattle.dimension_ops.specs.SizeLaws.{then_sized}
use Rattle.answered_calls.proofs.SizesSet.{SizesChange}

-- where lines of a sheet that is there are changed, and no merge is torn, all else can follow
abbrev pub LinesFollow : Type 0
LinesFollow = (book : PlaceBook) → IsSound book → (id : ℕ) (axis : Axis) (change : Change) (count : ℕ)
    (found : PlaceSheet) → place_sheet_with id book.sheets ≡ Some found
    → lines_on axis found.table.rows found.table.cols ≡ count → Fits change count
    → list_any (tears_merge axis count change) found.merges ≡ false
    → (after : PlaceBook) × BookChanged id axis count change book after

-- only a move tears a merge
none_torn : (axis : Axis) (count : ℕ) (change : Change) → ¬ (IsMove change) → (merges : List Area)
    → list_any (tears_merge axis count change) merges ≡ false
none_torn axis count (Insert at inserted) stays [] = refl
none_torn axis count (Insert at inserted) stays (merge ∷ merges) =
    none_torn axis count (Insert at inserted) stays merges
none_torn axis count (Delete start end) stays [] = refl
none_torn axis count (Delete start end) stays (merge ∷ merges) = none_torn axis count (Delete start end) stays merges
none_torn axis count (Move start end to) stays merges = absurd (stays tt)

pub sizes_change : LineChangesAreChanges → LinesFollow → SizesChange
sizes_change law follow book sound id axis change size others sized fits stays count room =
    at_sheet (place_sheet_with id book.sheets) refl sized.held
  where
    at_sheet : (found : Option PlaceSheet) → place_sheet_with id book.sheets ≡ found
        → option_map size_of found ≡ Some size
        → (after : PlaceBook) × AreChanges (BookChange.LinesChanged id axis change ∷ []) book after
        × IsSized id (size_after axis change size.0 size.1) others after.sheets
    at_sheet None at held = absurd (none-some size held)
    at_sheet (Some found) at held =
        let count_is : lines_on axis found.table.rows found.table.cols ≡ lines_on axis size.0 size.1 =
        ap (λ (size : ℕ × ℕ). lines_on axis size.0 size.1) (same_Some (size_of found) size held) in
        let (after, changed) = follow book sound id axis change (lines_on axis size.0 size.1) found at count_is fits
        (none_torn axis (lines_on axis size.0 size.1) change stays found.merges) in
        let sized' = then_sized id axis change (lines_on axis size.0 size.1) book after size others (Some found) at
        sound.distinct changed sized in
        let places = sized'.places in (
          after,
          law.changes book after id axis (lines_on axis size.0 size.1) change fits count
              (subst (λ one. IsSomeAnd one
              (λ (sheet : PlaceSheet). lines_on axis sheet.table.rows sheet.table.cols ≡ lines_on axis size.0 size.1))
              (sym at) count_is) changed (omega (arith, places, room)),
          sized',
        )
