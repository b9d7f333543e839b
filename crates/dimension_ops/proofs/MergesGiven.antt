-- Merges that a sheet gets are of it, and it is found with them.
use Rattle.std.proofs.Common.{◌≡◌, ℕ, ◌+◌, ◌<◌, inl, inr, arith, refl, sym, ap, subst, ◌∙◌, cond, Bool, true, false, List, [], ◌∷◌, get_or, map}
use Rattle.std.specs.Prelude.{Option, None, Some, IfSome, IsSomeAnd, ◌==◌}
use Rattle.std.specs.List.{range_with_len}
use Rattle.std.proofs.lemmas.Bool.{eqb-true}
use Rattle.std.proofs.lemmas.List.Elements.{All-cons, All-contains, All-filter, All-nil, Contains-get_or}
use Rattle.std.proofs.lemmas.List.FromFn.{get_or-map-range_with_len, length-map-range_with_len}
use Rattle.std.proofs.lemmas.Option.{none-some, same_Some}
use Rattle.grid_range.specs.Area.{AreaWithin, band_on}
use Rattle.grid_range.specs.Band.{HasLine, first_line}
use Rattle.grid_range.specs.declared.area.Area.{Area}
use Rattle.grid_range.specs.declared.axis.Axis.{Axis}
use Rattle.grid_range.specs.declared.band.Band.{Band}
use Rattle.grid_range.specs.declared.band.Band.TheVariants.{Whole, From, Span}
use Rattle.merge_ranges.specs.Calls.{IsLeft, IsLeftOrPart, ListsJust}
use Rattle.merge_ranges.specs.Merges.{HasEnds, IsRectangle}
use Rattle.merge_ranges.specs.Tests.{has_many_cells, line_count, line_of, lines_of}
use Rattle.world_model.specs.Book.{PlaceBook}
use Rattle.world_model.specs.BookChange.{AreChanges, BookChange}
use Rattle.world_model.specs.Sheet.{PlaceSheet}
use Rattle.world_model.specs.SheetChange.{place_merged, place_merges_set}
use Rattle.world_model.specs.Sound.{IsOnSheet, IsSheetSound, IsSound, place_sheet_with}
use Rattle.dimension_ops.specs.MergeLaws.{found_with, line_is_of}
use Rattle.merge_ranges.specs.EndsLaws.{ends_on}
use Rattle.dimension_ops.specs.MergeRequests.{AreOfSheet, IsOfSheet, MergesBecome}
use Rattle.dimension_ops.proofs.PastLines.{found_holds}

-- ---- the sheet that is found

module _ (id : ℕ) where
  either_found : (b : Bool) (s found : PlaceSheet) (rest : Option PlaceSheet) → (s.id == id) ≡ b
      → (rest ≡ Some found → found.id ≡ id) → cond b (Some s) rest ≡ Some found → found.id ≡ id
  either_found true s found rest here behind is =
      subst (λ (sheet : PlaceSheet). sheet.id ≡ id) (same_Some s found is) (eqb-true s.id id here)
  either_found false s found rest here behind is = behind is

  found_id : (sheets : List PlaceSheet) (found : PlaceSheet) → place_sheet_with id sheets ≡ Some found → found.id ≡ id
  found_id [] found is = absurd (none-some found is)
  found_id (s ∷ ss) found is =
      either_found (s.id == id) s found (place_sheet_with id ss) refl (found_id ss found) is

-- ---- what the merges become

pub becomes : (id : ℕ) (IsAfter : List Area → Area → Type 0) (before after : PlaceBook) (was merges : List Area)
    → IsSomeAnd (place_sheet_with id before.sheets) (λ sheet. sheet.merges ≡ was) → ListsJust (IsAfter was) merges
    → after ≡ place_merges_set id merges before
    → AreChanges (BookChange.MergesSet id merges ∷ []) before after → MergesBecome id IsAfter before after
becomes id IsAfter before after was merges there lists set names = record {
  merges = merges;
  just = just_at (place_sheet_with id before.sheets) there;
  found = found_at (place_sheet_with id before.sheets) refl there;
  set = set;
  names = names;
}
  where
    just_at : (found : Option PlaceSheet) → IsSomeAnd found (λ sheet. sheet.merges ≡ was)
        → IsSomeAnd found (λ sheet. ListsJust (IsAfter sheet.merges) merges)
    just_at None is = absurd is
    just_at (Some sheet) is = subst (λ ms. ListsJust (IsAfter ms) merges) (sym is) lists

    found_at : (found : Option PlaceSheet) → place_sheet_with id before.sheets ≡ found
        → IsSomeAnd found (λ sheet. sheet.merges ≡ was)
        → IsSomeAnd found (λ sheet. place_sheet_with id after.sheets ≡ Some (place_merged merges sheet))
    found_at None at is = absurd is
    found_at (Some sheet) at is =
        ap (λ (book : PlaceBook). place_sheet_with id book.sheets) set
        ∙ found_with id merges before.sheets sheet at

-- ---- the sheet can have them

pub are_of_sheet : (area : Area) (IsAfter : List Area → Area → Type 0) (was merges : List Area) (book : PlaceBook)
    → IsSound book → IsOnSheet book.sheets area
    → ((sheet : PlaceSheet) (merge : Area) → IsOfSheet sheet area → AreOfSheet sheet was → IsAfter was merge
    → IsOfSheet sheet merge)
    → IsSomeAnd (place_sheet_with area.sheet book.sheets) (λ sheet. sheet.merges ≡ was)
    → ListsJust (IsAfter was) merges
    → IsSomeAnd (place_sheet_with area.sheet book.sheets) (λ sheet. AreOfSheet sheet merges)
are_of_sheet area IsAfter was merges book sound on keeps there lists =
    at (place_sheet_with area.sheet book.sheets) refl on there
    (found_holds (IsSheetSound book.sheets) area.sheet book.sheets sound.sheets)
  where
    at : (found : Option PlaceSheet) → place_sheet_with area.sheet book.sheets ≡ found
        → IsSomeAnd found (λ sheet. AreaWithin area sheet.table.rows sheet.table.cols)
        → IsSomeAnd found (λ sheet. sheet.merges ≡ was) → IfSome found (IsSheetSound book.sheets)
        → IsSomeAnd found (λ sheet. AreOfSheet sheet merges)
    at None is within had sound = absurd had
    at (Some sheet) is within had sound = λ k d less.
        keeps sheet (get_or merges k d) (sym (found_id area.sheet book.sheets sheet is), within)
        (subst (AreOfSheet sheet) had sound.merges.1)
        ((lists.exactly (get_or merges k d)).0 (Contains-get_or merges k d less))

pub left_is_of : (area : Area) (was : List Area) (sheet : PlaceSheet) (merge : Area) → AreOfSheet sheet was
    → IsLeft area was merge → IsOfSheet sheet merge
left_is_of area was sheet merge all left = All-contains (IsOfSheet sheet) was merge all left.0

pub parts_are_of : (area : Area) (was parts : List Area) (sheet : PlaceSheet) (merge : Area)
    → AreOfSheet sheet parts → AreOfSheet sheet was → IsLeftOrPart area was parts merge → IsOfSheet sheet merge
parts_are_of area was parts sheet merge are all (inl left) = left_is_of area was sheet merge all left
parts_are_of area was parts sheet merge are all (inr part) = All-contains (IsOfSheet sheet) parts merge are part

pub itself_is_of : (area : Area) (sheet : PlaceSheet) → IsOfSheet sheet area → AreOfSheet sheet (area ∷ [])
itself_is_of area sheet of = All-cons (IsOfSheet sheet) area [] of (All-nil (IsOfSheet sheet))

line_at : (band : Band) (k : ℕ) → HasEnds band → k < line_count band → HasLine band (first_line band + k)
line_at Whole k ends few = absurd ends
line_at (From start) k ends few = absurd ends
line_at (Span start end) k ends few = (omega arith, omega (arith, few))

pub lines_are_of : (axis : Axis) (area : Area) (sheet : PlaceSheet) → IsRectangle area → IsOfSheet sheet area
    → AreOfSheet sheet (lines_of axis area)
lines_are_of axis area sheet rect of =
    let band = band_on axis area in
    let first = first_line band in
    let lines : List Area = map (line_of axis area) (range_with_len first (line_count band)) in
    All-filter has_many_cells (IsOfSheet sheet) lines (λ k d there.
    let few : k < line_count band =
    subst (λ n. k < n) (length-map-range_with_len (line_of axis area) first (line_count band)) there in
    subst (IsOfSheet sheet)
    (sym (get_or-map-range_with_len (line_of axis area) first (line_count band) k (first + k) d few refl))
    (line_is_of axis area sheet (first + k) rect (line_at band k (ends_on axis area rect) few) of))
