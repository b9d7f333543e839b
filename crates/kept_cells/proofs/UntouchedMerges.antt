-- Cells that are merged or unmerged leave those that aren't of the area.
use Rattle.std.proofs.Common.{◌≡◌, ℕ, zero, suc, inl, inr, ◌+◌, ◌-◌, ◌<◌, ◌≤◌, refl, sym, ap, subst, ◌∙◌, List, [], ◌∷◌, true, arith}
use Rattle.std.specs.Prelude.{Option, Some, None, Contains, IsSomeAnd, map, slice_get}
use Rattle.std.specs.List.{range_with_len}
use Rattle.std.proofs.lemmas.Bool.{and_from, and_parts, le-leb, lt-ltb}
use Rattle.std.proofs.lemmas.List.Folds.{Any-from_list_any}
use Rattle.cell_value.specs.Elements.{Contains-cons_cases, Contains-filter_from, Contains-map_from, nothing_in}
use Rattle.grid_range.specs.Area.{Holds, band_on}
use Rattle.grid_range.specs.Band.{HasLine, cut_band, first_line}
use Rattle.grid_range.specs.declared.area.Area.{Area}
use Rattle.grid_range.specs.declared.axis.Axis.{Axis}
use Rattle.grid_range.specs.declared.axis.Axis.TheVariants.{Rows, Columns}
use Rattle.grid_range.specs.declared.band.Band.{Band}
use Rattle.grid_range.specs.declared.band.Band.TheVariants.{Whole, From, Span}
use Rattle.merge_ranges.specs.Calls.{IsLeft}
use Rattle.merge_ranges.specs.Merges.{covers, is_covered}
use Rattle.merge_ranges.specs.Tests.{has_line, has_many_cells, line_of, lines_of, past_line}
use Rattle.world_model.specs.Book.{PlaceBook}
use Rattle.world_model.specs.BookChange.{BookChange, changed_by}
use Rattle.world_model.specs.BookChange.BookChange.{MergesSet}
use Rattle.world_model.specs.Leaving.{LeaveInTurn}
use Rattle.world_model.specs.Sheet.{PlaceSheet}
use Rattle.world_model.specs.Sound.{place_sheet_with}
use Rattle.dimension_ops.specs.declared.rule.Rule.{Rule}
use Rattle.values_api.specs.Denials.{AreaCells}
use Rattle.json_requests.specs.declared.request.MergeType.{MergeType}
use Rattle.json_requests.specs.declared.request.MergeType.TheVariants as merge
use Rattle.sheets_json.specs.declared.spreadsheet.Reply.{Reply}
use Rattle.request_kinds.specs.MergeCells.{IsMergeAfter, IsMergeCells, AreMergedOn, covered_cleared, covered_emptied, parts_of, rectangle_on, with_ends}
use Rattle.request_kinds.specs.Merging.{AreMergesSet}
use Rattle.request_kinds.specs.Rows.{cut_on}
use Rattle.request_kinds.specs.Telling.{UnlessBroken}
use Rattle.request_kinds.specs.UnmergeCells.{AreUnmergedOn, IsUnmergeCells}
use Rattle.request_kinds.specs.TellingLaws.{as_reply, reply_apart, reply_changes}
use Rattle.kept_cells.proofs.UntouchedCells.{IsAt, is_placed, update_leaves}
use Rattle.kept_cells.proofs.UntouchedKinds.{Leave}
use Rattle.kept_cells.proofs.UntouchedLines.{cell_kept, lines_kept}
use Rattle.kept_cells.proofs.UntouchedRows.{on_area_done}
use Rattle.kept_cells.proofs.UntouchedWrites.{area_has, line_held, named_by, unless_held}

-- ---- what the parts of an area cover

line_in : (band : Band) (line : ℕ) → first_line band ≤ line → line < past_line band → has_line band line ≡ true
line_in Whole line late early = refl
line_in (From start) line late early = le-leb start line late
line_in (Span start end) line late early = and_from _ _ (le-leb start line late) (lt-ltb line end early)

in_range : (first count line : ℕ) → Contains (range_with_len first count) line → (first ≤ line) × (line < first + count)
in_range first zero line has = absurd (nothing_in line has)
in_range first (suc count) line has =
    elim (Contains-cons_cases first line (range_with_len (first + 1) count) has) [
      | inl same ↦ (omega (arith, same), omega (arith, same))
      | inr later ↦
          let (late, early) = in_range (first + 1) count line later in
          (omega (arith, late), omega (arith, early))
    ]

abbrev IsIn : Area → ℕ → ℕ → Type 0
IsIn area r c = (has_line area.rows r ≡ true) × (has_line area.cols c ≡ true)

one_line : (line other : ℕ) → has_line (Span line (line + 1)) other ≡ true → line ≡ other
one_line line other has =
    let (late, early) = line_held (Span line (line + 1)) other has in
    omega (arith, late, early)

-- a line of an area has only cells of the area
line_inside : (axis : Axis) (area : Area) (line r c : ℕ) → first_line (band_on axis area) ≤ line
    → line < first_line (band_on axis area) + (past_line (band_on axis area) - first_line (band_on axis area))
    → covers (line_of axis area line) r c ≡ true → IsIn area r c
line_inside Rows area line r c late early has =
    let inside : has_line area.rows line ≡ true = line_in area.rows line late (omega (arith, late, early)) in
    let (held, other) = and_parts _ _ has in
    let (rows, cols) = and_parts _ _ held in
    (subst (λ n. has_line area.rows n ≡ true) (one_line line r rows) inside, cols)
line_inside Columns area line r c late early has =
    let inside : has_line area.cols line ≡ true = line_in area.cols line late (omega (arith, late, early)) in
    let (held, other) = and_parts _ _ has in
    let (rows, cols) = and_parts _ _ held in
    (rows, subst (λ n. has_line area.cols n ≡ true) (one_line line c cols) inside)

lines_inside : (axis : Axis) (area part : Area) (r c : ℕ) → Contains (lines_of axis area) part → covers part r c ≡ true
    → IsIn area r c
lines_inside axis area part r c has covered =
    let first = first_line (band_on axis area) in
    let count = past_line (band_on axis area) - first in
    let (listed, many) =
    Contains-filter_from has_many_cells (map (line_of axis area) (range_with_len first count)) part has in
    let (line, there, same) = Contains-map_from (line_of axis area) (range_with_len first count) part listed in
    let (late, early) = in_range first count line there in
    line_inside axis area line r c late early (ap (λ one. covers one r c) same ∙ covered)

part_inside : (type : MergeType) (area part : Area) (r c : ℕ) → Contains (parts_of type area) part
    → covers part r c ≡ true
    → IsIn area r c
part_inside merge.Columns area part r c has covered = lines_inside Columns area part r c has covered
part_inside merge.Rows area part r c has covered = lines_inside Rows area part r c has covered
part_inside merge.All area part r c has covered =
    let (listed, many) = Contains-filter_from has_many_cells (area ∷ []) part has in
    let same : area ≡ part = elim (Contains-cons_cases area part [] listed) [
      | inl same ↦ same
      | inr later ↦ absurd (nothing_in part later)
    ] in
    let (held, other) = and_parts _ _ (ap (λ one. covers one r c) same ∙ covered) in
    and_parts _ _ held

parts_inside : (type : MergeType) (area : Area) (r c : ℕ) → is_covered (parts_of type area) r c ≡ true → IsIn area r c
parts_inside type area r c covered =
    let (k, part, there, is, covers_it) = Any-from_list_any (λ part. covers part r c) (parts_of type area) covered in
    part_inside type area part r c (k, there, is) covers_it

-- ---- on the sheet

ended_held : (count : ℕ) (band : Band) (line : ℕ) → has_line (with_ends count band) line ≡ true → HasLine band line
ended_held count Whole line has = tt
ended_held count (From start) line has = (line_held (Span start count) line has).0
ended_held count (Span start end) line has = line_held (Span start end) line has

cut_held : (count : ℕ) (band : Band) (line : ℕ) → HasLine (cut_band band count) line → HasLine band line
cut_held count Whole line has = tt
cut_held count (From start) line has = has
cut_held count (Span start end) line has = (has.0, omega (arith, has.1))

cut_holds : (found : Option PlaceSheet) (range : Area) (r c : ℕ) → Holds (cut_on found range) r c → Holds range r c
cut_holds None range r c holds = holds
cut_holds (Some sheet) range r c holds =
    (cut_held sheet.table.rows range.rows r holds.0, cut_held sheet.table.cols range.cols c holds.1)

cut_sheet : (found : Option PlaceSheet) (range : Area) → (cut_on found range).sheet ≡ range.sheet
cut_sheet None range = refl
cut_sheet (Some sheet) range = refl

covered_holds : (type : MergeType) (sheet : PlaceSheet) (found : Option PlaceSheet) (range : Area) (r c : ℕ)
    → is_covered (parts_of type (rectangle_on sheet (cut_on found range))) r c ≡ true → Holds range r c
covered_holds type sheet found range r c covered =
    let area = cut_on found range in
    let (rows, cols) = parts_inside type (rectangle_on sheet area) r c covered in
    cut_holds found range r c
    (ended_held sheet.table.rows area.rows r rows, ended_held sheet.table.cols area.cols c cols)

-- ---- what is told

some_found : {P : PlaceSheet → Type 0} (found : Option PlaceSheet) → IsSomeAnd found P → (sheet : PlaceSheet) × P sheet
some_found None holds = absurd holds
some_found (Some sheet) holds = (sheet, holds)

set_changes : (id : ℕ) (IsAfter : List Area → Area → Type 0) (later : List BookChange) (sheet : PlaceSheet)
    (broken : Option Rule) (told : Reply × List BookChange)
    → UnlessBroken broken (AreMergesSet id IsAfter later sheet) (as_reply told)
    → (merges : List Area) × (MergesSet id merges ∷ later ≡ told.1)
set_changes id IsAfter later sheet (Some first) told is = absurd (reply_apart told first is)
set_changes id IsAfter later sheet None told is = (is.merges, reply_changes told _ is.told_is)

pub unmerged_leave : (range : Area) (book : PlaceBook) (told : Reply × List BookChange)
    → IsUnmergeCells range book (as_reply told) → Leave [] (AreaCells book.sheets range) book told.1
unmerged_leave range book told is named id row col stands there untouched =
    let area = cut_on (place_sheet_with range.sheet book.sheets) range in
    let (sheet, asked) = some_found (place_sheet_with area.sheet book.sheets)
    (on_area_done book.sheets range (AreUnmergedOn book) told is) in
    let (merges, same) = set_changes area.sheet (IsLeft area) [] sheet asked.broken told asked.told_is in
    subst (λ all. LeaveInTurn named all id row col) same
    (tt, cell_kept named (MergesSet area.sheet merges) id row col tt there, tt)

pub merged_leave : (range : Area) (type : MergeType) (book : PlaceBook) (told : Reply × List BookChange)
    → IsMergeCells range type book (as_reply told) → Leave [] (AreaCells book.sheets range) book told.1
merged_leave range type book told is named id row col stands there untouched =
    let found = place_sheet_with range.sheet book.sheets in
    let area = cut_on found range in
    let (sheet, asked) = some_found (place_sheet_with area.sheet book.sheets)
    (on_area_done book.sheets range (AreMergedOn type book) told is) in
    let own = rectangle_on sheet area in
    let (merges, same) =
    set_changes own.sheet (IsMergeAfter type own) (covered_emptied type own) sheet asked.broken told
    asked.told_is in
    let change = MergesSet own.sheet merges in
    let still = cell_kept named change id row col tt there in
    subst (λ all. LeaveInTurn named all id row col) same (
      tt,
      still,
      update_leaves (changed_by named change) own.sheet (covered_cleared type own) id row col still (λ same r c at.
          unless_held (is_covered (parts_of type own) r c) (λ covered.
          let before : IsAt named.book id row col r c = (
            ap (λ order. slice_get order r) (sym (lines_kept named id Rows change tt)) ∙ at.0,
            ap (λ order. slice_get order c) (sym (lines_kept named id Columns change tt)) ∙ at.1,
          ) in
          untouched (named_by named.book (AreaCells book.sheets range) id row col r c
          (area_has book named.book range id row col r c (is_placed book named stands id row col there) before
          (same ∙ cut_sheet found range) (covered_holds type sheet found range r c covered)) before))),
    )
