-- What a change of lines keeps where it breaks no rule.
use Rattle.std.proofs.Common.{◌≡◌, ℕ, zero, suc, ◌+◌, ◌<◌, ◌≤◌, List, refl, sym, ap, ◌∙◌, cond, Bool, true, false, arith}
use Rattle.std.specs.Prelude.{Option, Some, None, ◌==◌, ◌^◌, nat_lt}
use Rattle.std.specs.List.{list_any}
use Rattle.std.specs.Option.{option_map_or}
use Rattle.std.proofs.lemmas.Bool.{eqb-false, ltb-false}
use Rattle.std.proofs.lemmas.Option.{none-some}
use Rattle.grid_range.specs.Change.{Fits, count_after}
use Rattle.grid_range.specs.declared.axis.Axis.{Axis}
use Rattle.grid_range.specs.declared.axis.Axis.TheVariants.{Rows, Columns}
use Rattle.grid_range.specs.declared.change.Change.{Change}
use Rattle.grid_range.specs.declared.change.Change.TheVariants.{Insert, Delete, Move}
use Rattle.cell_store.specs.Moved.{lines_on, size_after}
use Rattle.merge_ranges.specs.Tests.{tears_merge}
use Rattle.world_model.specs.Sheet.{PlaceSheet}
use Rattle.world_model.specs.Sound.{IsLineCount, most_on, most_places, place_sheet_with}
use Rattle.dimension_ops.specs.Broken.{first_broken, first_passed, unbroken}
use Rattle.dimension_ops.specs.Lines.{lines_broken, lines_of_sheet, passes_size, places_changed}
use Rattle.dimension_ops.specs.declared.rule.Limit.{Limit}
use Rattle.dimension_ops.specs.declared.rule.Limit.TheVariants as limit
use Rattle.dimension_ops.specs.declared.rule.Rule.TheVariants as rule

not_some : {A : Type 0} (x : A) → Some x ≡ None → ⊥
not_some x is = none-some x (sym is)

-- ---- the first rule

-- none of the rules before is broken
pub none_before : (no_sheet bad_range outside at_zero : Bool)
    → first_broken (record unbroken {
      no_sheet = no_sheet;
      bad_range = bad_range;
      outside_grid = outside;
      inherit_at_zero = at_zero;
    }) ≡ None → (no_sheet ≡ false) × (bad_range ≡ false) × (outside ≡ false)
none_before true bad_range outside at_zero is = absurd (not_some rule.NoSheet is)
none_before false true outside at_zero is = absurd (not_some rule.BadRange is)
none_before false false true at_zero is = absurd (not_some rule.OutsideGrid is)
none_before false false false at_zero is = (refl, refl, refl)

-- nor is one of those on what becomes of the lines
none_of_lines : (last cut : Bool) (past : Option Limit)
    → first_broken (record unbroken { last_line = last; past_limit = past; merge_cut = cut }) ≡ None
    → (last ≡ false) × (past ≡ None) × (cut ≡ false)
none_of_lines true cut past is = absurd (not_some rule.LastLine is)
none_of_lines false cut (Some passed) is = absurd (not_some (rule.PastLimit passed) is)
none_of_lines false true None is = absurd (not_some rule.MergeCut is)
none_of_lines false false None is = (refl, refl, refl)

-- ---- limits

none_passed : (rows cols cells : Bool)
    → cond rows (Some limit.Rows) (cond cols (Some limit.Columns) (cond cells (Some limit.Cells) None)) ≡ None
    → (rows ≡ false) × (cols ≡ false) × (cells ≡ false)
none_passed true cols cells is = absurd (not_some limit.Rows is)
none_passed false true cells is = absurd (not_some limit.Columns is)
none_passed false false true is = absurd (not_some limit.Cells is)
none_passed false false false is = (refl, refl, refl)

-- a size and a number of places within the limits
pub record IsWithin (size : ℕ × ℕ) (places : ℕ) : Type 0 where
  pub rows : size.0 ≤ most_on Rows
  pub cols : size.1 ≤ most_on Columns
  pub cells : places ≤ most_places

pub is_within : (size : ℕ × ℕ) (places : ℕ) → first_passed (passes_size size places) ≡ None → IsWithin size places
is_within size places is =
    let none = none_passed (nat_lt (most_on Rows) size.0) (nat_lt (most_on Columns) size.1) (nat_lt most_places places)
    is in
    record {
      rows = ltb-false (most_on Rows) size.0 none.0;
      cols = ltb-false (most_on Columns) size.1 none.1;
      cells = ltb-false most_places places none.2;
    }

-- ---- the change of a sheet's lines

-- a change whose lines are there
abbrev pub HasItsLines : Change → ℕ → Type 0
HasItsLines (Insert at inserted) count = (at ≤ count) × (0 < inserted)
HasItsLines (Delete start end) count = (start < end) × (end ≤ count)
HasItsLines (Move start end to) count = (start < end) × (end ≤ count) × (to ≤ count)

-- what is kept where no rule is broken
pub record Keeps (id : ℕ) (axis : Axis) (change : Change) (sheets : List PlaceSheet) (found : PlaceSheet) : Type 0 where
  pub room : IsLineCount axis (count_after change (lines_of_sheet axis found))
  pub few : places_changed id axis change sheets ≤ most_places
  pub untorn : list_any (tears_merge axis (lines_of_sheet axis found) change) found.merges ≡ false

pub above : (n : ℕ) → (n == 0) ≡ false → 0 < n
above zero is = absurd (eqb-false 0 0 is refl)
above (suc n) is = omega arith

room_on : (axis : Axis) (change : Change) (rows cols places : ℕ)
    → (count_after change (lines_on axis rows cols) == 0) ≡ false → IsWithin (size_after axis change rows cols) places
    → IsLineCount axis (count_after change (lines_on axis rows cols))
room_on Rows change rows cols places some within = (above (count_after change rows) some, within.rows)
room_on Columns change rows cols places some within = (above (count_after change cols) some, within.cols)

pub keeps : (id : ℕ) (axis : Axis) (change : Change) (sheets : List PlaceSheet) (found : PlaceSheet)
    → place_sheet_with id sheets ≡ Some found → first_broken (lines_broken id axis change sheets) ≡ None
    → Keeps id axis change sheets found
keeps id axis change sheets found is none =
    let size = size_after axis change found.table.rows found.table.cols in
    let places = places_changed id axis change sheets in
    let here : first_broken (record unbroken {
      last_line = count_after change (lines_of_sheet axis found) == 0;
      past_limit = first_passed (passes_size size places);
      merge_cut = list_any (tears_merge axis (lines_of_sheet axis found) change) found.merges;
    }) ≡ None =
    sym (ap (λ found. first_broken (option_map_or (λ (sheet : PlaceSheet). record unbroken {
      last_line = count_after change (lines_of_sheet axis sheet) == 0;
      past_limit = first_passed (passes_size (size_after axis change sheet.table.rows sheet.table.cols) places);
      merge_cut = list_any (tears_merge axis (lines_of_sheet axis sheet) change) sheet.merges;
    }) found unbroken)) is) ∙ none in
    let parts = none_of_lines (count_after change (lines_of_sheet axis found) == 0)
    (list_any (tears_merge axis (lines_of_sheet axis found) change) found.merges)
    (first_passed (passes_size size places)) here in
    let within = is_within size places parts.1 in
    record {
      room = room_on axis change found.table.rows found.table.cols places parts.0 within;
      few = within.cells;
      untorn = parts.2;
    }

-- a sheet can have no more lines than a number of lines tells
most_below : (axis : Axis) (count : ℕ) → count ≤ most_on axis → count < 2 ^ 32
most_below Rows count few = omega (arith, few)
most_below Columns count few = omega (arith, few)

pub fits : (axis : Axis) (change : Change) (count : ℕ) → HasItsLines change count
    → IsLineCount axis (count_after change count) → Fits change count
fits axis (Insert at inserted) count has room = (has.0, has.1, most_below axis (count + inserted) room.1)
fits axis (Delete start end) count has room = has
fits axis (Move start end to) count has room = has
