-- More lines than numbers of lines tell are past the limit of lines.
use Rattle.std.proofs.Common.{◌≡◌, ℕ, suc, ◌+◌, ◌<◌, ◌≤◌, refl, sym, ap, ◌∙◌, List, [], ◌∷◌, cond, Bool, true, false, arith, Ok, Err}
use Rattle.std.specs.Prelude.{Option, None, Some, IfSome, IsSomeAnd, ◌==◌, nat_lt}
use Rattle.std.specs.List.{All, list_any}
use Rattle.std.specs.Option.{option_map_or}
use Rattle.std.proofs.lemmas.Bool.{false_from_ne_true, eqb-true, le-ltb, lt-ltb}
use Rattle.grid_range.specs.declared.axis.Axis.{Axis}
use Rattle.grid_range.specs.declared.axis.Axis.TheVariants.{Rows, Columns}
use Rattle.grid_range.specs.Change.{count_after}
use Rattle.grid_range.specs.declared.change.Change.{Change}
use Rattle.grid_range.specs.declared.change.Change.TheVariants.{Insert}
use Rattle.cell_store.specs.Moved.{size_after}
use Rattle.merge_ranges.specs.Tests.{tears_merge}
use Rattle.world_model.specs.declared.limits.TheConstants.{MOST_COLUMNS, MOST_ROWS}
use Rattle.world_model.specs.Book.{PlaceBook}
use Rattle.world_model.specs.Sheet.{PlaceSheet}
use Rattle.world_model.specs.Sound.{IsSheetSound, most_places, place_sheet_with}
use Rattle.dimension_ops.specs.Broken.{first_broken, first_passed, unbroken}
use Rattle.dimension_ops.specs.Lines.{IsLinesAnswer, limit_on, lines_broken, lines_of_sheet, passes_size, places_changed}
use Rattle.dimension_ops.specs.declared.rule.Limit.{Limit}
use Rattle.dimension_ops.specs.declared.rule.Limit.TheVariants as limit
use Rattle.dimension_ops.specs.declared.rule.Rule.{Rule}
use Rattle.dimension_ops.specs.declared.rule.Rule.TheVariants as rule

-- ---- the first rule that is broken

only_past : (last cut : Bool) (past : Option Limit) (passed : Limit) → last ≡ false → past ≡ Some passed
    → first_broken (record unbroken { last_line = last; past_limit = past; merge_cut = cut })
    ≡ Some (rule.PastLimit passed)
only_past last cut past passed fails is =
    ap (λ b. first_broken (record unbroken { last_line = b; past_limit = past; merge_cut = cut })) fails
    ∙ ap (λ p. first_broken (record unbroken { last_line = false; past_limit = p; merge_cut = cut })) is

rows_first : (rows cols cells : Bool) → rows ≡ true
    → cond rows (Some limit.Rows) (cond cols (Some limit.Columns) (cond cells (Some limit.Cells) None))
    ≡ Some limit.Rows
rows_first rows cols cells is =
    ap (λ b. cond b (Some limit.Rows) (cond cols (Some limit.Columns) (cond cells (Some limit.Cells) None))) is

cols_first : (rows cols cells : Bool) → rows ≡ false → cols ≡ true
    → cond rows (Some limit.Rows) (cond cols (Some limit.Columns) (cond cells (Some limit.Cells) None))
    ≡ Some limit.Columns
cols_first rows cols cells fails is =
    ap (λ b. cond b (Some limit.Rows) (cond cols (Some limit.Columns) (cond cells (Some limit.Cells) None))) fails
    ∙ ap (λ b. cond b (Some limit.Columns) (cond cells (Some limit.Cells) None)) is

some_lines : (lines : ℕ) → 0 < lines → (lines == 0) ≡ false
some_lines lines some = false_from_ne_true (lines == 0) (λ is. absurd (omega (arith, some, eqb-true lines 0 is)))

-- ---- the sheet that is found is one of them

pub found_holds : (P : PlaceSheet → Type 0) (id : ℕ) (sheets : List PlaceSheet) → All P sheets
    → IfSome (place_sheet_with id sheets) P
found_holds P id [] all = tt
found_holds P id (sheet ∷ sheets) all =
    either (sheet.id == id) (place_sheet_with id sheets) (all 0 sheet (omega arith))
    (found_holds P id sheets (λ k d there. all (suc k) d (omega arith)))
  where
    either : (b : Bool) (rest : Option PlaceSheet) → P sheet → IfSome rest P → IfSome (cond b (Some sheet) rest) P
    either true rest here behind = here
    either false rest here behind = behind

-- ---- more lines than a number of lines tells

module _ (at count places : ℕ) (sheet : PlaceSheet) (sheets : List PlaceSheet) (sound : IsSheetSound sheets sheet) where
  past_on : (axis : Axis) → 4294967296 ≤ lines_of_sheet axis sheet + count
      → first_passed (passes_size (size_after axis (Insert at count) sheet.table.rows sheet.table.cols) places)
      ≡ Some (limit_on axis)
  past_on Rows many =
      rows_first (nat_lt MOST_ROWS (sheet.table.rows + count)) (nat_lt MOST_COLUMNS sheet.table.cols)
      (nat_lt most_places places)
      (lt-ltb MOST_ROWS (sheet.table.rows + count) (omega arith))
  past_on Columns many =
      cols_first (nat_lt MOST_ROWS sheet.table.rows) (nat_lt MOST_COLUMNS (sheet.table.cols + count))
      (nat_lt most_places places)
      (le-ltb MOST_ROWS sheet.table.rows sound.rows.1) (lt-ltb MOST_COLUMNS (sheet.table.cols + count) (omega arith))

pub past_refused : (before : PlaceBook) (id at count lines : ℕ) (axis : Axis) (broken : Rule)
    → All (IsSheetSound before.sheets) before.sheets
    → IsSomeAnd (place_sheet_with id before.sheets) (λ sheet. at ≤ lines_of_sheet axis sheet)
    → IfSome (place_sheet_with id before.sheets) (λ sheet. lines ≡ lines_of_sheet axis sheet)
    → 4294967296 ≤ lines + count → broken ≡ rule.PastLimit (limit_on axis)
    → IsLinesAnswer id axis (Insert at count) before before (Err broken)
past_refused before id at count lines axis broken sound there long many is =
    at_found (place_sheet_with id before.sheets) refl there long
    (found_holds (IsSheetSound before.sheets) id before.sheets sound)
  where
    at_found : (found : Option PlaceSheet) → place_sheet_with id before.sheets ≡ found
        → IsSomeAnd found (λ sheet. at ≤ lines_of_sheet axis sheet)
        → IfSome found (λ sheet. lines ≡ lines_of_sheet axis sheet) → IfSome found (IsSheetSound before.sheets)
        → IsLinesAnswer id axis (Insert at count) before before (Err broken)
    at_found None here some long sound = absurd some
    at_found (Some sheet) here some long sound =
        let change : Change = Insert at count in
        let many' : 4294967296 ≤ lines_of_sheet axis sheet + count = omega (arith, many, long) in
        let first : first_broken (lines_broken id axis change before.sheets) ≡ Some (rule.PastLimit (limit_on axis)) =
        ap (λ found. first_broken (option_map_or (λ other. record unbroken {
          last_line = count_after change (lines_of_sheet axis other) == 0;
          past_limit = first_passed (passes_size (size_after axis change other.table.rows other.table.cols)
              (places_changed id axis change before.sheets));
          merge_cut = list_any (tears_merge axis (lines_of_sheet axis other) change) other.merges;
        }) found unbroken)) here
        ∙ only_past (count_after change (lines_of_sheet axis sheet) == 0)
        (list_any (tears_merge axis (lines_of_sheet axis sheet) change) sheet.merges)
        (first_passed (passes_size (size_after axis change sheet.table.rows sheet.table.cols)
        (places_changed id axis change before.sheets))) (limit_on axis)
        (some_lines (lines_of_sheet axis sheet + count) (omega (arith, many')))
        (past_on at count (places_changed id axis change before.sheets) sheet before.sheets sound axis many') in
        record {
          judged = ap Err is ∙ ap (λ r. option_map_or Err r (Ok tt)) (sym first);
          changed = tt;
          places = tt;
          sizes = tt;
          unchanged = refl;
        }

-- the line before which lines are inserted is one of those that the sheet has, or the one behind them
pub at_most_lines : (at lines : ℕ) (axis : Axis) (found : Option PlaceSheet)
    → IsSomeAnd found (λ sheet. at ≤ lines_of_sheet axis sheet)
    → IfSome found (λ sheet. lines ≡ lines_of_sheet axis sheet) → at ≤ lines
at_most_lines at lines axis None there long = absurd there
at_most_lines at lines axis (Some sheet) there long = omega (arith, there, long)
