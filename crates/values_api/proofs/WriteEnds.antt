-- A write as far as the ends is the write of the area.
use Rattle.std.proofs.Common.{◌≡◌, ℕ, ◌+◌, ◌-◌, ◌<◌, ◌≤◌, cond, Bool, true, false, refl, sym, subst, ap, ◌∙◌, arith}
use Rattle.std.specs.Prelude.{Option, Some, None, IsSomeAnd, Result, Ok, Err, IfOk, MatchResult}
use Rattle.std.specs.Prelude.{◌&&◌, not, nat_le, nat_lt}
use Rattle.std.specs.declared.alloc.Global.{Global}
use Rattle.std.proofs.Math.Path.{fun_ext}
use Rattle.std.proofs.lemmas.Bool.{and_parts, leb-true}
use denote.Ref.{Bor}
use Rattle.cell_value.specs.declared.cell.Block.{Block}
use Rattle.cell_value.specs.declared.entered.Input.{Input}
use Rattle.formula_reader.specs.declared.fault.FormulaFault.{FormulaFault}
use Rattle.grid_range.specs.Area.{AreaWithin}
use Rattle.grid_range.specs.Band.{Within, first_line, end_line}
use Rattle.grid_range.specs.declared.area.Area.{Area}
use Rattle.grid_range.specs.declared.band.Band.{Band}
use Rattle.grid_range.specs.declared.band.Band.TheVariants.{Whole, From, Span}
use Rattle.merge_ranges.specs.Merges.{is_covered}
use Rattle.world_model.specs.Book.{PlaceBook}
use Rattle.world_model.specs.Counts.{filled_of, formulas_of}
use Rattle.world_model.specs.Sheet.{PlaceSheet}
use Rattle.world_model.specs.Sound.{IsSheetSound, IsSound, place_sheet_with}
use Rattle.dimension_ops.specs.Rules.{IsUnlessNoMemory}
use Rattle.dimension_ops.specs.declared.rule.Limit.TheVariants.{Filled, Formulas}
use Rattle.dimension_ops.specs.declared.rule.Rule.{Rule}
use Rattle.dimension_ops.specs.declared.rule.Rule.TheVariants.{PastLimit, ValuesPastRange}
use Rattle.dimension_ops.specs.declared.rule.RuleOr.{RuleOr}
use Rattle.dimension_ops.specs.declared.rule.RuleOr.TheVariants as refusal
use Rattle.values_api.specs.Blocks.{Entry, AreEntries, end_row, end_col, given_value, input_at, lies_in, rows_needed, cols_needed, area_written}
use Rattle.values_api.specs.Blocks.{broken_by_formulas, broken_by_write, contents_of, most_formulas, most_stored, rule_of_limit, written, IsWrite, IsWritten}
use Rattle.values_api.specs.FoundLaws.{some_and, sound_sheet}
use Rattle.values_api.specs.Given.{HasRoom, IsWithinSheet, IsDone, IsDoneOnSheet, first_row, first_col, fits_by}
use Rattle.values_api.specs.Given.{value_uncovered}
use Rattle.values_api.specs.Ranges.{IsThere}
use Rattle.values_api.specs.Sheets.{formula_sheets}
use Rattle.values_api.specs.declared.given.Given.{Given}
use Rattle.values_api.specs.declared.writing.WrittenCells.{WrittenCells}
use Rattle.values_api.proofs.Ends.{end_small}
use Rattle.values_api.proofs.Kept.{stays_there}

pub first_before : (band : Band) (count : ℕ) → Within band count → 0 < count → first_line band < end_line band count
first_before Whole count within some = some
first_before (From start) count within some = within
first_before (Span start end) count within some = within.0

first_there : (band : Band) (count : ℕ) → Within band count → 0 < count → first_line band < count
first_there Whole count within some = some
first_there (From start) count within some = within
first_there (Span start end) count within some = omega (arith, within.0, within.1)

between : (one_cell : Bool) (first count end : ℕ) → first < count → first < end → end ≤ count
    → (first < cond one_cell count end) × (cond one_cell count end ≤ count)
between true first count end there before small = (there, omega arith)
between false first count end there before small = (before, small)

-- the same for an answer that isn't want of memory
pub unless : {A : Type 0} (P Q : Result A Rule → Type 0) → ((answer : Result A Rule) → P answer → Q answer)
    → (answer : Result A RuleOr) → IsUnlessNoMemory P answer → IsUnlessNoMemory Q answer
unless P Q same (Ok value) is = same (Ok value) is
unless P Q same (Err (refusal.Rule rule)) is = same (Err rule) is
unless P Q same (Err refusal.NoMemory) is = tt

some_none : (rule : Rule) → Some rule ≡ None → ⊥
some_none rule e = cc

-- a write that breaks no rule fits
pub fits_from : (many too_many fit : Bool) (limit : Option FormulaFault)
    → cond many (Some (PastLimit Filled))
    (cond too_many (Some (PastLimit Formulas)) (broken_by_formulas limit fit)) ≡ None
    → fit ≡ true
fits_from true too_many fit limit is = absurd (some_none (PastLimit Filled) is)
fits_from false true fit limit is = absurd (some_none (PastLimit Formulas) is)
fits_from false false fit (Some limit) is = absurd (some_none (rule_of_limit limit) is)
fits_from false false true None is = refl
fits_from false false false None is = absurd (some_none ValuesPastRange is)

-- a value that is passed over where a merge covers its cell
passed_over : {A : Type 0} (covered rows cols : Bool) (value : Option A)
    → cond covered None (cond (rows && cols) value None) ≡ cond (rows && cols && not covered) value None
passed_over true true true value = refl
passed_over true true false value = refl
passed_over true false cols value = refl
passed_over false true true value = refl
passed_over false true false value = refl
passed_over false false cols value = refl

fit_parts : (given : Given) → fits_by given ≡ true
    → (first_row given + rows_needed given.block.now ≤ given.end_row)
    × (first_col given + cols_needed given.block.now ≤ given.end_col)
fit_parts given fit =
    let parts = and_parts (nat_le (first_row given + rows_needed given.block.now) given.end_row)
    (nat_le (first_col given + cols_needed given.block.now) given.end_col) fit in (
      leb-true (first_row given + rows_needed given.block.now) given.end_row parts.0,
      leb-true (first_col given + cols_needed given.block.now) given.end_col parts.1,
    )

-- the values for the area, as far as the ends
abbrev pub given_as : Global → Bor Area → Bor Block → ℕ × ℕ → Given
given_as alloc area block ends =
    record { alloc = alloc; area = area; block = block; end_row = ends.0; end_col = ends.1 }

module _ (given : Given) (one_cell : Bool) (book : PlaceBook) where
  abbrev area : Area
  area = given.area.now

  abbrev Found : (PlaceSheet → Type 0) → Type 0
  Found P = IsSomeAnd (place_sheet_with area.sheet book.sheets) P

  -- the ends are those of the area's sheet
  abbrev AreEnds : PlaceSheet → Type 0
  AreEnds sheet =
      ◌≡◌ {A = ℕ × ℕ} (given.end_row, given.end_col) (end_row one_cell area sheet, end_col one_cell area sheet)

  module _ (sound : IsSound book) (there : IsThere book.sheets area) (ends : Found AreEnds) where
    record HasSheet : Type 0 where
      pub sheet : PlaceSheet
      pub found : place_sheet_with area.sheet book.sheets ≡ Some sheet
      pub within : AreaWithin area sheet.table.rows sheet.table.cols
      pub own : IsSheetSound book.sheets sheet
      pub are : AreEnds sheet

    has_sheet : HasSheet
    has_sheet =
        let (sheet, is, within) = some_and (λ (sheet : PlaceSheet). AreaWithin area sheet.table.rows sheet.table.cols)
        (place_sheet_with area.sheet book.sheets) there in
        record {
          sheet = sheet;
          found = is;
          within = within;
          own = sound_sheet book sound area.sheet sheet is;
          are = subst (λ found. IsSomeAnd found AreEnds) is ends;
        }

    abbrev sheet : PlaceSheet
    sheet = has_sheet.sheet

    rows_between : (first_row given < end_row one_cell area sheet) × (end_row one_cell area sheet ≤ sheet.table.rows)
    rows_between =
        between one_cell (first_row given) sheet.table.rows (end_line area.rows sheet.table.rows)
        (first_there area.rows sheet.table.rows has_sheet.within.0 has_sheet.own.rows.0)
        (first_before area.rows sheet.table.rows has_sheet.within.0 has_sheet.own.rows.0)
        (end_small area.rows sheet.table.rows has_sheet.within.0)

    cols_between : (first_col given < end_col one_cell area sheet) × (end_col one_cell area sheet ≤ sheet.table.cols)
    cols_between =
        between one_cell (first_col given) sheet.table.cols (end_line area.cols sheet.table.cols)
        (first_there area.cols sheet.table.cols has_sheet.within.1 has_sheet.own.cols.0)
        (first_before area.cols sheet.table.cols has_sheet.within.1 has_sheet.own.cols.0)
        (end_small area.cols sheet.table.cols has_sheet.within.1)

    row_is : given.end_row ≡ end_row one_cell area sheet
    row_is = ap (λ (p : ℕ × ℕ). p.0) has_sheet.are

    col_is : given.end_col ≡ end_col one_cell area sheet
    col_is = ap (λ (p : ℕ × ℕ). p.1) has_sheet.are

    pub has_room : HasRoom given
    has_room =
        let by_rows = rows_between in
        let by_cols = cols_between in
        let most_rows = has_sheet.own.rows.1 in
        let most_cols = has_sheet.own.cols.1 in
        record {
          row = omega (arith, by_rows.0, row_is);
          col = omega (arith, by_cols.0, col_is);
          rows = omega (arith, by_rows.1, row_is, most_rows);
          cols = omega (arith, by_cols.1, col_is, most_cols);
        }

    pub within_sheet : IsWithinSheet book.sheets given
    within_sheet =
        let by_rows = rows_between in
        let by_cols = cols_between in
        let ends : (given.end_row ≤ sheet.table.rows) × (given.end_col ≤ sheet.table.cols) =
        (omega (arith, by_rows.1, row_is), omega (arith, by_cols.1, col_is)) in
        subst (λ found. IsSomeAnd found (λ (one : PlaceSheet). (given.end_row ≤ one.table.rows)
        × (given.end_col ≤ one.table.cols))) (sym has_sheet.found) ends

    -- which values are written, and whether they fit, by the ends
    abbrev values_to : ℕ × ℕ → ℕ → ℕ → Option Input
    values_to ends row col =
        cond (lies_in (first_row given) ends.0 row && lies_in (first_col given) ends.1 col
        && not (is_covered sheet.merges row col))
        (given_value (input_at given.block.now (row - first_row given) (col - first_col given))) None

    abbrev fits_to : ℕ × ℕ → Bool
    fits_to ends =
        nat_le (first_row given + rows_needed given.block.now) ends.0
        && nat_le (first_col given + cols_needed given.block.now) ends.1

    abbrev IsAnswerTo : PlaceBook → Result WrittenCells Rule → (ℕ → ℕ → Option Entry) → Option FormulaFault → ℕ
        × ℕ → Type 0
    IsAnswerTo after answer entries limit ends =
        AreEntries (formula_sheets book.sheets) area.sheet (values_to ends) entries
        × MatchResult answer
        (λ done. (broken_by_write limit (fits_to ends) after ≡ None)
        × IsWritten area given.block.now (values_to ends) done)
        (λ rule. broken_by_write limit (fits_to ends) after ≡ Some rule)

    values_are : value_uncovered sheet.merges given ≡ values_to (given.end_row, given.end_col)
    values_are = fun_ext (λ row. fun_ext (λ col.
        passed_over (is_covered sheet.merges row col) (lies_in (first_row given) given.end_row row)
        (lies_in (first_col given) given.end_col col)
        (given_value (input_at given.block.now (row - first_row given) (col - first_col given)))))

    -- these are the values that are written to the area
    pub written_is : Found (λ sheet. value_uncovered sheet.merges given ≡ written one_cell area given.block.now sheet)
    written_is =
        subst (λ found. IsSomeAnd found
        (λ sheet. value_uncovered sheet.merges given ≡ written one_cell area given.block.now sheet))
        (sym has_sheet.found) (values_are ∙ ap values_to has_sheet.are)

    write_done : (after : PlaceBook) (answer : Result WrittenCells Rule)
        → IsDone given (value_uncovered sheet.merges given) book after answer
        → IsWrite one_cell area given.block.now sheet book after answer
    write_done after answer is =
        let done = subst (λ values. IsDone given values book after answer) values_are is in
        let now : IsAnswerTo after answer done.put.entries done.limit (given.end_row, given.end_col) =
        (done.put.entered, done.answered) in
        let both : IsAnswerTo after answer done.put.entries done.limit
        (end_row one_cell area sheet, end_col one_cell area sheet) =
        subst (IsAnswerTo after answer done.put.entries done.limit) has_sheet.are now in
        record {
          entries = done.put.entries;
          limit = done.limit;
          entered = both.0;
          updated = done.put.updated;
          first = done.put.first;
          answered = both.1;
        }

    own_done : (after : PlaceBook) (answer : Result WrittenCells RuleOr) → IsDoneOnSheet given book after answer
        → IsUnlessNoMemory (IsDone given (value_uncovered sheet.merges given) book after) answer
    own_done after answer is =
        subst (λ found. IsSomeAnd found (λ (one : PlaceSheet).
        IsUnlessNoMemory (IsDone given (value_uncovered one.merges given) book after) answer)) has_sheet.found is

    pub is_write : (after : PlaceBook) (answer : Result WrittenCells RuleOr) → IsDoneOnSheet given book after answer
        → Found (λ sheet. IsUnlessNoMemory (IsWrite one_cell area given.block.now sheet book after) answer)
    is_write after answer is =
        subst (λ found. IsSomeAnd found
        (λ sheet. IsUnlessNoMemory (IsWrite one_cell area given.block.now sheet book after) answer))
        (sym has_sheet.found)
        (unless (IsDone given (value_uncovered sheet.merges given) book after)
        (IsWrite one_cell area given.block.now sheet book after) (write_done after) answer (own_done after answer is))

    -- the rectangle of what is written is on the sheet
    was_there : (after : PlaceBook) (answer : Result WrittenCells RuleOr)
        → IsUnlessNoMemory (IsDone given (value_uncovered sheet.merges given) book after) answer
        → IfOk answer (λ written. IsThere book.sheets written.area)
    was_there after (Ok written) is =
        let fit : fits_by given ≡ true =
        fits_from (nat_lt most_stored (filled_of after.sheets)) (nat_lt most_formulas (formulas_of after.sheets))
        (fits_by given) is.limit is.answered.0 in
        let parts = fit_parts given fit in
        let row = parts.0 in
        let col = parts.1 in
        let by_rows = rows_between in
        let by_cols = cols_between in
        let room = has_room in
        let inside : AreaWithin (area_written area given.block.now) sheet.table.rows sheet.table.cols = (
          (omega arith, omega (arith, row, room.row, by_rows.1, row_is)),
          (omega arith, omega (arith, col, room.col, by_cols.1, col_is)),
        ) in
        subst (IsThere book.sheets) (sym is.answered.1.area_is)
        (subst (λ found. IsSomeAnd found (λ (one : PlaceSheet). AreaWithin (area_written area given.block.now)
        one.table.rows one.table.cols)) (sym has_sheet.found) inside)
    was_there after (Err (refusal.Rule rule)) is = tt
    was_there after (Err refusal.NoMemory) is = tt

    pub written_there : (after : PlaceBook) (answer : Result WrittenCells RuleOr)
        → IsDoneOnSheet given book after answer
        → IfOk answer (λ written. IsThere after.sheets written.area)
    written_there after (Ok written) is =
        let done = own_done after (Ok written) is in
        stays_there area.sheet (contents_of done.put.entries) written.area book.sheets after.sheets
        done.put.updated.places.sheets (was_there after (Ok written) done)
    written_there after (Err (refusal.Rule rule)) is = tt
    written_there after (Err refusal.NoMemory) is = tt
