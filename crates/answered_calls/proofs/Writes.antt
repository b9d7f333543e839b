-- A write of values to an area of a sheet has an answer: it can't be that there is none.
use Rattle.std.proofs.Common.{◌≡◌, ℕ, ◌-◌, ◌<◌, ◌≤◌, Bool, true, false, ◌&&◌, not, List, refl, ap, sym, subst, cond, arith}
use Rattle.std.specs.Prelude.{Option, Some, None, nat_le, nat_lt, unwrap_or, IfSome, Result, Ok, Err}
use Rattle.std.specs.List.{AllZip}
use Rattle.std.specs.Option.{IsSome, option_map}
use Rattle.std.proofs.lemmas.Bool.{and_parts, false≢true, ltb-true}
use Rattle.cell_value.specs.declared.cell.Block.{Block}
use Rattle.cell_value.specs.declared.entered.Input.{Input}
use Rattle.grid_range.specs.Band.{first_line}
use Rattle.grid_range.specs.declared.area.Area.{Area}
use Rattle.merge_ranges.specs.Merges.{is_covered}
use Rattle.formula_reader.specs.Reads.{HasReading}
use Rattle.formula_reader.specs.declared.fault.FormulaFault.{FormulaFault}
use Rattle.world_model.specs.Book.{PlaceBook}
use Rattle.world_model.specs.Sheet.{PlaceSheet}
use Rattle.world_model.specs.Sound.{IsContentWithin, IsSound, place_sheet_with}
use Rattle.dimension_ops.specs.declared.rule.Rule.{Rule}
use Rattle.values_api.specs.Blocks.{Entry, IsEntryOf, IsFirstPassed, IsWrite, broken_by_write, contents_of, end_col, end_row, fits, given_value, input_at, lies_in, written}
use Rattle.values_api.specs.CellsUpdate.{CellsUpdate}
use Rattle.values_api.specs.DenialLaws.{some_denial}
use Rattle.values_api.specs.Denials.{IsWriteBy, WriteCells, unless_denied}
use Rattle.values_api.specs.Sheets.{formula_sheets}
use Rattle.values_api.specs.Updates.{AreUpdated}
use Rattle.values_api.specs.declared.writing.WrittenCells.{WrittenCells}
use Rattle.answered_calls.proofs.Counted.{some_counts}
use Rattle.answered_calls.proofs.Entered.{IsEntered, IsEnteredAs, entered_along, entered_if, entry_along, some_lines}
use Rattle.answered_calls.proofs.KnownReads.{ReadsWithin}
use Rattle.answered_calls.proofs.Passed.{some_first}

-- values go no further than the sheet does
abbrev pub AreEndsWithin : Bool → Area → PlaceSheet → Type 0
AreEndsWithin one_cell area sheet =
    (end_row one_cell area sheet ≤ sheet.table.rows) × (end_col one_cell area sheet ≤ sheet.table.cols)

-- ---- what is written to a place

all_true : (rows cols uncovered : Bool) → (rows && cols && uncovered) ≡ true → (rows ≡ true) × (cols ≡ true)
all_true true true uncovered is = (refl, refl)
all_true true false uncovered is = absurd (false≢true is)
all_true false cols uncovered is = absurd (false≢true is)

some_if : {A : Type 0} (b : Bool) (x : Option A) → IsSome (cond b x None) → b ≡ true
some_if true x some = refl
some_if false x some = absurd (false≢true some)

before_end : (first end line : ℕ) → lies_in first end line ≡ true → line < end
before_end first end line lies = ltb-true line end (and_parts (nat_le first line) (nat_lt line end) lies).1

content_within : (sheets : List PlaceSheet) (entry : Option Entry)
    → IfSome entry (λ one. IfSome one.content (IsContentWithin sheets))
    → IfSome (option_map (λ one. one.content) entry) (λ held. IfSome held (IsContentWithin sheets))
content_within sheets None within = tt
content_within sheets (Some entry) within = within

-- ---- a write

module _ (reading : HasReading) (reads : ReadsWithin) (update : CellsUpdate) (book : PlaceBook) (sound : IsSound book)
    (one_cell : Bool) (area : Area) (block : Block) (sheet : PlaceSheet)
    (there : place_sheet_with area.sheet book.sheets ≡ Some sheet) (ends : AreEndsWithin one_cell area sheet) where
  abbrev values : ℕ → ℕ → Option Input
  values = written one_cell area block sheet

  abbrev is_target : ℕ → ℕ → Bool
  is_target row col = lies_in (first_line area.rows) (end_row one_cell area sheet) row
      && lies_in (first_line area.cols) (end_col one_cell area sheet) col && not (is_covered sheet.merges row col)

  values_within : (row col : ℕ) → IsSome (values row col) → (row < sheet.table.rows) × (col < sheet.table.cols)
  values_within row col some =
      let (lies, lies_beyond) = all_true (lies_in (first_line area.rows) (end_row one_cell area sheet) row)
      (lies_in (first_line area.cols) (end_col one_cell area sheet) col) (not (is_covered sheet.merges row col))
      (some_if (is_target row col)
      (given_value (input_at block (row - first_line area.rows) (col - first_line area.cols))) some) in
      let before = before_end (first_line area.rows) (end_row one_cell area sheet) row lies in
      let beyond = before_end (first_line area.cols) (end_col one_cell area sheet) col lies_beyond in
      (omega (arith, before, ends.0), omega (arith, beyond, ends.1))

  module _ (table : List (List (Option Entry)))
      (are : AllZip (AllZip (IsEnteredAs book area.sheet)) block.values table) where
    -- the entry of the value that is for a place, and of the one that is written there
    abbrev entry_at : ℕ → ℕ → Option Entry
    entry_at row col =
        entry_along book area.sheet block.columns_first table (row - first_line area.rows)
        (col - first_line area.cols)

    abbrev entries : ℕ → ℕ → Option Entry
    entries row col = cond (is_target row col) (entry_at row col) None

    all_entered : (row col : ℕ) → IsEntered book area.sheet (values row col) (entries row col)
    all_entered row col =
        entered_if book area.sheet (is_target row col)
        (input_at block (row - first_line area.rows) (col - first_line area.cols))
        (entry_at row col)
        (entered_along book area.sheet block.columns_first block.values table are (row - first_line area.rows)
        (col - first_line area.cols))

    contents_within : (row col : ℕ)
        → IfSome (contents_of entries row col) (λ held. IfSome held (IsContentWithin book.sheets))
    contents_within row col = content_within book.sheets (entries row col) (all_entered row col).within

    nothing_beside : (row col : ℕ) → ¬ ((row < sheet.table.rows) × (col < sheet.table.cols)) → (value : Option Input)
        → values row col ≡ value → (entry : Option Entry)
        → IsEntryOf (formula_sheets book.sheets) area.sheet value entry
        → unwrap_or (option_map (λ (one : Entry). one.content) entry) None ≡ None
    nothing_beside row col beside None value_is entry is =
        ap (λ (one : Option Entry). unwrap_or (option_map (λ (one : Entry). one.content) one) None) is
    nothing_beside row col beside (Some value) value_is entry is =
        absurd (beside (values_within row col (subst IsSome (sym value_is) refl)))

    made : (after : PlaceBook) × AreUpdated area.sheet (contents_of entries) book after
    made =
        update book sound area.sheet sheet there (contents_of entries) contents_within
        (λ row col beside.
        nothing_beside row col beside (values row col) refl (entries row col) (all_entered row col).is)

  -- no write is possible
  abbrev HasNoWrite : Type 0
  HasNoWrite = (after : PlaceBook) (answer : Result WrittenCells Rule)
      → ¬ (IsWrite one_cell area block sheet book after answer)

  write_judged : HasNoWrite → (table : List (List (Option Entry)))
      (are : AllZip (AllZip (IsEnteredAs book area.sheet)) block.values table) (limit : Option FormulaFault)
      → IsFirstPassed (entries table are) limit → (after : PlaceBook)
      → AreUpdated area.sheet (contents_of (entries table are)) book after → (broken : Option Rule)
      → ¬ (broken_by_write limit (fits one_cell area block sheet) after ≡ broken)
  write_judged none table are limit first after updated None is =
      some_counts area block values sheet.table.rows sheet.table.cols values_within (λ counts counted.
      none after (Ok counts) (record {
        entries = entries table are;
        limit = limit;
        entered = λ row col. (all_entered table are row col).is;
        updated = updated;
        first = first;
        answered = (is, counted);
      }))
  write_judged none table are limit first after updated (Some rule) is =
      none after (Err rule) (record {
        entries = entries table are;
        limit = limit;
        entered = λ row col. (all_entered table are row col).is;
        updated = updated;
        first = first;
        answered = is;
      })

  pub some_write : ¬ HasNoWrite
  some_write none =
      some_lines book area.sheet reading reads sound sheet there block.values (λ table are.
      some_first (entries table are) (λ limit first.
      let (after, updated) = made table are in
      write_judged none table are limit first after updated
      (broken_by_write limit (fits one_cell area block sheet) after) refl))

  -- the same of a user's
  pub some_write_by : (user : List ℕ) → ¬ ((after : PlaceBook) (answer : Result WrittenCells Rule)
      → ¬ (IsWriteBy user one_cell area block sheet book after answer))
  some_write_by user none = some_write (λ after done is.
      some_denial user book (WriteCells book.sheets one_cell area block) (λ denied is_denied.
      none after (unless_denied denied done) (record {
        denied = denied;
        is_denied = is_denied;
        done = done;
        is = is;
        told_is = refl;
      })))
