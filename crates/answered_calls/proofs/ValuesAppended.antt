-- An append of values has an answer: lines are added for them where that passes no limit, and they are written behind
-- the table that the range is in.
use Rattle.std.proofs.Common.{◌≡◌, ℕ, ◌≤◌, Bool, true, false, List, [], refl, sym, subst, cond, arith}
use Rattle.std.specs.Prelude.{Option, Some, None, Result, Ok, Err, OnOk, nat_lt}
use Rattle.std.proofs.lemmas.Bool.{ltb-false}
use Rattle.cell_value.specs.declared.cell.Block.{Block}
use Rattle.grid_range.specs.Band.{first_line}
use Rattle.grid_range.specs.declared.area.Area.{Area}
use Rattle.grid_range.specs.declared.axis.Axis.TheVariants.{Rows, Columns}
use Rattle.formula_reader.specs.Reads.{HasReading}
use Rattle.cell_store.specs.Table.{HasItemsInside}
use Rattle.world_model.specs.Book.{PlaceBook}
use Rattle.world_model.specs.BookChange.{AreChanges, BookChange}
use Rattle.world_model.specs.ChangingLaws.{ChangesInTurn, UpdatesAreChanges}
use Rattle.world_model.specs.Laws.{IdsFind, size_of}
use Rattle.world_model.specs.Sheet.{PlaceSheet}
use Rattle.world_model.specs.Sound.{IsSound, most_on, most_places, place_sheet_with}
use Rattle.world_model.specs.Updating.{SheetUpdated}
use Rattle.dimension_ops.specs.Broken.{first_passed}
use Rattle.dimension_ops.specs.Lines.{passes_size}
use Rattle.dimension_ops.specs.declared.rule.Limit.{Limit}
use Rattle.dimension_ops.specs.declared.rule.Limit.TheVariants as limit
use Rattle.dimension_ops.specs.declared.rule.Rule.{Rule}
use Rattle.dimension_ops.specs.declared.rule.Rule.TheVariants.{PastLimit}
use Rattle.values_api.specs.Answered.{ReadsAnswered}
use Rattle.values_api.specs.AppendLaws.{changes_with, lead_on, refused, written}
use Rattle.values_api.specs.Appending.{AreAdded, CanAdd}
use Rattle.values_api.specs.Appends.{IsAppend, IsAppendUnless, IsAppended, answer_with, cell_area, changes_of, limit_passed, lines_added, places_added, size_added, start_of}
use Rattle.values_api.specs.Blocks.{contents_of}
use Rattle.values_api.specs.CellsUpdate.{CellsUpdate}
use Rattle.values_api.specs.Denials.{IsWriteBy}
use Rattle.values_api.specs.RangeLaws.{LiesOn}
use Rattle.values_api.specs.Tables.{IsStored, IsTable, IsTableIn}
use Rattle.values_api.specs.declared.appending.Added.{Added}
use Rattle.values_api.specs.declared.table.Rectangle.{Rectangle}
use Rattle.values_api.specs.declared.writing.WrittenCells.{WrittenCells}
use Rattle.json_shapes.specs.Reading.{Reading}
use Rattle.sheets_json.specs.declared.call.ValueRange.{ValueRange}
use Rattle.values_api.specs.FoundLaws.{sheet_has_id, some_and, sound_sheet}
use Rattle.batch_engine.specs.Ranges.{IsTarget}
use Rattle.batch_engine.specs.Values.{IsAppendOn, IsAppended as IsRangeAppended, appended_of, rule_of}
use Rattle.answered_calls.proofs.KnownReads.{ReadsWithin}
use Rattle.answered_calls.proofs.LinesInserted.{still_found}
use Rattle.batch_engine.specs.MadeLaws.{CanBeMade, CanTellNone, no_on_range}
use Rattle.answered_calls.proofs.RangeEnds.{some_target, target_lies}
use Rattle.answered_calls.proofs.Tabled.{some_table}
use Rattle.answered_calls.proofs.Writes.{some_write_by}

-- lines can be added on both axes where there is room for them
abbrev pub LinesAdd : Type 0
LinesAdd = (book : PlaceBook) → IsSound book → (id : ℕ) (added : Added) (own : PlaceSheet)
    → place_sheet_with id book.sheets ≡ Some own → CanAdd id added own book.sheets
    → (after : PlaceBook) × AreAdded id added own book after

-- ---- limits

some_none : (passed : Limit) → Some passed ≡ None → ⊥
some_none passed e = cc

tests_of : (rows cols cells : Bool)
    → cond rows (Some limit.Rows) (cond cols (Some limit.Columns) (cond cells (Some limit.Cells) None)) ≡ None
    → (rows ≡ false) × (cols ≡ false) × (cells ≡ false)
tests_of false false false is = (refl, refl, refl)
tests_of true cols cells is = absurd (some_none limit.Rows is)
tests_of false true cells is = absurd (some_none limit.Columns is)
tests_of false false true is = absurd (some_none limit.Cells is)

within_all : (size : ℕ × ℕ) (places : ℕ) → first_passed (passes_size size places) ≡ None
    → (size.0 ≤ most_on Rows) × (size.1 ≤ most_on Columns) × (places ≤ most_places)
within_all size places none =
    let tests = tests_of (nat_lt (most_on Rows) size.0) (nat_lt (most_on Columns) size.1) (nat_lt most_places places)
    none in (
      ltb-false (most_on Rows) size.0 tests.0,
      ltb-false (most_on Columns) size.1 tests.1,
      ltb-false most_places places tests.2,
    )

-- ---- where lines are added

row_before_end : (insert : Bool) (start : ℕ × ℕ) (block : Block) (sheet : PlaceSheet) → start.0 ≤ sheet.table.rows
    → (lines_added insert start block sheet).row ≤ sheet.table.rows
row_before_end true start block sheet row = row
row_before_end false start block sheet row = omega arith

-- a table ends in its sheet
ends_inside : (sheet : PlaceSheet) → HasItemsInside sheet.table → (row col : ℕ) → IsStored sheet.table row col
    → (table : Rectangle) → IsTable (IsStored sheet.table) row col table → table.bottom ≤ sheet.table.rows
ends_inside sheet inside row col stored table is =
    (is.least (record { top = 0; bottom = sheet.table.rows; left = 0; right = sheet.table.cols })
    (record {
      top = omega arith;
      bottom = (inside row col stored).0;
      left = omega arith;
      right = (inside row col stored).1;
    })
    (λ r c other near. record {
      top = omega arith;
      bottom = (inside r c other).0;
      left = omega arith;
      right = (inside r c other).1;
    })).bottom

start_inside : (area : Area) (sheet : PlaceSheet) → HasItemsInside sheet.table
    → first_line area.rows ≤ sheet.table.rows → (table : Option Rectangle) → IsTableIn area sheet.table table
    → (start_of table area).0 ≤ sheet.table.rows
start_inside area sheet inside first None found = first
start_inside area sheet inside first (Some table) (row, col, last, is) =
    ends_inside sheet inside row col last.stored table is

-- ---- appends

module _ (reading : HasReading) (reads : ReadsWithin) (update : CellsUpdate) (changes : UpdatesAreChanges)
    (turns : ChangesInTurn) (add : LinesAdd) (user : List ℕ) (book : PlaceBook) (sound : IsSound book)
    (insert : Bool) (block : Block) where
  module _ (area : Area) (sheet : PlaceSheet) (there : place_sheet_with area.sheet book.sheets ≡ Some sheet)
      (first : first_line area.rows ≤ sheet.table.rows)
      (none : CanTellNone book (IsAppendOn user book insert block area sheet)) (table : Option Rectangle)
      (found : IsTableIn area sheet.table table) where
    abbrev start : ℕ × ℕ
    start = start_of table area

    abbrev added : Added
    added = lines_added insert start block sheet

    abbrev passed : Option Limit
    passed = limit_passed added sheet book.sheets

    -- what is done, or the limit that the lines pass
    abbrev IsAppendBy : Option Limit → List BookChange → PlaceBook → Result (Option Area × WrittenCells) Rule → Type 0
    IsAppendBy limit made after answer =
        IsAppendUnless limit (IsAppended user area.sheet added start block table made book after answer) made answer

    abbrev append_with : (made : List BookChange) (after : PlaceBook)
        (answer : Result (Option Area × WrittenCells) Rule) (limit : Option Limit) → passed ≡ limit
        → IsAppendBy limit made after answer → OnOk answer (AreChanges made book after)
        → IsAppend user insert area block sheet book after answer
    append_with made after answer limit is done are = record {
      table = table;
      found = found;
      changes = made;
      appended = subst (λ one. IsAppendBy one made after answer) (sym is) done;
      made = are;
    }

    past_limit : (limit : Limit) → ¬ (passed ≡ Some limit)
    past_limit limit is = none (Err (PastLimit limit)) (record {
      after = book;
      appended = Err (PastLimit limit);
      appends = append_with [] book (Err (PastLimit limit)) (Some limit) is (refl, refl) tt;
      tells = refl;
    }) tt

    can_add : passed ≡ None → CanAdd area.sheet added sheet book.sheets
    can_add is =
        let within = within_all (size_added added sheet) (places_added sheet.id added book.sheets) is in record {
          row = row_before_end insert start block sheet
              (start_inside area sheet (sound_sheet book sound area.sheet sheet there).inside first table found);
          col = omega arith;
          rows = within.0;
          cols = within.1;
          places = subst (λ id. places_added id added book.sheets ≤ most_places)
              (sheet_has_id area.sheet book.sheets sheet there) within.2;
        }

    module _ (is : passed ≡ None) (between : PlaceBook) (lines : AreAdded area.sheet added sheet book between)
        (own : PlaceSheet) (own_there : place_sheet_with area.sheet between.sheets ≡ Some own) (after : PlaceBook) where
      abbrev IsBy : Result WrittenCells Rule → Type 0
      IsBy told = IsWriteBy user true (cell_area area.sheet start) block own between after told

      abbrev made_by : {told : Result WrittenCells Rule} → IsBy told → List BookChange
      made_by write = changes_with area.sheet added (contents_of write.is.entries)

      are_made : (told : Result WrittenCells Rule) (write : IsBy told) → AreChanges (made_by write) book after
      are_made told write =
          lead_on user area.sheet added start block book between after lines.changes own turns changes told write

      not_written : (told : Result WrittenCells Rule) → ¬ (IsBy told)
      not_written (Ok counts) write =
          let (last, last_there) = still_found (SheetUpdated area.sheet (contents_of write.is.entries))
          (λ one other same. same.id) area.sheet between.sheets after.sheets write.is.updated.places.sheets own
          own_there in
          none (Ok (appended_of after last (answer_with area.sheet table counts), made_by write)) (record {
            after = after;
            appended = Ok (answer_with area.sheet table counts);
            appends = append_with (made_by write) after (Ok (answer_with area.sheet table counts)) None is
                (written user area.sheet added start block book between after lines.changes own table own_there counts
                write) (are_made (Ok counts) write);
            tells = (last, last_there, refl);
          }) (after, are_made (Ok counts) write)
      not_written (Err broken) write =
          none (Err broken) (record {
            after = after;
            appended = Err broken;
            appends = append_with (made_by write) after (Err broken) None is
                (refused user area.sheet added start block book between after lines.changes own table own_there broken
                write) tt;
            tells = refl;
          }) tt

    not_within : ¬ (passed ≡ None)
    not_within is =
        let (between, lines) = add book sound area.sheet added sheet there (can_add is) in
        let (own, own_there, size) = some_and (λ (one : PlaceSheet). size_of one ≡ size_added added sheet)
        (place_sheet_with area.sheet between.sheets) lines.size in
        some_write_by reading reads update between
        (turns.sound (changes_of area.sheet added) book between sound lines.changes) true (cell_area area.sheet start)
        block own own_there (omega arith, omega arith) user (not_written is between lines own own_there)

    no_append : ⊥
    no_append = by_limit passed refl
      where
        by_limit : (limit : Option Limit) → ¬ (passed ≡ limit)
        by_limit None is = not_within is
        by_limit (Some limit) is = past_limit limit is

  pub some_append : (area : Area) (sheet : PlaceSheet) → place_sheet_with area.sheet book.sheets ≡ Some sheet
      → first_line area.rows ≤ sheet.table.rows → ¬ (CanTellNone book (IsAppendOn user book insert block area sheet))
  some_append area sheet there first none =
      some_table area sheet.table (sound_sheet book sound area.sheet sheet there).inside
      (no_append area sheet there first none)

pub some_appended : ReadsAnswered → HasReading → ReadsWithin → IdsFind → CellsUpdate → UpdatesAreChanges → ChangesInTurn
    → LinesAdd → (user range : List ℕ) (insert : Bool) (book : PlaceBook) → IsSound book → (given : Reading ValueRange)
    → ¬ (CanTellNone book (IsRangeAppended user range insert book given))
some_appended answered reading reads ids update changes turns add user range insert book sound (Ok values) none =
    no_on_range (IsTarget range values.range book) book.sheets
    (λ found. IsAppendOn user book insert values.block found.0) (CanBeMade book) (λ found. LiesOn found.0)
    (some_target ids book sound answered range values.range) (target_lies ids book sound range values.range)
    (λ broken. tt)
    (λ found sheet there lies. some_append reading reads update changes turns add user book sound insert values.block
    found.0 sheet there lies.1) none
some_appended answered reading reads ids update changes turns add user range insert book sound (Err shape) none =
    none (Err (rule_of shape)) refl tt
