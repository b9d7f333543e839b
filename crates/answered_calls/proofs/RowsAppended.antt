-- appendCells has an answer: rows are written behind the last one that holds a cell, where missing rows are inserted.
use Rattle.std.proofs.Common.{◌≡◌, ℕ, zero, suc, ◌<◌, ◌≤◌, Bool, true, false, List, [], ◌∷◌, inl, inr, refl, sym, subst, cond, arith}
use Rattle.std.specs.Prelude.{◌==◌, Option, Some, None, MatchOption, Ok, Err}
use Rattle.std.proofs.lemmas.Bool.{cases_eq, false≢true}
use Rattle.cell_value.specs.declared.cell.Block.{Block}
use Rattle.grid_range.specs.declared.axis.Axis.TheVariants.{Rows}
use Rattle.grid_range.specs.declared.change.Change.TheVariants.{Insert}
use Rattle.formula_reader.specs.Reads.{HasReading}
use Rattle.cell_store.specs.Table.{HasItemsInside, Table}
use Rattle.world_model.specs.Book.{PlaceBook}
use Rattle.world_model.specs.BookChange.{AreChanges, BookChange}
use Rattle.world_model.specs.ChangingLaws.{ChangesInTurn, UpdatesAreChanges}
use Rattle.world_model.specs.Sheet.{PlaceSheet}
use Rattle.world_model.specs.Sound.{IsSound, place_sheet_with}
use Rattle.dimension_ops.specs.Broken.{first_broken}
use Rattle.dimension_ops.specs.Lines.{lines_broken}
use Rattle.dimension_ops.specs.declared.rule.Rule.{Rule}
use Rattle.dimension_ops.specs.declared.rule.Rule.TheVariants as rule
use Rattle.values_api.specs.Appends.{added_on}
use Rattle.values_api.specs.Blocks.{rows_needed}
use Rattle.values_api.specs.CellsUpdate.{CellsUpdate}
use Rattle.values_api.specs.Denials.{WriteCells}
use Rattle.values_api.specs.Rows.{IsRowBehind}
use Rattle.values_api.specs.Tables.{IsStored}
use Rattle.sheets_json.specs.declared.spreadsheet.Reply.TheVariants as reply
use Rattle.request_kinds.specs.AppendCells.{AreRowsAppended, AreRowsWrittenBy, IsAppendCells, UnlessNone, broken_by_rows, from_row, rows_missing}
use Rattle.values_api.specs.FoundLaws.{sound_sheet}
use Rattle.request_kinds.specs.Rows.{AreRowsPut}
use Rattle.request_kinds.specs.Telling.{UnlessBroken}
use Rattle.answered_calls.proofs.KnownReads.{ReadsWithin}
use Rattle.answered_calls.proofs.LinesInserted.{LinesInsert, changed_found}
use Rattle.batch_engine.specs.MadeLaws.{CannotBecome, some_unless_denied}
use Rattle.answered_calls.proofs.RangesKept.{IsKeptByRows}
use Rattle.answered_calls.proofs.RowsWritten.{some_put}

-- ---- the row behind the last one

-- numbers that are all below a bound have a least one
module _ (P : ℕ → Type 0) where
  record IsLeastBound (end : ℕ) : Type 0 where
    all : (at : ℕ) → P at → at < end
    least : (other : ℕ) → ((at : ℕ) → P at → at < other) → end ≤ other

  some_bound : (most : ℕ) → ((at : ℕ) → P at → at < most) → ¬ ((end : ℕ) → ¬ (IsLeastBound end))
  some_bound zero below none = none zero (record { all = below; least = λ other all. omega arith })
  some_bound (suc most) below none =
      let not_last : ¬ (P most) = λ last. none (suc most) (record {
        all = below;
        least = λ other all. let there = all most last in omega (arith, there);
      }) in
      some_bound most (λ at is. elim (cases_eq at most) [
        | inl same ↦ absurd (not_last (subst P same is))
        | inr apart ↦ let there = below at is in omega (arith, there, apart)
      ]) none

some_row_behind : {T : Type 0} (table : Table T) → HasItemsInside table
    → ¬ ((row : ℕ) → ¬ (IsRowBehind table row))
some_row_behind table inside none =
    some_bound (λ row. (col : ℕ) × IsStored table row col) table.rows
    (λ row has. (inside row has.0 has.1).0)
    (λ row is. none row (record {
      behind = λ r c stored. is.all r (c, stored);
      least = λ other all. is.least other (λ r has. all r has.0 has.1);
    }))

-- ---- the rows that are missing

-- the first changes are made and keep that, and the sheet is there then
record AreMade (Keeps : PlaceBook → PlaceBook → Type 0) (sheet : ℕ) (first : List BookChange)
    (before after : PlaceBook) : Type 0 where
  changes : AreChanges first before after
  keeps : Keeps before after
  own : PlaceSheet
  there : place_sheet_with sheet after.sheets ≡ Some own

some_count : (count : ℕ) → (count == 0) ≡ false → 0 < count
some_count zero is = absurd (false≢true (sym is))
some_count (suc count) is = omega arith

-- rows can be added where that breaks no rule
module _ (turns : ChangesInTurn) (insert : LinesInsert) (Keeps : PlaceBook → PlaceBook → Type 0)
    (kept : IsKeptByRows Keeps) (book : PlaceBook) (sound : IsSound book) (sheet : ℕ) (found : PlaceSheet)
    (there : place_sheet_with sheet book.sheets ≡ Some found) (count : ℕ) where
  added_if : (no : Bool) → (count == 0) ≡ no
      → cond no None (first_broken (lines_broken sheet Rows (Insert found.table.rows count) book.sheets)) ≡ None
      → (after : PlaceBook) × AreMade Keeps sheet
      (cond no [] (BookChange.LinesChanged sheet Rows (Insert found.table.rows count) ∷ [])) book after
  added_if true is unbroken = (
    book,
    record { changes = turns.none book; keeps = kept.same book book refl; own = found; there = there },
  )
  added_if false is unbroken =
      let (after, made) = insert book sound sheet found there Rows found.table.rows count (omega arith)
      (some_count count is) unbroken in
      let (own, still) = changed_found sheet Rows found.table.rows (Insert found.table.rows count) book after
      made.places found there in (
        after,
        record {
          changes = made.changes;
          keeps = kept.lines sheet Rows found.table.rows (Insert found.table.rows count) book after made.places;
          own = own;
          there = still;
        },
      )

  some_added : broken_by_rows sheet count found book.sheets ≡ None
      → (after : PlaceBook) × AreMade Keeps sheet (added_on sheet Rows found.table.rows count) book after
  some_added unbroken = added_if (count == 0) refl unbroken

-- ---- appendCells

module _ (reading : HasReading) (reads : ReadsWithin) (update : CellsUpdate) (changes : UpdatesAreChanges)
    (turns : ChangesInTurn) (insert : LinesInsert) (Keeps : PlaceBook → PlaceBook → Type 0)
    (kept : IsKeptByRows Keeps) (user : List ℕ) (book : PlaceBook) (sound : IsSound book) (rows : Block)
    (sheet : ℕ) where
  some_written_by : (own : PlaceSheet) (row : ℕ) (first : List BookChange) (between : PlaceBook)
      → AreChanges first book between → Keeps book between → place_sheet_with sheet between.sheets ≡ Some own
      → ¬ (CannotBecome (Keeps book) book (AreRowsWrittenBy user first rows book (from_row sheet row)))
  some_written_by own row first between changed keeps there none =
      some_unless_denied (Keeps book) user between book (WriteCells between.sheets true (from_row sheet row) rows)
      (AreRowsPut first rows true between (from_row sheet row))
      (some_put reading reads update changes turns Keeps kept book sound rows first true between changed keeps
      (from_row sheet row) own there (omega arith, omega arith))
      (λ told put can. none told (record { between = between; changed = changed; put = put }) can)

  module _ (found : PlaceSheet) (there : place_sheet_with sheet book.sheets ≡ Some found) where
    some_from : (row : ℕ) (broken : Option Rule)
        → broken_by_rows sheet (rows_missing row rows found) found book.sheets ≡ broken
        → ¬ (CannotBecome (Keeps book) book (UnlessBroken broken
        (AreRowsWrittenBy user (added_on sheet Rows found.table.rows (rows_missing row rows found)) rows book
        (from_row sheet row))))
    some_from row None is none =
        let (between, made) = some_added turns insert Keeps kept book sound sheet found there
        (rows_missing row rows found) is in
        some_written_by made.own row (added_on sheet Rows found.table.rows (rows_missing row rows found)) between
        made.changes made.keeps made.there none
    some_from row (Some broken) is none = none (Err broken) refl tt

    some_appended : ¬ (CannotBecome (Keeps book) book (AreRowsAppended user sheet rows book found))
    some_appended none =
        some_row_behind found.table (sound_sheet book sound sheet found there).inside (λ row behind.
        some_from row (broken_by_rows sheet (rows_missing row rows found) found book.sheets) refl
        (λ told written can. none told (record { row = row; behind = behind; written = written }) can))

    some_unless : (no : Bool)
        → ¬ (CannotBecome (Keeps book) book (UnlessNone no (AreRowsAppended user sheet rows book found)))
    some_unless true none = none (Ok (reply.Empty, [])) refl (book, turns.none book, kept.same book book refl)
    some_unless false none = some_appended none

  pub some_append_cells : ¬ (CannotBecome (Keeps book) book (IsAppendCells user sheet rows book))
  some_append_cells = by_sheet (place_sheet_with sheet book.sheets) refl
    where
      by_sheet : (found : Option PlaceSheet) → place_sheet_with sheet book.sheets ≡ found
          → ¬ (CannotBecome (Keeps book) book (λ told. MatchOption found (told ≡ Err rule.NoSheet)
          (λ found. UnlessNone (rows_needed rows == 0) (AreRowsAppended user sheet rows book found) told)))
      by_sheet None is none = none (Err rule.NoSheet) refl tt
      by_sheet (Some found) is none = some_unless found is (rows_needed rows == 0) none
