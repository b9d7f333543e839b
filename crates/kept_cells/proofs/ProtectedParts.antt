-- What a user does leaves each cell that is protected from him, part by part.
use Rattle.std.proofs.Common.{◌≡◌, ℕ, refl, sym, ap, subst, ◌∙◌, List, [], ◌∷◌, ◌++◌, Bool, true, false, append-nil}
use Rattle.std.specs.Prelude.{None, Option, Some, flat_map, ◌==◌, MatchOption, Ok, Err}
use Rattle.std.proofs.lemmas.Grind.{flat_map-append}
use Rattle.std.proofs.lemmas.List.Sums.{fold-append}
use Rattle.cell_value.specs.declared.cell.Block.{Block}
use Rattle.grid_range.specs.declared.area.Area.{Area}
use Rattle.grid_range.specs.declared.axis.Axis.TheVariants.{Rows}
use Rattle.protection.specs.Denial.{Cells, DeniesOne}
use Rattle.world_model.specs.Book.{PlaceBook}
use Rattle.world_model.specs.BookChange.{AreChanges, BookChange, Named, NamedStandsFor, changed_by, changed_by_all}
use Rattle.world_model.specs.Leaving.{HasCell, LeaveInTurn as AreLeft, LeftCellsStay}
use Rattle.world_model.specs.Protected.{IsProtected}
use Rattle.world_model.specs.ProtectionLaws.{DenialsByName}
use Rattle.world_model.specs.Sheet.{PlaceSheet}
use Rattle.world_model.specs.Sound.{place_sheet_with}
use Rattle.dimension_ops.specs.declared.rule.Rule.{Rule}
use Rattle.dimension_ops.specs.declared.rule.Rule.TheVariants as rule
use Rattle.values_api.specs.Appends.{IsAppended as IsValuesAppended, added_on, cell_area, changes_of}
use Rattle.values_api.specs.Blocks.{contents_of, rows_needed}
use Rattle.values_api.specs.Denials.{IsDenial, IsWriteBy, WriteCells}
use Rattle.values_api.specs.declared.appending.Added.{Added}
use Rattle.values_api.specs.declared.table.Rectangle.{Rectangle}
use Rattle.values_api.specs.declared.writing.WrittenCells.{WrittenCells}
use Rattle.json_requests.specs.declared.request.Request.{Request}
use Rattle.json_requests.specs.declared.request.Request.TheVariants as request
use Rattle.sheets_json.specs.declared.spreadsheet.Reply.{Reply}
use Rattle.sheets_json.specs.declared.spreadsheet.Reply.TheVariants as reply_of
use Rattle.request_kinds.specs.AppendCells.{AreRowsAppended, AreRowsWrittenBy, IsAppendCells, UnlessNone, broken_by_rows, from_row, rows_missing}
use Rattle.request_kinds.specs.Telling.{UnlessBroken, cells_updated}
use Rattle.request_kinds.specs.Requests.{IsDoneAsAsked, IsDoneByKind}
use Rattle.request_kinds.specs.Rows.{AreRowsPut}
use Rattle.request_kinds.specs.Touching.{TouchedCells}
use Rattle.request_kinds.specs.TellingLaws.{as_reply, done_of, match_changes, match_told, none_denied, reply_apart, reply_changes}
use Rattle.kept_cells.specs.Staying.{IsNamedBy, LeaveInTurn, LeavesOthers, LeavesProtectedInParts}
use Rattle.kept_cells.specs.Untouched.{UntouchedCellsKeep, appends_rows}
use Rattle.kept_cells.proofs.UntouchedKinds.{Leave, stay}
use Rattle.kept_cells.proofs.UntouchedRows.{added_leave, lines_added_leave, write_leave}

-- ---- parts

abbrev together : List (List BookChange) → List BookChange
together parts = flat_map (λ part. part) parts

-- parts behind others
turns_joined : (user : List ℕ) (first later : List (List BookChange)) (named : Named) → LeaveInTurn user named first
    → LeaveInTurn user (changed_by_all named (together first)) later → LeaveInTurn user named (first ++ later)
turns_joined user [] later named leave leave' = leave'
turns_joined user (made ∷ first) later named (leaves, leave) leave' = (
  leaves,
  turns_joined user first later (changed_by_all named made) leave
      (subst (λ now. LeaveInTurn user now later) (fold-append changed_by named made (together first)) leave'),
)

pub no_parts : (user : List ℕ) (book : PlaceBook) → LeavesProtectedInParts user book []
no_parts user book = record { parts = []; all = refl; each = λ named stands. tt }

pub parts_joined : (user : List ℕ) (book between : PlaceBook) (made others : List BookChange)
    → AreChanges made book between → LeavesProtectedInParts user book made → LeavesProtectedInParts user between others
    → LeavesProtectedInParts user book (made ++ others)
parts_joined user book between made others are one other = record {
  parts = one.parts ++ other.parts;
  all = ap (λ made. made ++ others) one.all ∙ ap (λ others. together one.parts ++ others) other.all
      ∙ sym (flat_map-append (λ part. part) one.parts other.parts);
  each = λ named stands. turns_joined user one.parts other.parts named (one.each named stands)
      (other.each (changed_by_all named (together one.parts))
      (subst (λ all. NamedStandsFor between (changed_by_all named all)) one.all (are.names named stands)));
}

-- ---- denied cells

module _ (denials : DenialsByName) (user : List ℕ) where
  -- of cells none of which is denied none is protected
  pub not_touched : (book : PlaceBook) (cells : Cells) → IsDenial user book cells None → (named : Named)
      → NamedStandsFor book named → (id row col : ℕ) → IsProtected user named.book id row col
      → ¬ (IsNamedBy named.book cells id row col)
  not_touched book cells none named stands id row col protected touched =
      let (k, one, there, is, denies) =
      (denials.denied book named.book user id touched.row_place touched.col_place row col stands.stands
      touched.row_there
      touched.col_there).1 protected in
      none k one there (subst (DeniesOne user book.owner cells) (sym is) (record {
        sheet = id;
        row = touched.row_place;
        col = touched.col_place;
        is = touched.is;
        denied = denies;
      }))

  -- what leaves all but such cells is one part
  pub one_part : (book : PlaceBook) (cells : Cells) (changes : List BookChange) → IsDenial user book cells None
      → LeavesOthers [] cells book changes → LeavesProtectedInParts user book changes
  one_part book cells changes none leaves = record {
    parts = changes ∷ [];
    all = sym (append-nil changes);
    each = λ named stands. (
      λ id row col there protected. leaves named id row col stands there
          (not_touched book cells none named stands id row col protected),
      tt,
    );
  }

  -- changes that leave each cell, and then those that leave all but such cells of what these make, are two parts
  module _ (stays : LeftCellsStay) where
    pub two_parts : (book between : PlaceBook) (cells : Cells) (first later changes : List BookChange)
        → changes ≡ first ++ later → AreChanges first book between
        → ((named : Named) (id row col : ℕ) → HasCell id row col named.book → AreLeft named first id row col)
        → IsDenial user between cells None → Leave [] cells between later → LeavesProtectedInParts user book changes
    two_parts book between cells first later changes same are all none leave = record {
      parts = first ∷ later ∷ [];
      all = same ∙ ap (λ later. first ++ later) (sym (append-nil later));
      each = λ named stands. (
        λ id row col there protected. stay stays named first id row col there (all named id row col there),
        (
          λ id row col there protected.
              let then = changed_by_all named first in
              stay stays then later id row col there
              (leave then id row col (are.names named stands) there
              (not_touched between cells none then (are.names named stands) id row col protected)),
          tt,
        ),
      );
    }

    -- ---- rows that are appended

    pub rows_parts : (sheet at count : ℕ) (rows : Block) (book : PlaceBook) (area : Area)
        (told : Reply × List BookChange)
        → AreRowsWrittenBy user (added_on sheet Rows at count) rows book area (as_reply told)
        → LeavesProtectedInParts user book told.1
    rows_parts sheet at count rows book area told is =
        let first = added_on sheet Rows at count in
        let between = is.between in
        let cells = WriteCells between.sheets true area rows in
        let put : AreRowsPut first rows true between area (as_reply told) =
        subst (AreRowsPut first rows true between area) (done_of is.put.denied is.put.done told is.put.told_is)
        is.put.is in
        let later = cells_updated area.sheet (contents_of put.writes.entries) in
        two_parts book between cells first later told.1
        (sym (match_changes put.wrote told (λ counts. (reply_of.Empty, first ++ later)) (first ++ later)
        (λ counts. refl)
        put.tells))
        is.changed (λ named id row col there. added_leave named sheet Rows at count id row col there)
        (subst (IsDenial user between cells) (none_denied is.put.denied is.put.done told is.put.told_is)
        is.put.is_denied)
        (write_leave true area rows put.sheet between put.after put.wrote put.writes put.there)

    from_parts : (sheet row : ℕ) (rows : Block) (book : PlaceBook) (found : PlaceSheet) (told : Reply × List BookChange)
        (broken : Option Rule)
        → UnlessBroken broken
        (AreRowsWrittenBy user (added_on sheet Rows found.table.rows (rows_missing row rows found)) rows
        book (from_row sheet row)) (as_reply told)
        → LeavesProtectedInParts user book told.1
    from_parts sheet row rows book found told None is =
        rows_parts sheet found.table.rows (rows_missing row rows found) rows book (from_row sheet row) told is
    from_parts sheet row rows book found told (Some broken) is = absurd (reply_apart told broken is)

    unless_parts : (b : Bool) (sheet : ℕ) (rows : Block) (book : PlaceBook) (found : PlaceSheet)
        (told : Reply × List BookChange)
        → UnlessNone b (AreRowsAppended user sheet rows book found) (as_reply told)
        → LeavesProtectedInParts user book told.1
    unless_parts true sheet rows book found told is =
        subst (LeavesProtectedInParts user book) (reply_changes told (reply_of.Empty, []) is) (no_parts user book)
    unless_parts false sheet rows book found told is =
        from_parts sheet is.row rows book found told
        (broken_by_rows sheet (rows_missing is.row rows found) found book.sheets) is.written

    pub append_rows_parts : (sheet : ℕ) (rows : Block) (book : PlaceBook) (told : Reply × List BookChange)
        → IsAppendCells user sheet rows book (as_reply told) → LeavesProtectedInParts user book told.1
    append_rows_parts sheet rows book told is = go (place_sheet_with sheet book.sheets) is
      where
        go : (found : Option PlaceSheet)
            → MatchOption found (as_reply told ≡ Err rule.NoSheet)
            (λ found. UnlessNone (rows_needed rows == 0) (AreRowsAppended user sheet rows book found) (as_reply told))
            → LeavesProtectedInParts user book told.1
        go None is = absurd (reply_apart told rule.NoSheet is)
        go (Some found) is = unless_parts (rows_needed rows == 0) sheet rows book found told is

    -- ---- values that are appended

    pub appended_parts : (sheet : ℕ) (added : Added) (start : ℕ × ℕ) (block : Block) (table : Option Rectangle)
        (changes : List BookChange) (before after : PlaceBook) (made : Option Area × WrittenCells)
        → IsValuesAppended user sheet added start block table changes before after (Ok made)
        → LeavesProtectedInParts user before changes
    appended_parts sheet added start block table changes before after made is =
        let between = is.between in
        let area = cell_area sheet start in
        let cells = WriteCells between.sheets true area block in
        let (written, told, answered) = match_told is.told _ made is.answered in
        two_parts before between cells (changes_of sheet added)
        (cells_updated sheet (contents_of is.write.is.entries)) changes is.changes_are is.lines
        (λ named id row col there. lines_added_leave named sheet added id row col there)
        (subst (IsDenial user between cells)
        (none_denied is.write.denied is.write.done written (told ∙ is.write.told_is)) is.write.is_denied)
        (write_leave true area block is.own between after is.write.done is.write.is is.there)

-- ---- requests

module _ (keep : UntouchedCellsKeep) (stays : LeftCellsStay) (denials : DenialsByName) (user : List ℕ) where
  by_kind_parts : (project : List ℕ) (book : PlaceBook) (asked : Request) (denied : Option ℕ) → denied ≡ None
      → IsDenial user book (TouchedCells book.sheets asked) denied → (reply : Reply) (changes : List BookChange)
      → appends_rows asked ≡ false → IsDoneByKind user project book asked (Ok (reply, changes))
      → LeavesProtectedInParts user book changes
  by_kind_parts project book asked denied none is_denied reply changes other is =
      one_part denials user book (TouchedCells book.sheets asked) changes
      (subst (IsDenial user book (TouchedCells book.sheets asked)) none is_denied)
      (keep.request user project book asked reply changes other is)

  done_parts : (project : List ℕ) (book : PlaceBook) (asked : Request) (denied : Option ℕ) → denied ≡ None
      → IsDenial user book (TouchedCells book.sheets asked) denied → (reply : Reply) (changes : List BookChange)
      → IsDoneByKind user project book asked (Ok (reply, changes)) → LeavesProtectedInParts user book changes
  done_parts project book (request.AppendCells sheet rows) denied none is_denied reply changes is =
      append_rows_parts denials user stays sheet rows book (reply, changes) is
  done_parts project book (request.UpdateCells rows area) denied none is_denied reply changes is =
      by_kind_parts project book (request.UpdateCells rows area) denied none is_denied reply changes refl is
  done_parts project book (request.AddSheet given) denied none is_denied reply changes is =
      by_kind_parts project book (request.AddSheet given) denied none is_denied reply changes refl is
  done_parts project book (request.DeleteSheet sheet) denied none is_denied reply changes is =
      by_kind_parts project book (request.DeleteSheet sheet) denied none is_denied reply changes refl is
  done_parts project book (request.UpdateSheetProperties sheet properties) denied none is_denied reply changes is =
      by_kind_parts project book (request.UpdateSheetProperties sheet properties) denied none is_denied reply
      changes refl is
  done_parts project book (request.InsertDimension range inherits) denied none is_denied reply changes is =
      by_kind_parts project book (request.InsertDimension range inherits) denied none is_denied reply changes refl is
  done_parts project book (request.DeleteDimension range) denied none is_denied reply changes is =
      by_kind_parts project book (request.DeleteDimension range) denied none is_denied reply changes refl is
  done_parts project book (request.AppendDimension sheet axis length) denied none is_denied reply changes is =
      by_kind_parts project book (request.AppendDimension sheet axis length) denied none is_denied reply changes refl is
  done_parts project book (request.MoveDimension range to) denied none is_denied reply changes is =
      by_kind_parts project book (request.MoveDimension range to) denied none is_denied reply changes refl is
  done_parts project book (request.MergeCells range type) denied none is_denied reply changes is =
      by_kind_parts project book (request.MergeCells range type) denied none is_denied reply changes refl is
  done_parts project book (request.UnmergeCells range) denied none is_denied reply changes is =
      by_kind_parts project book (request.UnmergeCells range) denied none is_denied reply changes refl is
  done_parts project book (request.AddNamedRange asked) denied none is_denied reply changes is =
      by_kind_parts project book (request.AddNamedRange asked) denied none is_denied reply changes refl is
  done_parts project book (request.UpdateNamedRange id name range) denied none is_denied reply changes is =
      by_kind_parts project book (request.UpdateNamedRange id name range) denied none is_denied reply changes refl is
  done_parts project book (request.DeleteNamedRange id) denied none is_denied reply changes is =
      by_kind_parts project book (request.DeleteNamedRange id) denied none is_denied reply changes refl is
  done_parts project book (request.AddProtectedRange id patch) denied none is_denied reply changes is =
      by_kind_parts project book (request.AddProtectedRange id patch) denied none is_denied reply changes refl is
  done_parts project book (request.UpdateProtectedRange id patch) denied none is_denied reply changes is =
      by_kind_parts project book (request.UpdateProtectedRange id patch) denied none is_denied reply changes refl is
  done_parts project book (request.DeleteProtectedRange id) denied none is_denied reply changes is =
      by_kind_parts project book (request.DeleteProtectedRange id) denied none is_denied reply changes refl is
  done_parts project book (request.SetBasicFilter filter) denied none is_denied reply changes is =
      by_kind_parts project book (request.SetBasicFilter filter) denied none is_denied reply changes refl is
  done_parts project book (request.ClearBasicFilter sheet) denied none is_denied reply changes is =
      by_kind_parts project book (request.ClearBasicFilter sheet) denied none is_denied reply changes refl is
  done_parts project book (request.CreateDeveloperMetadata item) denied none is_denied reply changes is =
      by_kind_parts project book (request.CreateDeveloperMetadata item) denied none is_denied reply changes refl is
  done_parts project book (request.UpdateDeveloperMetadata filters patch) denied none is_denied reply changes is =
      by_kind_parts project book (request.UpdateDeveloperMetadata filters patch) denied none is_denied reply
      changes refl is
  done_parts project book (request.DeleteDeveloperMetadata filter) denied none is_denied reply changes is =
      by_kind_parts project book (request.DeleteDeveloperMetadata filter) denied none is_denied reply changes refl is

  pub request_parts : (project : List ℕ) (book : PlaceBook) (asked : Request) (reply : Reply)
      (changes : List BookChange)
      → IsDoneAsAsked user project book asked (Ok (reply, changes)) → LeavesProtectedInParts user book changes
  request_parts project book asked reply changes is =
      done_parts project book asked is.denied (none_denied is.denied is.done (reply, changes) is.told_is) is.is_denied
      reply changes
      (subst (IsDoneByKind user project book asked) (done_of is.denied is.done (reply, changes) is.told_is) is.is)

-- ---- values that are written

pub write_parts : UntouchedCellsKeep → DenialsByName → (user : List ℕ) (one_cell : Bool) (area : Area) (block : Block)
    (sheet : PlaceSheet) (before after : PlaceBook) (counts : WrittenCells) → place_sheet_with area.sheet before.sheets
    ≡ Some sheet
    → (writes : IsWriteBy user one_cell area block sheet before after (Ok counts))
    → LeavesProtectedInParts user before (cells_updated area.sheet (contents_of writes.is.entries))
write_parts keep denials user one_cell area block sheet before after counts is writes =
    let cells = WriteCells before.sheets one_cell area block in
    one_part denials user before cells (cells_updated area.sheet (contents_of writes.is.entries))
    (subst (IsDenial user before cells) (none_denied writes.denied writes.done counts writes.told_is) writes.is_denied)
    (keep.write one_cell area block sheet before after writes.done writes.is is)
