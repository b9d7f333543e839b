-- Rows and values that are written leave the cells that they don't touch.
use Rattle.std.proofs.Common.{◌≡◌, ℕ, refl, sym, subst, List, [], ◌∷◌, ◌++◌, cond, Bool, true, false}
use Rattle.std.specs.Prelude.{Option, Some, None, ◌==◌, Result, Ok, Err}
use Rattle.std.specs.Option.{IsSome, option_map_or}
use Rattle.cell_value.specs.declared.cell.Block.{Block}
use Rattle.grid_range.specs.declared.area.Area.{Area}
use Rattle.grid_range.specs.declared.axis.Axis.{Axis}
use Rattle.grid_range.specs.declared.axis.Axis.TheVariants.{Rows, Columns}
use Rattle.grid_range.specs.declared.change.Change.TheVariants.{Insert}
use Rattle.world_model.specs.Book.{PlaceBook}
use Rattle.world_model.specs.BookChange.{BookChange, Named, changed_by_all}
use Rattle.world_model.specs.BookChange.BookChange.{LinesChanged}
use Rattle.world_model.specs.ChangingLaws.{ChangesApart, ChangesInTurn}
use Rattle.world_model.specs.Leaving.{HasCell, LeaveInTurn}
use Rattle.world_model.specs.Sheet.{PlaceSheet}
use Rattle.world_model.specs.Sound.{place_sheet_with}
use Rattle.dimension_ops.specs.Broken.{first_broken}
use Rattle.dimension_ops.specs.declared.rule.Rule.{Rule}
use Rattle.values_api.specs.Appends.{IsAppended, added_on, cell_area, changes_of}
use Rattle.values_api.specs.Blocks.{IsWrite, contents_of, written}
use Rattle.values_api.specs.Denials.{WriteCells}
use Rattle.values_api.specs.declared.appending.Added.{Added}
use Rattle.values_api.specs.declared.table.Rectangle.{Rectangle}
use Rattle.values_api.specs.declared.writing.WrittenCells.{WrittenCells}
use Rattle.json_requests.specs.declared.request.GridCoordinate.{GridCoordinate}
use Rattle.sheets_json.specs.declared.spreadsheet.Reply.{Reply}
use Rattle.sheets_json.specs.declared.spreadsheet.Reply.TheVariants as reply_of
use Rattle.request_kinds.specs.AppendCells.{AreRowsWrittenBy}
use Rattle.request_kinds.specs.Telling.{cells_updated}
use Rattle.request_kinds.specs.Rows.{AreRowsPut, AreRowsWritten, OnArea, area_or_broken, broken_by_area, cut_on}
use Rattle.request_kinds.specs.UpdateCells.{area_from}
use Rattle.request_kinds.specs.TellingLaws.{as_reply, done_of, match_changes, reply_apart}
use Rattle.kept_cells.proofs.UntouchedCells.{IsAt, insert_stays, leave_both, lines_leave, there_then}
use Rattle.kept_cells.proofs.UntouchedKinds.{Leave}
use Rattle.kept_cells.proofs.UntouchedWrites.{untouched_written, write_leaves}

-- ---- what is told

-- what is done on an area is done on the one that is found, cut at the grid
pub on_area_done : (sheets : List PlaceSheet) (range : Area)
    (IsDone : Area → Result (Reply × List BookChange) Rule → Type 0)
    (told : Reply × List BookChange) → OnArea (area_or_broken sheets range) IsDone (as_reply told)
    → IsDone (cut_on (place_sheet_with range.sheet sheets) range) (as_reply told)
on_area_done sheets range IsDone told is =
    go (first_broken (broken_by_area (place_sheet_with range.sheet sheets) range)) is
  where
    go : (first : Option Rule)
        → OnArea (option_map_or Err first (Ok (cut_on (place_sheet_with range.sheet sheets) range))) IsDone
        (as_reply told)
        → IsDone (cut_on (place_sheet_with range.sheet sheets) range) (as_reply told)
    go None is = is
    go (Some broken) is = absurd (reply_apart told broken is)

-- ---- lines that are added first

pub added_leave : (named : Named) (sheet : ℕ) (axis : Axis) (at count id row col : ℕ) → HasCell id row col named.book
    → LeaveInTurn named (added_on sheet axis at count) id row col
added_leave named sheet axis at count id row col there = go (count == 0)
  where
    go : (b : Bool) → LeaveInTurn named (cond b [] (LinesChanged sheet axis (Insert at count) ∷ [])) id row col
    go true = tt
    go false = lines_leave named sheet axis (Insert at count) id row col
        (insert_stays named sheet axis at count id row col) there

pub lines_added_leave : (named : Named) (sheet : ℕ) (added : Added) (id row col : ℕ) → HasCell id row col named.book
    → LeaveInTurn named (changes_of sheet added) id row col
lines_added_leave named sheet added id row col there =
    let first = added_on sheet Rows added.row added.rows in
    let rows = added_leave named sheet Rows added.row added.rows id row col there in
    leave_both id row col first (added_on sheet Columns added.col added.cols) named rows
    (added_leave (changed_by_all named first) sheet Columns added.col added.cols id row col
    (there_then id row col first named there rows))

-- ---- rows that are put

-- after first changes that leave the cell
pub put_leaves : (first : List BookChange) (rows : Block) (one_cell : Bool) (between : PlaceBook) (area : Area)
    (reply : Reply) (changes : List BookChange)
    (put : AreRowsPut first rows one_cell between area (as_reply (reply, changes))) (named : Named) (id row col : ℕ)
    → HasCell id row col named.book → LeaveInTurn named first id row col
    → (id ≡ area.sheet → (r c : ℕ)
    → IsAt (changed_by_all named first).book id row col r c → IsSome (written one_cell area rows put.sheet r c) → ⊥)
    → LeaveInTurn named changes id row col
put_leaves first rows one_cell between area reply changes put named id row col there leave none =
    let later = cells_updated area.sheet (contents_of put.writes.entries) in
    subst (λ all. LeaveInTurn named all id row col)
    (match_changes put.wrote (reply, changes) (λ counts. (reply_of.Empty, first ++ later)) (first ++ later)
    (λ counts. refl)
    put.tells)
    (leave_both id row col first later named leave
    (write_leaves (changed_by_all named first) one_cell area rows put.sheet between put.after put.wrote
    put.writes id row col
    (there_then id row col first named there leave) none))

pub rows_leave : (user : List ℕ) (sheet at count : ℕ) (rows : Block) (book : PlaceBook) (area : Area) (reply : Reply)
    (changes : List BookChange)
    → (written : AreRowsWrittenBy user (added_on sheet Rows at count) rows book area (as_reply (reply, changes)))
    → Leave (added_on sheet Rows at count) (WriteCells written.between.sheets true area rows) book changes
rows_leave user sheet at count rows book area reply changes written named id row col stands there untouched =
    let first = added_on sheet Rows at count in
    let between = written.between in
    let done : written.put.done ≡ as_reply (reply, changes) =
    done_of written.put.denied written.put.done (reply, changes) written.put.told_is in
    let put : AreRowsPut first rows true between area (as_reply (reply, changes)) =
    subst (AreRowsPut first rows true between area) done written.put.is in
    put_leaves first rows true between area reply changes put named id row col there
    (added_leave named sheet Rows at count id row col there)
    (untouched_written (changed_by_all named first).book between.sheets true area rows put.sheet id row col
    put.there untouched)

-- on the spreadsheet as it is
module _ (apart : ChangesApart) (turns : ChangesInTurn) where
  rows_written_leave : (rows : Block) (book : PlaceBook) (area : Area) (reply : Reply) (changes : List BookChange)
      → AreRowsWritten [] rows true book area (as_reply (reply, changes))
      → Leave [] (WriteCells book.sheets true area rows) book changes
  rows_written_leave rows book area reply changes is named id row col stands there untouched =
      let same : is.between ≡ book =
      apart.same [] book is.between book stands.stands.sound is.changed (turns.none book) in
      let put : AreRowsPut [] rows true book area (as_reply (reply, changes)) =
      subst (λ between. AreRowsPut [] rows true between area (as_reply (reply, changes))) same is.put in
      put_leaves [] rows true book area reply changes put named id row col there tt
      (untouched_written named.book book.sheets true area rows put.sheet id row col put.there untouched)

  cut_from : (found : Option PlaceSheet) (cell : GridCoordinate) → cut_on found (area_from cell) ≡ area_from cell
  cut_from None cell = refl
  cut_from (Some sheet) cell = refl

  pub cells_from_leave : (rows : Block) (cell : GridCoordinate) (book : PlaceBook) (reply : Reply)
      (changes : List BookChange)
      → OnArea (area_or_broken book.sheets (area_from cell)) (AreRowsWritten [] rows true book)
      (as_reply (reply, changes))
      → Leave [] (WriteCells book.sheets true (area_from cell) rows) book changes
  cells_from_leave rows cell book reply changes is =
      rows_written_leave rows book (area_from cell) reply changes
      (subst (λ area. AreRowsWritten [] rows true book area (as_reply (reply, changes)))
      (cut_from (place_sheet_with cell.sheet_id book.sheets) cell)
      (on_area_done book.sheets (area_from cell) (AreRowsWritten [] rows true book) (reply, changes) is))

-- ---- values that are written and appended

pub write_leave : (one_cell : Bool) (area : Area) (block : Block) (sheet : PlaceSheet) (before after : PlaceBook)
    (answer : Result WrittenCells Rule) → (writes : IsWrite one_cell area block sheet before after answer)
    → place_sheet_with area.sheet before.sheets ≡ Some sheet
    → Leave [] (WriteCells before.sheets one_cell area block) before
    (cells_updated area.sheet (contents_of writes.entries))
write_leave one_cell area block sheet before after answer writes is named id row col stands there untouched =
    write_leaves named one_cell area block sheet before after answer writes id row col there
    (untouched_written named.book before.sheets one_cell area block sheet id row col is untouched)

pub append_leave : (user : List ℕ) (sheet : ℕ) (added : Added) (start : ℕ × ℕ) (block : Block)
    (table : Option Rectangle)
    (changes : List BookChange) (before after : PlaceBook) (answer : Result (Option Area × WrittenCells) Rule)
    → (appended : IsAppended user sheet added start block table changes before after answer)
    → Leave (changes_of sheet added) (WriteCells appended.between.sheets true (cell_area sheet start) block)
    before changes
append_leave user sheet added start block table changes before after answer appended named id row col stands
    there untouched =
    let first = changes_of sheet added in
    let area = cell_area sheet start in
    let leave = lines_added_leave named sheet added id row col there in
    subst (λ all. LeaveInTurn named all id row col) (sym appended.changes_are)
    (leave_both id row col first (cells_updated sheet (contents_of appended.write.is.entries)) named leave
    (write_leaves (changed_by_all named first) true area block appended.own appended.between after appended.write.done
    appended.write.is id row col (there_then id row col first named there leave)
    (untouched_written (changed_by_all named first).book appended.between.sheets true area block appended.own id row col
    appended.there untouched)))
