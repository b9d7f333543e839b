-- updateCells has an answer: rows are written from a cell on, or to a range, whose other cells are emptied first.
use Rattle.std.proofs.Common.{◌≡◌, ◌≤◌, Bool, true, false, ◌&&◌, ◌++◌, List, [], refl, sym, subst, cond}
use Rattle.std.specs.Prelude.{Option, Some, None, unwrap_or, IfSome, IsSomeAnd, Result, Ok, Err, IfOk}
use Rattle.std.specs.Option.{option_map_or}
use Rattle.cell_value.specs.declared.cell.Block.{Block}
use Rattle.grid_range.specs.Area.{cut_area}
use Rattle.grid_range.specs.Band.{end_line}
use Rattle.grid_range.specs.declared.area.Area.{Area}
use Rattle.merge_ranges.specs.Tests.{has_line}
use Rattle.ref_rewrite.specs.declared.cell_content.Content.{Content}
use Rattle.formula_reader.specs.Reads.{HasReading}
use Rattle.world_model.specs.Book.{PlaceBook}
use Rattle.world_model.specs.BookChange.{AreChanges, BookChange}
use Rattle.world_model.specs.ChangingLaws.{ChangesInTurn, UpdatesAreChanges}
use Rattle.world_model.specs.Laws.{UpdatesAreWrites}
use Rattle.world_model.specs.Sheet.{PlaceSheet}
use Rattle.world_model.specs.Sound.{IsContentWithin, IsSound, place_sheet_with}
use Rattle.dimension_ops.specs.Broken.{first_broken}
use Rattle.dimension_ops.specs.declared.rule.Rule.{Rule}
use Rattle.values_api.specs.Blocks.{IsWrite, contents_of}
use Rattle.values_api.specs.CellsUpdate.{CellsUpdate, sized_same}
use Rattle.values_api.specs.RangeLaws.{EndOn, cut_area_ends}
use Rattle.values_api.specs.Rest.{is_reached, rest_cleared}
use Rattle.values_api.specs.Updates.{AreUpdated}
use Rattle.values_api.specs.declared.writing.WrittenCells.{WrittenCells}
use Rattle.json_requests.specs.declared.request.UpdatedArea.{UpdatedArea}
use Rattle.json_requests.specs.declared.request.UpdatedArea.TheVariants.{Start, Range}
use Rattle.sheets_json.specs.declared.spreadsheet.Reply.TheVariants as reply
use Rattle.values_api.specs.FoundLaws.{some_and}
use Rattle.request_kinds.specs.Rows.{AreRowsPut, AreRowsWritten, OnArea, area_or_broken, broken_by_area, cut_or_broken}
use Rattle.request_kinds.specs.Telling.{cells_updated}
use Rattle.request_kinds.specs.TellingLaws.{update_made}
use Rattle.request_kinds.specs.UpdateCells.{IsUpdateCells, area_from, rest_emptied}
use Rattle.answered_calls.proofs.KnownReads.{ReadsWithin}
use Rattle.batch_engine.specs.MadeLaws.{CannotBecome}
use Rattle.answered_calls.proofs.RangeEnds.{EndsThere, fits_either}
use Rattle.answered_calls.proofs.RangesKept.{IsKeptByRows}
use Rattle.answered_calls.proofs.Writes.{AreEndsWithin, some_write}

-- ---- the area of a request

-- what is done on an area, or the rule that it breaks
some_on_area : {A : Type 0} (Holds : PlaceBook → Type 0) (book : PlaceBook) (Fits : Area → Type 0)
    (IsDone : Area → Result (A × List BookChange) Rule → Type 0)
    → ((area : Area) → Fits area → ¬ (CannotBecome Holds book (IsDone area))) → (asked : Result Area Rule)
    → IfOk asked Fits
    → ¬ (CannotBecome Holds book (OnArea asked IsDone))
some_on_area Holds book Fits IsDone each (Ok area) fits none = each area fits none
some_on_area Holds book Fits IsDone each (Err broken) fits none = none (Err broken) refl tt

cut_there : (sheets : List PlaceSheet) (area : Area) (found : Option PlaceSheet)
    → place_sheet_with area.sheet sheets ≡ found → IfOk (cut_or_broken found area) (EndsThere sheets)
cut_there sheets area None is = tt
cut_there sheets area (Some sheet) is = by_rule (first_broken (broken_by_area (Some sheet) area))
  where
    by_rule : (broken : Option Rule)
        → IfOk (option_map_or Err broken (Ok (cut_area area sheet.table.rows sheet.table.cols))) (EndsThere sheets)
    by_rule None =
        subst (λ found. IsSomeAnd found (EndOn (cut_area area sheet.table.rows sheet.table.cols))) (sym is)
        (cut_area_ends area sheet)
    by_rule (Some broken) = tt

asked_there : (sheets : List PlaceSheet) (area : Area) → IfOk (area_or_broken sheets area) (EndsThere sheets)
asked_there sheets area = cut_there sheets area (place_sheet_with area.sheet sheets) refl

-- ---- cells that the rows don't reach

abbrev cleared_if : Bool → Bool → Option (Option Content)
cleared_if reached has = cond reached None (cond has (Some None) None)

rest_within : (sheets : List PlaceSheet) (reached has : Bool)
    → IfSome (cleared_if reached has) (λ held. IfSome held (IsContentWithin sheets))
rest_within sheets true has = tt
rest_within sheets false true = tt
rest_within sheets false false = tt

rest_beside : (reached has : Bool) → unwrap_or (cleared_if reached has) None ≡ None
rest_beside true has = refl
rest_beside false true = refl
rest_beside false false = refl

module _ (reading : HasReading) (reads : ReadsWithin) (update : CellsUpdate) (changes : UpdatesAreChanges)
    (turns : ChangesInTurn) (Keeps : PlaceBook → PlaceBook → Type 0) (kept : IsKeptByRows Keeps) (book : PlaceBook)
    (sound : IsSound book) (rows : Block) where
  -- ---- rows

  module _ (first : List BookChange) (one_cell : Bool) (between : PlaceBook) (changed : AreChanges first book between)
      (keeps : Keeps book between) (area : Area) (sheet : PlaceSheet)
      (there : place_sheet_with area.sheet between.sheets ≡ Some sheet)
      (none : CannotBecome (Keeps book) book (AreRowsPut first rows one_cell between area)) where
    put_told : (after : PlaceBook) (wrote : Result WrittenCells Rule)
        → ¬ (IsWrite one_cell area rows sheet between after wrote)
    put_told after (Ok counts) writes =
        none (Ok (reply.Empty, first ++ cells_updated area.sheet (contents_of writes.entries)))
        (record { after = after; sheet = sheet; there = there; wrote = Ok counts; writes = writes; tells = refl }) (
          after,
          turns.both first (cells_updated area.sheet (contents_of writes.entries)) book between after changed
              (update_made changes area.sheet (contents_of writes.entries) between after writes.updated),
          kept.both book between after keeps (kept.same between after writes.updated.places.ranges),
        )
    put_told after (Err broken) writes =
        none (Err broken)
        (record { after = after; sheet = sheet; there = there; wrote = Err broken; writes = writes; tells = refl }) tt

  -- rows are put on a sheet that is there once the first changes are made
  pub some_put : (first : List BookChange) (one_cell : Bool) (between : PlaceBook) → AreChanges first book between
      → Keeps book between → (area : Area) (sheet : PlaceSheet)
      → place_sheet_with area.sheet between.sheets ≡ Some sheet → AreEndsWithin one_cell area sheet
      → ¬ (CannotBecome (Keeps book) book (AreRowsPut first rows one_cell between area))
  some_put first one_cell between changed keeps area sheet there ends none =
      some_write reading reads update between (turns.sound first book between sound changed) one_cell area rows sheet
      there ends (put_told first one_cell between changed keeps area sheet there none)

  some_rows : (first : List BookChange) (one_cell : Bool) (between : PlaceBook) → AreChanges first book between
      → Keeps book between → (area : Area) → EndsThere between.sheets area
      → ¬ (CannotBecome (Keeps book) book (AreRowsWritten first rows one_cell book area))
  some_rows first one_cell between changed keeps area ends none =
      let (sheet, there, ends_on) = some_and (EndOn area) (place_sheet_with area.sheet between.sheets) ends in
      some_put first one_cell between changed keeps area sheet there (fits_either one_cell area sheet ends_on)
      (λ told put can. none told (record { between = between; changed = changed; put = put }) can)

  -- ---- updateCells

  module _ (area : Area) where
    emptied_from : (found : Option PlaceSheet) → place_sheet_with area.sheet book.sheets ≡ found
        → IsSomeAnd found (EndOn area)
        → (after : PlaceBook) × AreUpdated area.sheet (rest_cleared area rows) book after
    emptied_from None there ends = absurd ends
    emptied_from (Some sheet) there ends =
        update book sound area.sheet sheet there (rest_cleared area rows)
        (λ row col. rest_within book.sheets (is_reached area rows row col)
        (has_line area.rows row && has_line area.cols col))
        (λ row col beside. rest_beside (is_reached area rows row col)
        (has_line area.rows row && has_line area.cols col))

    -- the area ends on its sheet, whose size stays
    still_ends : UpdatesAreWrites → (after : PlaceBook) → AreUpdated area.sheet (rest_cleared area rows) book after
        → EndsThere book.sheets area → EndsThere after.sheets area
    still_ends writes after updated ends =
        sized_same (λ size. (end_line area.rows size.0 ≤ size.0) × (end_line area.cols size.1 ≤ size.1))
        (place_sheet_with area.sheet book.sheets) (place_sheet_with area.sheet after.sheets)
        (writes.sizes book after area.sheet area.sheet (rest_cleared area rows) updated.places) ends

  some_range : UpdatesAreWrites → (area : Area) → EndsThere book.sheets area
      → ¬ (CannotBecome (Keeps book) book (AreRowsWritten (rest_emptied area rows) rows false book area))
  some_range writes area ends =
      let (after, updated) = emptied_from area (place_sheet_with area.sheet book.sheets) refl ends in
      some_rows (rest_emptied area rows) false after
      (update_made changes area.sheet (rest_cleared area rows) book after updated)
      (kept.same book after updated.places.ranges) area
      (still_ends area writes after updated ends)

  pub some_update_cells : UpdatesAreWrites → (area : UpdatedArea)
      → ¬ (CannotBecome (Keeps book) book (IsUpdateCells rows area book))
  some_update_cells writes (Start cell) =
      some_on_area (Keeps book) book (EndsThere book.sheets) (AreRowsWritten [] rows true book)
      (some_rows [] true book (turns.none book) (kept.same book book refl))
      (area_or_broken book.sheets (area_from cell))
      (asked_there book.sheets (area_from cell))
  some_update_cells writes (Range range) =
      some_on_area (Keeps book) book (EndsThere book.sheets)
      (λ area. AreRowsWritten (rest_emptied area rows) rows false book area)
      (some_range writes) (area_or_broken book.sheets range) (asked_there book.sheets range)
