-- mergeCells: where no rule is broken the cells that parts of the area cover can be emptied, once merges are set.
use Rattle.std.proofs.Common.{◌≡◌, ℕ, ◌<◌, ◌≤◌, inl, inr, refl, sym, List, [], ◌∷◌, ◌++◌, arith}
use Rattle.std.specs.Prelude.{Some, Ok}
use Rattle.std.proofs.lemmas.List.Elements.{Contains-append_cases, Contains-append_left, Contains-append_right}
use Rattle.grid_range.specs.Area.{AreaWithin}
use Rattle.grid_range.specs.Band.{Within, end_line, first_line}
use Rattle.grid_range.specs.declared.area.Area.{Area}
use Rattle.grid_range.specs.declared.axis.Axis.TheVariants as axis
use Rattle.grid_range.specs.declared.band.Band.{Band}
use Rattle.grid_range.specs.declared.band.Band.TheVariants.{Whole, From, Span}
use Rattle.merge_ranges.specs.FirstCells.{by_first_total}
use Rattle.merge_ranges.specs.Merges.{HoldsAll, IsRectangle, Overlap, is_covered}
use Rattle.world_model.specs.Book.{PlaceBook}
use Rattle.world_model.specs.BookChange.{BookChange}
use Rattle.world_model.specs.ChangingLaws.{ChangesInTurn, UpdatesAreChanges}
use Rattle.world_model.specs.MergeLaws.{MergesAreSet}
use Rattle.world_model.specs.Sheet.{PlaceSheet}
use Rattle.world_model.specs.SheetChange.{place_merged, place_merges_set}
use Rattle.world_model.specs.Sound.{IsSound, place_sheet_with}
use Rattle.values_api.specs.CellsUpdate.{CellsUpdate, empty_beside, empty_within}
use Rattle.dimension_ops.specs.MergeLaws.{found_with}
use Rattle.json_requests.specs.declared.request.MergeType.{MergeType}
use Rattle.json_requests.specs.declared.request.MergeType.TheVariants as merge
use Rattle.sheets_json.specs.declared.spreadsheet.Reply.TheVariants as reply
use Rattle.values_api.specs.FoundLaws.{sheet_has_id, sound_sheet}
use Rattle.request_kinds.specs.MergeCells.{AreCellsMerged, AreMergedOn, IsMergeAfter, IsMergeCells, covered_cleared, covered_emptied, merges_passed, parts_of, rectangle_on}
use Rattle.request_kinds.specs.Rows.{area_or_broken}
use Rattle.request_kinds.specs.TellingLaws.{update_made}
use Rattle.answered_calls.proofs.AreasWithin.{judged_within}
use Rattle.answered_calls.proofs.ListsInOrder.{in_order, left}
use Rattle.answered_calls.proofs.MergesListed.{AreParts, apart_listed, both_apart, fewer_apart, have_apart, line_parts, one_place, whole_part}
use Rattle.answered_calls.proofs.MergesSet.{asked_made, on_sheet_made, set_made, set_sound}
use Rattle.answered_calls.proofs.Telling.{IsMadeSome, on_area_made}

-- ---- the area's lines, as they stand on the sheet

some_lines : (band : Band) (count : ℕ) → 0 < count → Within band count → first_line band < end_line band count
some_lines Whole count some within = some
some_lines (From start) count some within = within
some_lines (Span start end) count some within = within.0

few_lines : (band : Band) (count : ℕ) → Within band count → end_line band count ≤ count
few_lines Whole count within = omega arith
few_lines (From start) count within = omega arith
few_lines (Span start end) count within = within.1

-- ---- on the sheet

module _ (sets : MergesAreSet) (turns : ChangesInTurn) (updates : UpdatesAreChanges) (update : CellsUpdate)
    (book : PlaceBook) (sound : IsSound book) where
  module _ (type : MergeType) (sheet : PlaceSheet) (area : Area) (is : IsRectangle area)
      (own : (area.sheet ≡ sheet.id) × AreaWithin area sheet.table.rows sheet.table.cols)
      (at : place_sheet_with area.sheet book.sheets ≡ Some sheet) where
    abbrev parts : List Area
    parts = parts_of type area

    are_parts : (type : MergeType) → AreParts sheet area (parts_of type area)
    are_parts merge.All = whole_part sheet area is own
    are_parts merge.Columns = line_parts sheet area is own axis.Columns
    are_parts merge.Rows = line_parts sheet area is own axis.Rows

    merged : IsMadeSome book (AreCellsMerged type area sheet)
    merged = asked_made book area (merges_passed type area sheet) (IsMergeAfter type area) (covered_emptied type area)
        sheet (λ whole none.
        let old = (sound_sheet book sound area.sheet sheet at).merges in
        left by_first_total (HoldsAll area) sheet.merges old.0.in_order (λ (kept, sorted, just).
        let new = are_parts type in
        let joined = both_apart sheet kept parts
        (fewer_apart sheet sheet.merges kept (have_apart sheet sheet.merges old) (λ one has. ((just one).0 has).0))
        new.apart (λ one part has has' both.
        let ((k, l, found), out) = (just one).0 has in
        let meet : Overlap area one = record {
          row = both.row;
          col = both.col;
          one_holds = new.held part has' both.row both.col both.other_holds;
          other_holds = both.one_holds;
        } in
        whole (k, one, l, found, (meet, out))) in
        let (now, rising, same) = in_order by_first_total (kept ++ parts) (λ one other has has' equal.
        joined.once one other has has'
        (one_place one other (joined.each one has).0 (joined.each other has').0 equal)) in
        let of = apart_listed sheet (kept ++ parts) now joined rising (λ one has. (same one).0 has) in
        let between = place_merges_set area.sheet now book in
        let (after, updated) = update between (set_sound sets book area.sheet sheet at now of sound) area.sheet
        (place_merged now sheet) (found_with area.sheet now book.sheets sheet at) (covered_cleared type area)
        (λ row col. empty_within between.sheets (is_covered parts row col))
        (λ row col past. empty_beside (is_covered parts row col)) in
        none (Ok (reply.Empty, BookChange.MergesSet area.sheet now ∷ covered_emptied type area))
        (record {
          merges = now;
          just = record {
            in_order = rising;
            exactly = λ one. (
              (λ has. elim (Contains-append_cases kept parts one ((same one).0 has)) [
                | inl before ↦ inl ((just one).0 before)
                | inr part ↦ inr part
              ]),
              (λ either. (same one).1 (elim either [
                | inl before ↦ Contains-append_left kept parts one ((just one).1 before)
                | inr part ↦ Contains-append_right kept parts one part
              ])),
            );
          };
          told_is = refl;
        }) (
          after,
          turns.both (BookChange.MergesSet area.sheet now ∷ []) (covered_emptied type area) book between after
              (set_made sets book area.sheet sheet at now of)
              (update_made updates area.sheet (covered_cleared type area) between after updated),
        )))

  pub merge_made : (range : Area) (type : MergeType) → IsMadeSome book (IsMergeCells range type book)
  merge_made range type =
      on_area_made book (area_or_broken book.sheets range) (AreMergedOn type book) (λ area is.
      on_sheet_made book area (λ sheet. AreCellsMerged type (rectangle_on sheet area) sheet)
      (judged_within book.sheets range area is) (λ sheet at within.
      let size = sound_sheet book sound area.sheet sheet at in
      let rows = some_lines area.rows sheet.table.rows size.rows.0 within.0 in
      let cols = some_lines area.cols sheet.table.cols size.cols.0 within.1 in
      merged type sheet (rectangle_on sheet area) (rows, cols) (
        sym (sheet_has_id area.sheet book.sheets sheet at),
        ((rows, few_lines area.rows sheet.table.rows within.0), (cols, few_lines area.cols sheet.table.cols within.1)),
      ) at))
