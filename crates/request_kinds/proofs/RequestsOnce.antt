-- A request on a given spreadsheet has one reply and makes one list of changes.
use Rattle.std.proofs.Common.{◌≡◌, ℕ, Bool, true, false, sym, ap, ◌∙◌, List, [], ◌∷◌}
use Rattle.std.specs.Prelude.{Option, None, Some, unwrap_or, Result, Ok}
use Rattle.cell_value.specs.Ids.{IsLeastUnused, IsNewId}
use Rattle.cell_value.specs.declared.cell.Block.{Block}
use Rattle.cell_value.specs.declared.cell.SheetProperties.{SheetProperties}
use Rattle.merge_ranges.specs.Calls.{ListsAreSame}
use Rattle.world_model.specs.Book.{PlaceBook}
use Rattle.world_model.specs.BookChange.{BookChange}
use Rattle.world_model.specs.ChangingLaws.{ChangesApart, ChangesInTurn}
use Rattle.world_model.specs.Sound.{IsSound}
use Rattle.dimension_ops.specs.Broken.{first_broken}
use Rattle.dimension_ops.specs.SheetRequests.{NewSheetsOnce, new_place, sheet_added_broken}
use Rattle.dimension_ops.specs.declared.rule.Rule.{Rule}
use Rattle.values_api.specs.Laws.{WritesOnce}
use Rattle.json_requests.specs.declared.request.Request.{Request}
use Rattle.json_requests.specs.declared.request.Request.TheVariants as request
use Rattle.json_requests.specs.declared.request.UpdatedArea.{UpdatedArea}
use Rattle.json_requests.specs.declared.request.UpdatedArea.TheVariants.{Start, Range}
use Rattle.sheets_json.specs.declared.spreadsheet.Reply.{Reply}
use Rattle.dev_metadata.specs.Listed as listed
use Rattle.dev_metadata.specs.Listed.{found, found_by_some, not_found}
use Rattle.json_requests.specs.declared.request.MetadataLookup.{MetadataLookup}
use Rattle.json_requests.specs.declared.request.MetadataPatch.{MetadataPatch}
use Rattle.json_requests.specs.declared.request.NewMetadata.{NewMetadata}
use Rattle.sheets_json.specs.declared.spreadsheet.Reply.TheVariants as reply
use Rattle.protection.specs.Listed.{has_id}
use Rattle.protection.specs.declared.range.ProtectionPatch.{ProtectionPatch}
use Rattle.request_kinds.specs.AddSheet.{IsAddSheet, IsAdded, any_properties, sheet_reply}
use Rattle.request_kinds.specs.AddProtectedRange.{IsProtectionAdded, protection_added_broken, protection_made, put_among}
use Rattle.request_kinds.specs.Requests.{IsDoneAsAsked, IsDoneByKind}
use Rattle.request_kinds.specs.Touching.{TouchedCells}
use Rattle.request_kinds.specs.TellingLaws.{unless_once}
use Rattle.request_kinds.specs.CreateDeveloperMetadata.{IsMetadataCreated, item_made, item_put, metadata_created_broken}
use Rattle.request_kinds.specs.DeleteDeveloperMetadata.{IsMetadataDeleted}
use Rattle.request_kinds.specs.Metadata.{broken_by_lookups, items_seen, lookup_of, lookups_of}
use Rattle.request_kinds.specs.Telling.{UnlessBroken}
use Rattle.request_kinds.specs.UpdateDeveloperMetadata.{IsMetadataUpdated, metadata_updated, metadata_updated_broken}
use Rattle.request_kinds.specs.ItemLaws.{ids_once}
use Rattle.request_kinds.specs.Rows.{AreRowsWritten, area_or_broken}
use Rattle.request_kinds.specs.UpdateCells.{IsUpdateCells, area_from, rest_emptied}
use Rattle.request_kinds.proofs.MergesOnce.{merge_cells_once, unmerge_cells_once}
use Rattle.request_kinds.proofs.RangesOnce.{add_named_range_once, least_unused_once, update_named_range_once}
use Rattle.request_kinds.proofs.RowsAppended.{append_cells_once}
use Rattle.request_kinds.proofs.RowsOnce.{on_area_once, rows_once}

-- one thing is told
abbrev IsOne : (Result (Reply × List BookChange) Rule → Type 0) → Type 0
IsOne Is = (told told' : Result (Reply × List BookChange) Rule) → Is told → Is told' → told ≡ told'

new_number_once : (is_used : ℕ → Bool) (asked : Option ℕ) (one other : ℕ) → IsNewId (IsLeastUnused is_used) asked one
    → IsNewId (IsLeastUnused is_used) asked other → one ≡ other
new_number_once is_used (Some asked) one other is is' = is ∙ sym is'
new_number_once is_used None one other is is' = least_unused_once is_used one other is is'

module _ (user : List ℕ) (book : PlaceBook) where
  protection_added_once : (id : Option ℕ) (patch : ProtectionPatch) (broken : Option Rule)
      → IsOne (IsProtectionAdded user id patch book broken)
  protection_added_once id patch (Some broken) told told' is is' = is ∙ sym is'
  protection_added_once id patch None told told' (new, is, tells) (new', is', tells') =
      tells ∙ ap (λ new. Ok (put_among user book (protection_made user patch book new)))
      (new_number_once (has_id book.protections) id new new' is is')
      ∙ sym tells'

module _ (project : List ℕ) (book : PlaceBook) where
  item_created_once : (asked : NewMetadata) (broken : Option Rule)
      → IsOne (UnlessBroken broken (IsMetadataCreated project asked book))
  item_created_once asked (Some broken) told told' is is' = is ∙ sym is'
  item_created_once asked None told told' is is' =
      is.told_is ∙ ap (λ id. Ok (item_put book (item_made project asked id)))
      (new_number_once (listed.has_id book.metadata) asked.metadata_id is.id is'.id is.new is'.new)
      ∙ sym is'.told_is

  items_updated_once : (asked : List MetadataLookup) (patch : MetadataPatch) (broken : Option Rule)
      → IsOne (UnlessBroken broken (IsMetadataUpdated project asked patch book))
  items_updated_once asked patch (Some broken) told told' is is' = is ∙ sym is'
  items_updated_once asked patch None told told' is is' =
      let after = metadata_updated project asked patch book in
      is.told_is
      ∙ ap (λ ids. Ok (reply.UpdateDeveloperMetadata (items_seen project ids after), BookChange.MetadataSet after ∷ []))
      (ids_once (found_by_some (lookups_of asked) project book.metadata) is.ids is'.ids is.in_order is'.in_order)
      ∙ sym is'.told_is

  items_deleted_once : (asked : MetadataLookup) (broken : Option Rule)
      → IsOne (UnlessBroken broken (IsMetadataDeleted project asked book))
  items_deleted_once asked (Some broken) told told' is is' = is ∙ sym is'
  items_deleted_once asked None told told' is is' =
      let left = not_found (lookup_of asked) project book.metadata in
      is.told_is
      ∙ ap (λ ids. Ok (
        reply.DeleteDeveloperMetadata (items_seen project ids book.metadata),
        BookChange.MetadataSet left ∷ [],
      ))
      (ids_once (found (lookup_of asked) project book.metadata) is.ids is'.ids is.in_order is'.in_order)
      ∙ sym is'.told_is

module _ (news : NewSheetsOnce) (book : PlaceBook) where
  added_once : (properties : SheetProperties) (broken : Option Rule) → IsOne (IsAdded properties book.sheets broken)
  added_once properties (Some broken) told told' is is' = is ∙ sym is'
  added_once properties None told told' (new, is, tells) (new', is', tells') =
      tells
      ∙ ap (λ new. Ok
      (sheet_reply properties book.sheets new, BookChange.SheetAdded (new_place properties book.sheets) new ∷ []))
      (news.once properties book.sheets new new' is is')
      ∙ sym tells'

  add_sheet_once : (given : Option SheetProperties) → IsOne (IsAddSheet given book)
  add_sheet_once given =
      let properties = unwrap_or given any_properties in
      added_once properties (first_broken (sheet_added_broken properties book.sheets))

module _ (news : NewSheetsOnce) (writes : WritesOnce) (apart : ChangesApart) (turns : ChangesInTurn)
    (lists : ListsAreSame) (user project : List ℕ) (book : PlaceBook) (sound : IsSound book) where
  update_cells_once : (rows : Block) (area : UpdatedArea) → IsOne (IsUpdateCells rows area book)
  update_cells_once rows (Start cell) =
      on_area_once (AreRowsWritten [] rows true book)
      (λ area. rows_once writes apart turns [] rows true area book sound)
      (area_or_broken book.sheets (area_from cell))
  update_cells_once rows (Range range) =
      on_area_once (λ area. AreRowsWritten (rest_emptied area rows) rows false book area)
      (λ area. rows_once writes apart turns (rest_emptied area rows) rows false area book sound)
      (area_or_broken book.sheets range)

  by_kind_once : (asked : Request) → IsOne (IsDoneByKind user project book asked)
  by_kind_once (request.UpdateCells rows area) = update_cells_once rows area
  by_kind_once (request.AddSheet properties) = add_sheet_once news book properties
  by_kind_once (request.DeleteSheet sheet) = λ told told' is is'. is ∙ sym is'
  by_kind_once (request.UpdateSheetProperties sheet properties) = λ told told' is is'. is ∙ sym is'
  by_kind_once (request.AppendCells sheet rows) = append_cells_once writes apart turns user sheet rows book sound
  by_kind_once (request.InsertDimension range inherit) = λ told told' is is'. is ∙ sym is'
  by_kind_once (request.DeleteDimension range) = λ told told' is is'. is ∙ sym is'
  by_kind_once (request.AppendDimension sheet dimension length) = λ told told' is is'. is ∙ sym is'
  by_kind_once (request.MoveDimension source destination) = λ told told' is is'. is ∙ sym is'
  by_kind_once (request.MergeCells range type) = merge_cells_once lists book range type
  by_kind_once (request.UnmergeCells range) = unmerge_cells_once lists book range
  by_kind_once (request.AddNamedRange range) = add_named_range_once book range
  by_kind_once (request.UpdateNamedRange id name range) = update_named_range_once book id name range
  by_kind_once (request.DeleteNamedRange id) = λ told told' is is'. is ∙ sym is'
  by_kind_once (request.AddProtectedRange id patch) =
      protection_added_once user book id patch (first_broken (protection_added_broken id patch book))
  by_kind_once (request.UpdateProtectedRange id patch) = λ told told' is is'. is ∙ sym is'
  by_kind_once (request.DeleteProtectedRange id) = λ told told' is is'. is ∙ sym is'
  by_kind_once (request.SetBasicFilter filter) = λ told told' is is'. is ∙ sym is'
  by_kind_once (request.ClearBasicFilter sheet) = λ told told' is is'. is ∙ sym is'
  by_kind_once (request.CreateDeveloperMetadata item) =
      item_created_once project book item (first_broken (metadata_created_broken item book))
  by_kind_once (request.UpdateDeveloperMetadata filters patch) =
      items_updated_once project book filters patch (first_broken (metadata_updated_broken filters patch book))
  by_kind_once (request.DeleteDeveloperMetadata filter) =
      items_deleted_once project book filter (first_broken (broken_by_lookups book.sheets (filter ∷ [])))

  pub done_once : (asked : Request) → IsOne (IsDoneAsAsked user project book asked)
  done_once asked =
      unless_once user book (TouchedCells book.sheets asked) (IsDoneByKind user project book asked) (by_kind_once asked)
