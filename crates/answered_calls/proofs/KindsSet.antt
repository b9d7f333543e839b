-- Each request that adds or sets things of a spreadsheet, or deletes a named range, a protected one or metadata, is
-- told something that can be made.
use Rattle.std.proofs.Common.{ℕ, Bool, true, false, List}
use Rattle.std.specs.Prelude.{IsTrue}
use Rattle.std.proofs.lemmas.Bool.{false≢true}
use Rattle.dev_metadata.specs.Order.{HaveOrder}
use Rattle.world_model.specs.Book.{PlaceBook}
use Rattle.world_model.specs.ChangingLaws.{ChangesInTurn, UpdatesAreChanges}
use Rattle.world_model.specs.FilterLaws.{FilterIsSet}
use Rattle.world_model.specs.MergeLaws.{MergesAreSet}
use Rattle.world_model.specs.MetadataLaws.{MetadataIsSet}
use Rattle.world_model.specs.ProtectionLaws.{ProtectionsAreSet}
use Rattle.world_model.specs.RangeLaws.{RangesAdded, RangesDeleted}
use Rattle.world_model.specs.SheetLaws.{SheetsAdded, SheetsHidden, SheetsTitled}
use Rattle.world_model.specs.Sound.{IsSound}
use Rattle.values_api.specs.CellsUpdate.{CellsUpdate}
use Rattle.json_requests.specs.declared.request.Request.{Request}
use Rattle.json_requests.specs.declared.request.Request.TheVariants as request
use Rattle.request_kinds.specs.Requests.{IsDoneAsAsked, IsDoneByKind}
use Rattle.answered_calls.proofs.CellsMerged.{merge_made}
use Rattle.answered_calls.proofs.FiltersSet.{clear_filter_made, set_filter_made}
use Rattle.answered_calls.proofs.MergesSet.{unmerge_made}
use Rattle.answered_calls.proofs.MetadataSet.{create_metadata_made, delete_metadata_made, update_metadata_made}
use Rattle.answered_calls.proofs.NamedRangesAdded.{HasFewRanges, add_range_made, delete_range_made}
use Rattle.answered_calls.proofs.PropertiesSet.{set_properties_made}
use Rattle.answered_calls.proofs.SizesSet.{SizesChange}
use Rattle.answered_calls.proofs.ProtectionsSet.{add_protection_made, delete_protection_made, update_protection_made}
use Rattle.answered_calls.proofs.SheetsAdded.{add_sheet_made}
use Rattle.answered_calls.proofs.Telling.{IsMadeSome, asked_made}

-- the request is of one of these kinds
abbrev pub adds_or_sets : Request → Bool
adds_or_sets (request.AddSheet properties) = true
adds_or_sets (request.UpdateSheetProperties sheet properties) = true
adds_or_sets (request.MergeCells range type) = true
adds_or_sets (request.UnmergeCells range) = true
adds_or_sets (request.AddNamedRange range) = true
adds_or_sets (request.DeleteNamedRange id) = true
adds_or_sets (request.AddProtectedRange id patch) = true
adds_or_sets (request.UpdateProtectedRange id patch) = true
adds_or_sets (request.DeleteProtectedRange id) = true
adds_or_sets (request.CreateDeveloperMetadata item) = true
adds_or_sets (request.UpdateDeveloperMetadata filters patch) = true
adds_or_sets (request.DeleteDeveloperMetadata filter) = true
adds_or_sets (request.SetBasicFilter filter) = true
adds_or_sets (request.ClearBasicFilter sheet) = true
adds_or_sets (request.UpdateCells rows area) = false
adds_or_sets (request.AppendCells sheet rows) = false
adds_or_sets (request.DeleteSheet sheet) = false
adds_or_sets (request.InsertDimension range inherits) = false
adds_or_sets (request.DeleteDimension range) = false
adds_or_sets (request.AppendDimension sheet axis length) = false
adds_or_sets (request.MoveDimension range to) = false
adds_or_sets (request.UpdateNamedRange id name range) = false

module _ (added : SheetsAdded) (titled : SheetsTitled) (hides : SheetsHidden) (merges : MergesAreSet)
    (ranges : RangesAdded) (ranges_deleted : RangesDeleted) (protections : ProtectionsAreSet)
    (metadata : MetadataIsSet) (order : HaveOrder) (filters : FilterIsSet) (turns : ChangesInTurn)
    (updates : UpdatesAreChanges) (update : CellsUpdate) (lines : SizesChange) (user project : List ℕ)
    (book : PlaceBook) (sound : IsSound book) (few : HasFewRanges book) where
  pub of_kind_made : (asked : Request) → IsTrue (adds_or_sets asked)
      → IsMadeSome book (IsDoneByKind user project book asked)
  of_kind_made (request.AddSheet properties) is = add_sheet_made added book sound properties
  of_kind_made (request.UpdateSheetProperties sheet properties) is =
      set_properties_made turns titled hides lines sheet properties book sound
  of_kind_made (request.MergeCells range type) is = merge_made merges turns updates update book sound range type
  of_kind_made (request.UnmergeCells range) is = unmerge_made merges book sound range
  of_kind_made (request.AddNamedRange range) is = add_range_made ranges book few range
  of_kind_made (request.DeleteNamedRange id) is = delete_range_made ranges_deleted book id
  of_kind_made (request.AddProtectedRange id patch) is = add_protection_made protections user book sound id patch
  of_kind_made (request.UpdateProtectedRange id patch) is = update_protection_made protections user book sound id patch
  of_kind_made (request.DeleteProtectedRange id) is = delete_protection_made protections user book sound id
  of_kind_made (request.CreateDeveloperMetadata item) is =
      create_metadata_made metadata order project book sound item
  of_kind_made (request.UpdateDeveloperMetadata filters patch) is =
      update_metadata_made metadata order project book sound filters patch
  of_kind_made (request.DeleteDeveloperMetadata filter) is =
      delete_metadata_made metadata order project book sound filter
  of_kind_made (request.SetBasicFilter filter) is = set_filter_made filters book filter
  of_kind_made (request.ClearBasicFilter sheet) is = clear_filter_made filters book sheet
  of_kind_made (request.UpdateCells rows area) is = absurd (false≢true is)
  of_kind_made (request.AppendCells sheet rows) is = absurd (false≢true is)
  of_kind_made (request.DeleteSheet sheet) is = absurd (false≢true is)
  of_kind_made (request.InsertDimension range inherits) is = absurd (false≢true is)
  of_kind_made (request.DeleteDimension range) is = absurd (false≢true is)
  of_kind_made (request.AppendDimension sheet axis length) is = absurd (false≢true is)
  of_kind_made (request.MoveDimension range to) is = absurd (false≢true is)
  of_kind_made (request.UpdateNamedRange id name range) is = absurd (false≢true is)

  pub of_kind_asked : (asked : Request) → IsTrue (adds_or_sets asked)
      → IsMadeSome book (IsDoneAsAsked user project book asked)
  of_kind_asked asked is = asked_made user project book asked (of_kind_made asked is)
