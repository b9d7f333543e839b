-- Each request is told something that can be made, and so a batch has an answer.
use Rattle.std.proofs.Common.{ℕ, List, [], ◌∷◌, false, refl}
use Rattle.std.specs.Prelude.{IsTrue, unwrap_or}
use Rattle.dev_metadata.specs.Order.{HaveOrder}
use Rattle.named_ranges.specs.Listed.{AreNames}
use Rattle.world_model.specs.Book.{PlaceBook}
use Rattle.world_model.specs.BookChange.{BookChange}
use Rattle.world_model.specs.ChangingLaws.{ChangesApart}
use Rattle.world_model.specs.FilterLaws.{FilterIsSet}
use Rattle.world_model.specs.Laws.{StandsForSome}
use Rattle.world_model.specs.MergeLaws.{MergesAreSet}
use Rattle.world_model.specs.MetadataLaws.{MetadataIsSet}
use Rattle.world_model.specs.ProtectionLaws.{ProtectionsAreSet}
use Rattle.world_model.specs.RangeLaws.{RangesAdded, RangesChanged, RangesDeleted, WordsAreRenamed}
use Rattle.world_model.specs.SheetLaws.{SheetsAdded, SheetsDeleted, SheetsHidden, SheetsTitled}
use Rattle.world_model.specs.Sound.{IsSound}
use Rattle.dimension_ops.specs.SheetRequests.{sheet_dropped_broken}
use Rattle.dimension_ops.specs.Broken.{judged_by}
use Rattle.values_api.specs.CellsUpdate.{cells_update}
use Rattle.json_requests.specs.declared.request.Request.{Request}
use Rattle.json_requests.specs.declared.request.Request.TheVariants as request
use Rattle.json_requests.specs.declared.request.Step.{Step}
use Rattle.sheets_json.specs.declared.spreadsheet.Reply.TheVariants as reply
use Rattle.request_kinds.specs.Dimensions.{dimension_appended, dimension_deleted, dimension_inserted, dimension_moved}
use Rattle.request_kinds.specs.Requests.{IsDoneByKind}
use Rattle.batch_engine.specs.Answered.{HasNoAnswer}
use Rattle.batch_engine.specs.Calls.{IsBatchOf}
use Rattle.batch_engine.specs.MadeLaws.{is_made}
use Rattle.answered_calls.proofs.Batched.{IsReady, RequestsMade, batch_answered}
use Rattle.answered_calls.proofs.CallsWritten.{WriteLaws, some_append_cells_done, some_update_cells_done}
use Rattle.answered_calls.proofs.KindsMade.{append_dimension, delete_dimension, delete_sheet, insert_dimension, move_dimension, update_named_range}
use Rattle.answered_calls.proofs.KindsSet.{adds_or_sets, of_kind_made}
use Rattle.answered_calls.proofs.LinesFollowed.{book_after, book_changed}
use Rattle.answered_calls.proofs.LinesMade.{LinesChange}
use Rattle.answered_calls.proofs.LinesTaken.{lines_insert}
use Rattle.answered_calls.proofs.NamedRangesAdded.{HasFewRanges}
use Rattle.answered_calls.proofs.NamesKept.{can_be_made, names_changed}
use Rattle.answered_calls.proofs.RangesKept.{none_kept}
use Rattle.answered_calls.proofs.RangesSet.{RangeLaws, some_update_range}
use Rattle.answered_calls.proofs.SizesChanged.{sizes_change}
use Rattle.answered_calls.proofs.SizesSet.{SizesChange}
use Rattle.answered_calls.proofs.Telling.{IsMadeSome, asked_made, told_made}

-- the laws that requests stand on
pub record RequestLaws : Type 0 where
  pub write : WriteLaws
  pub lines : LinesChange
  pub once : ChangesApart
  pub some : StandsForSome
  pub added : SheetsAdded
  pub titled : SheetsTitled
  pub hides : SheetsHidden
  pub deleted : SheetsDeleted
  pub merges : MergesAreSet
  pub ranges : RangesAdded
  pub ranges_changed : RangesChanged
  pub ranges_deleted : RangesDeleted
  pub renamed : WordsAreRenamed
  pub protections : ProtectionsAreSet
  pub metadata : MetadataIsSet
  pub order : HaveOrder
  pub filters : FilterIsSet

-- ---- lines

sizes : LinesChange → SizesChange
sizes laws = sizes_change laws.changes (λ book sound id axis change count found is long fits untorn. (
  book_after id axis count change book,
  book_changed id axis count change laws.lines laws.ids fits book sound found is long untorn,
))

-- ---- requests

module _ (laws : RequestLaws) (user project : List ℕ) (book : PlaceBook) (sound : IsSound book)
    (names : AreNames book.ranges) (few : HasFewRanges book) where
  abbrev Made : Request → Type 0
  Made asked = IsMadeSome book (IsDoneByKind user project book asked)

  -- those that add or set things
  setting : (asked : Request) → IsTrue (adds_or_sets asked) → Made asked
  setting =
      of_kind_made laws.added laws.titled laws.hides laws.merges laws.ranges laws.ranges_deleted laws.protections
      laws.metadata laws.order laws.filters laws.write.turns laws.write.changes
      (cells_update laws.write.writes laws.write.stay laws.write.follow) (sizes laws.lines) user project book sound few

  range_laws : RangeLaws
  range_laws = record { turns = laws.write.turns; changed = laws.ranges_changed; renamed = laws.renamed }

  by_kind : (asked : Request) → Made asked
  by_kind (request.UpdateCells rows area) = λ none.
      some_update_cells_done laws.write user (λ before after. Unit {0}) none_kept project book sound rows area
      (λ told is can. none told is (is_made (λ after. Unit {0}) book told can))
  by_kind (request.AppendCells sheet rows) = λ none.
      some_append_cells_done laws.write user (λ before after. Unit {0}) none_kept project book sound rows
      (lines_insert laws.lines) sheet (λ told is can. none told is (is_made (λ after. Unit {0}) book told can))
  by_kind (request.DeleteSheet sheet) =
      let told = judged_by (sheet_dropped_broken sheet book.sheets) (reply.Empty, BookChange.SheetDeleted sheet ∷ []) in
      told_made book told (can_be_made book told (delete_sheet user project book told laws.deleted sound sheet refl))
  by_kind (request.InsertDimension range inherits) =
      let told = dimension_inserted range (unwrap_or inherits false) book.sheets in
      told_made book told
      (can_be_made book told (insert_dimension user project book told laws.lines sound range inherits refl))
  by_kind (request.DeleteDimension range) =
      let told = dimension_deleted range book.sheets in
      told_made book told (can_be_made book told (delete_dimension user project book told laws.lines sound range refl))
  by_kind (request.AppendDimension sheet axis length) =
      let told = dimension_appended sheet axis length book.sheets in
      told_made book told
      (can_be_made book told (append_dimension user project book told laws.lines sound sheet axis length refl))
  by_kind (request.MoveDimension range to) =
      let told = dimension_moved range to book.sheets in
      told_made book told
      (can_be_made book told (move_dimension user project book told laws.lines sound range to refl))
  by_kind (request.UpdateNamedRange id name area) = λ none.
      some_update_range range_laws id name book sound names area (λ told is.
      none told is (can_be_made book told (update_named_range user project book told id name area is)))
  by_kind (request.AddSheet properties) = setting (request.AddSheet properties) refl
  by_kind (request.UpdateSheetProperties sheet properties) =
      setting (request.UpdateSheetProperties sheet properties) refl
  by_kind (request.MergeCells range type) = setting (request.MergeCells range type) refl
  by_kind (request.UnmergeCells range) = setting (request.UnmergeCells range) refl
  by_kind (request.AddNamedRange asked) = setting (request.AddNamedRange asked) refl
  by_kind (request.DeleteNamedRange id) = setting (request.DeleteNamedRange id) refl
  by_kind (request.AddProtectedRange id patch) = setting (request.AddProtectedRange id patch) refl
  by_kind (request.UpdateProtectedRange id patch) = setting (request.UpdateProtectedRange id patch) refl
  by_kind (request.DeleteProtectedRange id) = setting (request.DeleteProtectedRange id) refl
  by_kind (request.CreateDeveloperMetadata item) = setting (request.CreateDeveloperMetadata item) refl
  by_kind (request.UpdateDeveloperMetadata filters patch) =
      setting (request.UpdateDeveloperMetadata filters patch) refl
  by_kind (request.DeleteDeveloperMetadata filter) = setting (request.DeleteDeveloperMetadata filter) refl
  by_kind (request.SetBasicFilter filter) = setting (request.SetBasicFilter filter) refl
  by_kind (request.ClearBasicFilter sheet) = setting (request.ClearBasicFilter sheet) refl

pub requests_made : RequestLaws → RequestsMade
requests_made laws user project book sound names few asked =
    asked_made user project book asked (by_kind laws user project book sound names few asked)

pub batches_answered : RequestLaws → (user project : List ℕ) (requests : List Step) (book : PlaceBook)
    → IsReady requests book → ¬ (HasNoAnswer (IsBatchOf user project requests book))
batches_answered laws user project requests book ready =
    batch_answered laws.write.turns laws.once laws.some names_changed (requests_made laws) user project requests book
    ready
