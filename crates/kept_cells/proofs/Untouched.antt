-- Each request, and each call on a range, leaves the cells that it doesn't touch.
use Rattle.std.proofs.lemmas.Bool.{false≢true}
use Rattle.std.proofs.Common.{◌≡◌, ℕ, ◌+◌, ◌-◌, length, false, refl, sym, subst, List, [], ◌∷◌}
use Rattle.std.specs.Prelude.{Option, None, Some, unwrap_or, Result, Ok, Err, MatchResult}
use Rattle.basic_filter.specs.declared.types.Filter.{Filter}
use Rattle.cell_value.specs.declared.cell.Block.{Block}
use Rattle.grid_range.specs.declared.area.Area.{Area}
use Rattle.protection.specs.Denial.{Cells}
use Rattle.dev_metadata.specs.Listed.{not_found}
use Rattle.dev_metadata.specs.declared.types.Item.{Item}
use Rattle.protection.specs.Listed.{with_one_more, without_id}
use Rattle.protection.specs.declared.range.Protection.{Protection}
use Rattle.protection.specs.declared.range.ProtectionPatch.{ProtectionPatch}
use Rattle.world_model.specs.Book.{PlaceBook}
use Rattle.world_model.specs.BookChange.{BookChange}
use Rattle.world_model.specs.BookChange.BookChange.{FilterSet, ProtectionsSet, RangeAdded, RangeDeleted, SheetDeleted, MetadataSet}
use Rattle.world_model.specs.ChangingLaws.{ChangesApart, ChangesInTurn}
use Rattle.world_model.specs.Sound.{place_sheet_with}
use Rattle.dimension_ops.specs.Broken.{Broken, first_broken, judged_by}
use Rattle.dimension_ops.specs.RangeRequests.{range_of, range_updates}
use Rattle.dimension_ops.specs.SetProperties.{properties_broken, properties_set}
use Rattle.dimension_ops.specs.SheetRequests.{sheet_added_broken, sheet_dropped_broken}
use Rattle.dimension_ops.specs.declared.rule.Rule.{Rule}
use Rattle.values_api.specs.Denials.{NoCells}
use Rattle.json_requests.specs.declared.request.NewNamedRange.{NewNamedRange}
use Rattle.json_requests.specs.declared.request.Request.{Request}
use Rattle.json_requests.specs.declared.request.Request.TheVariants as request
use Rattle.json_requests.specs.declared.request.UpdatedArea.{UpdatedArea}
use Rattle.json_requests.specs.declared.request.UpdatedArea.TheVariants.{Start, Range}
use Rattle.sheets_json.specs.declared.spreadsheet.Reply.{Reply}
use Rattle.sheets_json.specs.declared.spreadsheet.Reply.TheVariants as reply_of
use Rattle.json_requests.specs.declared.request.MetadataLookup.{MetadataLookup}
use Rattle.json_requests.specs.declared.request.MetadataPatch.{MetadataPatch}
use Rattle.json_requests.specs.declared.request.NewMetadata.{NewMetadata}
use Rattle.request_kinds.specs.AddNamedRange.{IsRangePut, names_broken, put_behind}
use Rattle.request_kinds.specs.AddProtectedRange.{IsProtectionAdded, protection_added_broken, protection_made, put_among}
use Rattle.request_kinds.specs.AddSheet.{any_properties}
use Rattle.request_kinds.specs.DeleteNamedRange.{range_deleted_broken}
use Rattle.request_kinds.specs.CreateDeveloperMetadata.{IsMetadataCreated, item_made, item_put, metadata_created_broken, with_item}
use Rattle.request_kinds.specs.DeleteDeveloperMetadata.{IsMetadataDeleted}
use Rattle.request_kinds.specs.Metadata.{broken_by_lookups, lookup_of}
use Rattle.request_kinds.specs.Telling.{UnlessBroken}
use Rattle.request_kinds.specs.UpdateDeveloperMetadata.{IsMetadataUpdated, metadata_updated, metadata_updated_broken}
use Rattle.request_kinds.specs.DeleteProtectedRange.{protection_deleted_broken}
use Rattle.request_kinds.specs.Dimensions.{MovedCells, append_broken, end_of, insert_broken, lines_there, move_broken}
use Rattle.request_kinds.specs.ClearBasicFilter.{filter_cleared_broken}
use Rattle.request_kinds.specs.Requests.{IsDoneByKind}
use Rattle.request_kinds.specs.Rows.{cut_on}
use Rattle.request_kinds.specs.SetBasicFilter.{broken_by_filter, put_on}
use Rattle.request_kinds.specs.Touching.{TouchedCells}
use Rattle.request_kinds.specs.UpdateCells.{UpdatedCells, IsUpdateCells}
use Rattle.request_kinds.specs.UpdateNamedRange.{IsRangeSet, IsUpdateNamedRange}
use Rattle.request_kinds.specs.UpdateProtectedRange.{protection_updated_broken, protections_updated}
use Rattle.request_kinds.specs.TellingLaws.{as_reply, match_changes, reply_apart, reply_changes}
use Rattle.kept_cells.specs.Untouched.{appends_rows}
use Rattle.kept_cells.proofs.UntouchedKinds.{Leave, changes_told, deleted_leave, inserted_leave, moved_leave, plain_leave, properties_leave, range_set_leave, sheet_added_leave, sheet_deleted_leave}
use Rattle.kept_cells.proofs.UntouchedMerges.{merged_leave, unmerged_leave}
use Rattle.kept_cells.proofs.UntouchedRange.{range_leave}
use Rattle.kept_cells.proofs.UntouchedRows.{cells_from_leave, on_area_done}

-- ---- one change

-- what is told where no rule is broken leaves what its changes leave
judged_leave : (book : PlaceBook) (cells : Cells) (broken : Broken) (reply reply' : Reply)
    (changes changes' : List BookChange)
    → Leave [] cells book changes' → as_reply (reply, changes) ≡ judged_by broken (reply', changes')
    → Leave [] cells book changes
judged_leave book cells broken reply reply' changes changes' leave is =
    subst (Leave [] cells book) (changes_told (first_broken broken) reply reply' changes changes' is) leave

protections_leave : (book : PlaceBook) (protections : List Protection)
    → Leave [] NoCells book (ProtectionsSet protections ∷ [])
protections_leave book protections =
    plain_leave NoCells book (ProtectionsSet protections) (λ named id row col. tt) (λ id. tt)

protection_added_leave : (user : List ℕ) (id : Option ℕ) (patch : ProtectionPatch) (book : PlaceBook)
    (first : Option Rule)
    (reply : Reply) (changes : List BookChange) → IsProtectionAdded user id patch book first (as_reply (reply, changes))
    → Leave [] NoCells book changes
protection_added_leave user id patch book (Some broken) reply changes is =
    absurd (reply_apart (reply, changes) broken is)
protection_added_leave user id patch book None reply changes (new, is_new, is) =
    subst (Leave [] NoCells book)
    (reply_changes (reply, changes) (put_among user book (protection_made user patch book new)) is)
    (protections_leave book (with_one_more (protection_made user patch book new) book.protections))

metadata_leaves : (book : PlaceBook) (items : List Item) → Leave [] NoCells book (MetadataSet items ∷ [])
metadata_leaves book items = plain_leave NoCells book (MetadataSet items) (λ named id row col. tt) (λ id. tt)

item_created_leaves : (project : List ℕ) (asked : NewMetadata) (book : PlaceBook) (first : Option Rule) (reply : Reply)
    (changes : List BookChange) → UnlessBroken first (IsMetadataCreated project asked book) (as_reply (reply, changes))
    → Leave [] NoCells book changes
item_created_leaves project asked book (Some broken) reply changes is = absurd (reply_apart (reply, changes) broken is)
item_created_leaves project asked book None reply changes is =
    subst (Leave [] NoCells book)
    (reply_changes (reply, changes) (item_put book (item_made project asked is.id)) is.told_is)
    (metadata_leaves book (with_item (item_made project asked is.id) book.metadata))

items_updated_leave : (project : List ℕ) (asked : List MetadataLookup) (patch : MetadataPatch) (book : PlaceBook)
    (first : Option Rule) (reply : Reply) (changes : List BookChange)
    → UnlessBroken first (IsMetadataUpdated project asked patch book) (as_reply (reply, changes))
    → Leave [] NoCells book changes
items_updated_leave project asked patch book (Some broken) reply changes is =
    absurd (reply_apart (reply, changes) broken is)
items_updated_leave project asked patch book None reply changes is =
    subst (Leave [] NoCells book) (reply_changes (reply, changes) _ is.told_is)
    (metadata_leaves book (metadata_updated project asked patch book))

items_deleted_leave : (project : List ℕ) (asked : MetadataLookup) (book : PlaceBook) (first : Option Rule)
    (reply : Reply)
    (changes : List BookChange) → UnlessBroken first (IsMetadataDeleted project asked book) (as_reply (reply, changes))
    → Leave [] NoCells book changes
items_deleted_leave project asked book (Some broken) reply changes is = absurd (reply_apart (reply, changes) broken is)
items_deleted_leave project asked book None reply changes is =
    subst (Leave [] NoCells book) (reply_changes (reply, changes) _ is.told_is)
    (metadata_leaves book (not_found (lookup_of asked) project book.metadata))

-- ---- filters

filter_leaves : (book : PlaceBook) (sheet : ℕ) (filter : Option Filter)
    → Leave [] NoCells book (FilterSet sheet filter ∷ [])
filter_leaves book sheet filter =
    plain_leave NoCells book (FilterSet sheet filter) (λ named id row col. tt) (λ id. tt)

-- ---- named ranges

range_put_leave : (asked : NewNamedRange) (book : PlaceBook) (area : Area) (reply : Reply) (changes : List BookChange)
    → IsRangePut asked book area (as_reply (reply, changes)) → Leave [] NoCells book changes
range_put_leave asked book area reply changes put = go put.added put.tells
  where
    go : (added : Result (List ℕ) Rule)
        → MatchResult added
        (λ id. as_reply (reply, changes)
        ≡ judged_by (names_broken (length book.ranges + 1)) (put_behind (range_of id asked.name area)))
        (λ broken. as_reply (reply, changes) ≡ Err broken)
        → Leave [] NoCells book changes
    go (Ok id) is = judged_leave book NoCells (names_broken (length book.ranges + 1)) reply _ changes
        (RangeAdded (range_of id asked.name area) ∷ [])
        (plain_leave NoCells book (RangeAdded (range_of id asked.name area)) (λ named id row col. tt) (λ id. tt)) is
    go (Err broken) is = absurd (reply_apart (reply, changes) broken is)

range_changed_leave : (id : List ℕ) (name : Option (List ℕ)) (book : PlaceBook) (area : Option Area) (reply : Reply)
    (changes : List BookChange) → IsRangeSet id name book area (as_reply (reply, changes))
    → Leave [] NoCells book changes
range_changed_leave id name book area reply changes set =
    subst (Leave [] NoCells book)
    (match_changes set.updated (reply, changes) (λ done. (reply_of.Empty, range_updates id name area book.ranges))
    (range_updates id name area book.ranges) (λ done. refl) set.tells)
    (range_set_leave NoCells book id name area)

update_range_leave : (id : List ℕ) (name : Option (List ℕ)) (area : Option Area) (book : PlaceBook) (reply : Reply)
    (changes : List BookChange) → IsUpdateNamedRange id name area book (as_reply (reply, changes))
    → Leave [] NoCells book changes
update_range_leave id name None book reply changes is = range_changed_leave id name book None reply changes is
update_range_leave id name (Some area) book reply changes is =
    range_changed_leave id name book _ reply changes
    (on_area_done book.sheets area (λ area. IsRangeSet id name book (Some area)) (reply, changes) is)

-- ---- kinds

module _ (apart : ChangesApart) (turns : ChangesInTurn) (user project : List ℕ) (book : PlaceBook) (reply : Reply)
    (changes : List BookChange) where
  abbrev Leaves : Cells → Type 0
  Leaves cells = Leave [] cells book changes

  refused : (cells : Cells) (broken : Rule) → as_reply (reply, changes) ≡ Err broken → Leaves cells
  refused cells broken is = absurd (reply_apart (reply, changes) broken is)

  update_cells_leave : (rows : Block) (area : UpdatedArea) → IsUpdateCells rows area book (as_reply (reply, changes))
      → Leaves (UpdatedCells rows area book.sheets)
  update_cells_leave rows (Start cell) is = cells_from_leave apart turns rows cell book reply changes is
  update_cells_leave rows (Range range) is = range_leave rows range book reply changes is

  pub by_kind_leave : (asked : Request) → appends_rows asked ≡ false
      → IsDoneByKind user project book asked (as_reply (reply, changes))
      → Leaves (TouchedCells book.sheets asked)
  by_kind_leave (request.UpdateCells rows area) none is = update_cells_leave rows area is
  by_kind_leave (request.AppendCells sheet rows) none is = absurd (false≢true (sym none))
  by_kind_leave (request.AddSheet given) none is =
      sheet_added_leave book (unwrap_or given any_properties)
      (first_broken (sheet_added_broken (unwrap_or given any_properties) book.sheets)) reply changes refl is
  by_kind_leave (request.DeleteSheet sheet) none is =
      judged_leave book _ (sheet_dropped_broken sheet book.sheets) reply reply_of.Empty changes
      (SheetDeleted sheet ∷ [])
      (sheet_deleted_leave book sheet) is
  by_kind_leave (request.UpdateSheetProperties sheet properties) none is =
      judged_leave book _ (properties_broken sheet properties book.sheets) reply reply_of.Empty changes
      (properties_set sheet properties book.sheets) (properties_leave book sheet properties) is
  by_kind_leave (request.InsertDimension range inherits) none is =
      inserted_leave book NoCells range.sheet_id range.dimension reply changes
      (insert_broken range (unwrap_or inherits false) book.sheets) range.start_index
      (end_of range book.sheets - range.start_index) is
  by_kind_leave (request.DeleteDimension range) none is = deleted_leave book range reply changes is
  by_kind_leave (request.AppendDimension sheet axis length) none is =
      inserted_leave book NoCells sheet axis reply changes (append_broken sheet length book.sheets)
      (lines_there sheet axis book.sheets) length is
  by_kind_leave (request.MoveDimension range to) none is =
      moved_leave book (MovedCells range to book.sheets) range.sheet_id range.dimension reply changes
      (move_broken range to book.sheets) range.start_index (end_of range book.sheets) to is
  by_kind_leave (request.MergeCells range type) none is = merged_leave range type book (reply, changes) is
  by_kind_leave (request.UnmergeCells range) none is = unmerged_leave range book (reply, changes) is
  by_kind_leave (request.AddNamedRange asked) none is =
      range_put_leave asked book _ reply changes
      (on_area_done book.sheets asked.range (IsRangePut asked book) (reply, changes) is)
  by_kind_leave (request.UpdateNamedRange id name range) none is =
      update_range_leave id name range book reply changes is
  by_kind_leave (request.DeleteNamedRange id) none is =
      judged_leave book NoCells (range_deleted_broken id book.ranges) reply reply_of.Empty changes
      (RangeDeleted id ∷ [])
      (plain_leave NoCells book (RangeDeleted id) (λ named id row col. tt) (λ id. tt)) is
  by_kind_leave (request.AddProtectedRange id patch) none is =
      protection_added_leave user id patch book (first_broken (protection_added_broken id patch book)) reply changes is
  by_kind_leave (request.UpdateProtectedRange id patch) none is =
      judged_leave book NoCells (protection_updated_broken user id patch book) reply reply_of.Empty changes
      (ProtectionsSet (protections_updated user id patch book) ∷ [])
      (protections_leave book (protections_updated user id patch book)) is
  by_kind_leave (request.DeleteProtectedRange id) none is =
      judged_leave book NoCells (protection_deleted_broken user id book) reply reply_of.Empty changes
      (ProtectionsSet (without_id id book.protections) ∷ [])
      (protections_leave book (without_id id book.protections)) is
  by_kind_leave (request.SetBasicFilter filter) none is =
      let found = place_sheet_with filter.area.sheet book.sheets in
      judged_leave book NoCells (broken_by_filter found filter) reply reply_of.Empty changes
      (put_on filter (cut_on found filter.area)).1
      (filter_leaves book filter.area.sheet (Some (record filter { area = cut_on found filter.area }))) is
  by_kind_leave (request.ClearBasicFilter sheet) none is =
      judged_leave book NoCells (filter_cleared_broken sheet book.sheets) reply reply_of.Empty changes
      (FilterSet sheet None ∷ []) (filter_leaves book sheet None) is
  by_kind_leave (request.CreateDeveloperMetadata item) none is =
      item_created_leaves project item book (first_broken (metadata_created_broken item book)) reply changes is
  by_kind_leave (request.UpdateDeveloperMetadata filters patch) none is =
      items_updated_leave project filters patch book (first_broken (metadata_updated_broken filters patch book)) reply
      changes is
  by_kind_leave (request.DeleteDeveloperMetadata filter) none is =
      items_deleted_leave project filter book (first_broken (broken_by_lookups book.sheets (filter ∷ [])))
      reply changes is
