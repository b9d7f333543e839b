-- Each request adds or changes at most one named range, and most kinds of requests none.
use Rattle.json_requests.specs.declared.request.NewNamedRange.{NewNamedRange}
use Rattle.std.proofs.Common.{◌≤◌, ℕ, ◌+◌, refl, List, [], ◌∷◌, length, true, false, arith}
use Rattle.std.specs.Prelude.{◌==◌, IsSomeAnd, None, Option, Some, Result, Ok, Err, unwrap_or}
use Rattle.std.specs.Option.{option_map_or}
use Rattle.cell_value.specs.declared.cell.SheetProperties.{SheetProperties}
use Rattle.grid_range.specs.declared.area.Area.{Area}
use Rattle.grid_range.specs.declared.change.Change.TheVariants.{Insert, Delete}
use Rattle.named_ranges.specs.Listed.{with_id}
use Rattle.named_ranges.specs.declared.range.NamedRange.{NamedRange}
use Rattle.protection.specs.declared.range.ProtectionPatch.{ProtectionPatch}
use Rattle.world_model.specs.Book.{PlaceBook}
use Rattle.world_model.specs.BookChange.{BookChange}
use Rattle.world_model.specs.Sheet.{PlaceSheet}
use Rattle.world_model.specs.Sound.{place_sheet_with}
use Rattle.dimension_ops.specs.Broken.{first_broken, judged_by}
use Rattle.dimension_ops.specs.RangeRequests.{range_of, range_set, range_updates}
use Rattle.dimension_ops.specs.SetProperties.{properties_broken, properties_set}
use Rattle.dimension_ops.specs.declared.rule.Rule.{Rule}
use Rattle.values_api.specs.Denials.{unless_denied}
use Rattle.json_requests.specs.declared.request.Request.{Request}
use Rattle.json_requests.specs.declared.request.Request.TheVariants as request
use Rattle.json_requests.specs.declared.request.UpdatedArea.TheVariants.{Range, Start}
use Rattle.sheets_json.specs.declared.spreadsheet.Reply.{Reply}
use Rattle.sheets_json.specs.declared.spreadsheet.Reply.TheVariants as reply
use Rattle.request_kinds.specs.AddNamedRange.{IsRangePut, names_broken, put_behind}
use Rattle.request_kinds.specs.AddProtectedRange.{IsProtectionAdded, protection_added_broken, protection_made, put_among}
use Rattle.request_kinds.specs.AddSheet.{IsAdded, any_properties}
use Rattle.request_kinds.specs.CreateDeveloperMetadata.{IsMetadataCreated, metadata_created_broken}
use Rattle.request_kinds.specs.DeleteDeveloperMetadata.{IsMetadataDeleted}
use Rattle.request_kinds.specs.MergeCells.{AreCellsMerged, AreMergedOn, IsMergeAfter, covered_emptied, rectangle_on}
use Rattle.json_requests.specs.declared.request.MergeType.{MergeType}
use Rattle.merge_ranges.specs.Calls.{IsLeft}
use Rattle.values_api.specs.Blocks.{rows_needed}
use Rattle.request_kinds.specs.Merging.{AreMergesAsked, AreMergesSet}
use Rattle.request_kinds.specs.Metadata.{broken_by_lookups}
use Rattle.request_kinds.specs.Requests.{IsDoneAsAsked, IsDoneByKind}
use Rattle.request_kinds.specs.Rows.{AreRowsWritten, area_or_broken}
use Rattle.request_kinds.specs.UnmergeCells.{AreUnmergedOn}
use Rattle.request_kinds.specs.UpdateCells.{area_from, rest_emptied}
use Rattle.request_kinds.specs.UpdateDeveloperMetadata.{IsMetadataUpdated, metadata_updated_broken}
use Rattle.request_kinds.specs.UpdateNamedRange.{IsRangeSet}
use Rattle.request_kinds.specs.AddSheet.{sheet_reply}
use Rattle.request_kinds.specs.CreateDeveloperMetadata.{item_made, item_put}
use Rattle.dimension_ops.specs.SheetRequests.{new_place, sheet_added_broken, sheet_dropped_broken}
use Rattle.request_kinds.specs.Dimensions.{append_broken, delete_broken, insert_broken, insertion, end_of, lines_there, move_broken}
use Rattle.grid_range.specs.declared.change.Change.TheVariants.{Move}
use Rattle.request_kinds.specs.DeleteNamedRange.{range_deleted_broken}
use Rattle.request_kinds.specs.UpdateProtectedRange.{protection_updated_broken, protections_updated}
use Rattle.request_kinds.specs.DeleteProtectedRange.{protection_deleted_broken}
use Rattle.protection.specs.Listed.{without_id}
use Rattle.request_kinds.specs.SetBasicFilter.{broken_by_filter, put_on}
use Rattle.request_kinds.specs.ClearBasicFilter.{filter_cleared_broken}
use Rattle.request_kinds.specs.Rows.{cut_on}
use Rattle.request_kinds.specs.UpdateDeveloperMetadata.{metadata_updated}
use Rattle.request_kinds.specs.Metadata.{items_seen, lookup_of}
use Rattle.dev_metadata.specs.Listed.{not_found}
use Rattle.answered_calls.proofs.RangesCounted.{all_set_by}
use Rattle.answered_calls.proofs.RangesTold.{SetsFew, SetsNone, all_none, appended_few, as_reply, as_told, judged, lines_few, matched, on_area, rows_few, unless_broken, unless_denied_few}

abbrev Told : Type 0
Told = Result (Reply × List BookChange) Rule

-- ---- named ranges

renamed_few : (name : Option (List ℕ)) (range : NamedRange)
    → SetsNone (option_map_or (λ given. BookChange.WordsRenamed range.name given ∷ []) name [])
renamed_few None range = refl
renamed_few (Some given) range = refl

updates_one : (name : Option (List ℕ)) (area : Option Area) (found : Option NamedRange)
    → all_set_by (option_map_or (range_set name area) found []) ≤ 1
updates_one name area None = omega arith
updates_one name area (Some range) = let none = renamed_few name range in omega (arith, none)

range_set_few : (id : List ℕ) (name : Option (List ℕ)) (book : PlaceBook) (area : Option Area) (told : Told)
    → IsRangeSet id name book area told → SetsFew 1 told
range_set_few id name book area told is =
    let one = updates_one name area (with_id id book.ranges) in
    matched 1 is.updated (λ done. as_reply (reply.Empty, range_updates id name area book.ranges))
    (λ done. one) told is.tells

range_put_few : (asked : NewNamedRange) (book : PlaceBook) (area : Area) (told : Told)
    → IsRangePut asked book area told → SetsFew 1 told
range_put_few asked book area told is =
    let broken = names_broken (length book.ranges + 1) in
    matched 1 is.added (λ id. judged_by broken (put_behind (range_of id asked.name area)))
    (λ id. judged 1 broken (put_behind (range_of id asked.name area)) (omega arith)
    (judged_by broken (put_behind (range_of id asked.name area))) refl) told is.tells

-- ---- sheets and merges

sheet_few : (properties : SheetProperties) (sheets : List PlaceSheet) (first : Option Rule) (told : Told)
    → IsAdded properties sheets first told → SetsFew 0 told
sheet_few properties sheets (Some broken) told is = as_told 0 told (Err broken) is tt
sheet_few properties sheets None told (new, is_new, is) =
    as_told 0 told
    (Ok (sheet_reply properties sheets new, BookChange.SheetAdded (new_place properties sheets) new ∷ [])) is
    (omega arith)

asked_few : (given : Option SheetProperties) (book : PlaceBook) (told : Told)
    → IsDoneByKind [] [] book (request.AddSheet given) told → SetsFew 0 told
asked_few None book told is =
    sheet_few any_properties book.sheets (first_broken (sheet_added_broken any_properties book.sheets)) told is
asked_few (Some properties) book told is =
    sheet_few properties book.sheets (first_broken (sheet_added_broken properties book.sheets)) told is

set_few : (id : ℕ) (IsAfter : List Area → Area → Type 0) (later : List BookChange) (sheet : PlaceSheet) (told : Told)
    → SetsNone later → AreMergesSet id IsAfter later sheet told → SetsFew 0 told
set_few id IsAfter later sheet told none set =
    as_told 0 told (Ok (reply.Empty, BookChange.MergesSet id set.merges ∷ later)) set.told_is (omega (arith, none))

merged_few : (type : MergeType) (book : PlaceBook) (area : Area) (found : Option PlaceSheet) (told : Told)
    → IsSomeAnd found (λ sheet. AreCellsMerged type (rectangle_on sheet area) sheet told) → SetsFew 0 told
merged_few type book area None told is = absurd is
merged_few type book area (Some sheet) told is =
    let rectangle = rectangle_on sheet area in
    unless_broken 0 is.broken
    (AreMergesSet rectangle.sheet (IsMergeAfter type rectangle) (covered_emptied type rectangle) sheet)
    (λ told. set_few rectangle.sheet (IsMergeAfter type rectangle) (covered_emptied type rectangle) sheet told refl)
    told is.told_is

unmerged_few : (area : Area) (found : Option PlaceSheet) (told : Told)
    → IsSomeAnd found (λ sheet. AreMergesAsked area None (IsLeft area) [] sheet told) → SetsFew 0 told
unmerged_few area None told is = absurd is
unmerged_few area (Some sheet) told is =
    unless_broken 0 is.broken (AreMergesSet area.sheet (IsLeft area) [] sheet)
    (λ told. set_few area.sheet (IsLeft area) [] sheet told refl) told is.told_is

-- ---- protected ranges

protection_few : (user : List ℕ) (id : Option ℕ) (patch : ProtectionPatch) (book : PlaceBook) (first : Option Rule)
    (told : Told) → IsProtectionAdded user id patch book first told → SetsFew 0 told
protection_few user id patch book (Some broken) told is = as_told 0 told (Err broken) is tt
protection_few user id patch book None told (new, is_new, is) =
    as_told 0 told (Ok (put_among user book (protection_made user patch book new))) is (omega arith)

-- ---- all kinds

-- how many named ranges a request adds or changes at most
abbrev pub most_of : Request → ℕ
most_of (request.AddNamedRange asked) = 1
most_of (request.UpdateNamedRange id name area) = 1
most_of (request.UpdateCells rows area) = 0
most_of (request.AppendCells sheet rows) = 0
most_of (request.AddSheet properties) = 0
most_of (request.DeleteSheet sheet) = 0
most_of (request.UpdateSheetProperties sheet properties) = 0
most_of (request.InsertDimension range inherits) = 0
most_of (request.DeleteDimension range) = 0
most_of (request.AppendDimension sheet axis length) = 0
most_of (request.MoveDimension range to) = 0
most_of (request.MergeCells range type) = 0
most_of (request.UnmergeCells range) = 0
most_of (request.DeleteNamedRange id) = 0
most_of (request.AddProtectedRange id patch) = 0
most_of (request.UpdateProtectedRange id patch) = 0
most_of (request.DeleteProtectedRange id) = 0
most_of (request.CreateDeveloperMetadata asked) = 0
most_of (request.UpdateDeveloperMetadata asked patch) = 0
most_of (request.DeleteDeveloperMetadata asked) = 0
most_of (request.SetBasicFilter filter) = 0
most_of (request.ClearBasicFilter sheet) = 0

pub most_one : (asked : Request) → most_of asked ≤ 1
most_one (request.AddNamedRange asked) = omega arith
most_one (request.UpdateNamedRange id name area) = omega arith
most_one (request.UpdateCells rows area) = omega arith
most_one (request.AppendCells sheet rows) = omega arith
most_one (request.AddSheet properties) = omega arith
most_one (request.DeleteSheet sheet) = omega arith
most_one (request.UpdateSheetProperties sheet properties) = omega arith
most_one (request.InsertDimension range inherits) = omega arith
most_one (request.DeleteDimension range) = omega arith
most_one (request.AppendDimension sheet axis length) = omega arith
most_one (request.MoveDimension range to) = omega arith
most_one (request.MergeCells range type) = omega arith
most_one (request.UnmergeCells range) = omega arith
most_one (request.DeleteNamedRange id) = omega arith
most_one (request.AddProtectedRange id patch) = omega arith
most_one (request.UpdateProtectedRange id patch) = omega arith
most_one (request.DeleteProtectedRange id) = omega arith
most_one (request.CreateDeveloperMetadata asked) = omega arith
most_one (request.UpdateDeveloperMetadata asked patch) = omega arith
most_one (request.DeleteDeveloperMetadata asked) = omega arith
most_one (request.SetBasicFilter filter) = omega arith
most_one (request.ClearBasicFilter sheet) = omega arith

pub of_kind_few : (user project : List ℕ) (book : PlaceBook) (asked : Request) (told : Told)
    → IsDoneByKind user project book asked told → SetsFew (most_of asked) told
of_kind_few user project book (request.UpdateCells rows (Start cell)) told is =
    on_area 0 (area_or_broken book.sheets (area_from cell)) (AreRowsWritten [] rows true book)
    (λ area told by. rows_few 0 [] rows true by.between area refl told by.put) told is
of_kind_few user project book (request.UpdateCells rows (Range range)) told is =
    on_area 0 (area_or_broken book.sheets range) (λ area. AreRowsWritten (rest_emptied area rows) rows false book area)
    (λ area told by. rows_few 0 (rest_emptied area rows) rows false by.between area refl told by.put) told is
of_kind_few user project book (request.AppendCells sheet rows) told is =
    appended_few 0 user sheet rows book (place_sheet_with sheet book.sheets) (rows_needed rows == 0) told is
of_kind_few user project book (request.AddSheet properties) told is = asked_few properties book told is
of_kind_few user project book (request.DeleteSheet sheet) told is =
    judged 0 (sheet_dropped_broken sheet book.sheets) (reply.Empty, BookChange.SheetDeleted sheet ∷ [])
    (omega arith) told
    is
of_kind_few user project book (request.UpdateSheetProperties sheet properties) told is =
    let none = all_none sheet properties (place_sheet_with sheet book.sheets) in
    judged 0 (properties_broken sheet properties book.sheets)
    (reply.Empty, properties_set sheet properties book.sheets) (omega (arith, none)) told is
of_kind_few user project book (request.InsertDimension range inherits) told is =
    lines_few 0 (insert_broken range (unwrap_or inherits false) book.sheets) range.sheet_id range.dimension
    (insertion range book.sheets) book.sheets told is
of_kind_few user project book (request.DeleteDimension range) told is =
    lines_few 0 (delete_broken range book.sheets) range.sheet_id range.dimension
    (Delete range.start_index (end_of range book.sheets)) book.sheets told is
of_kind_few user project book (request.AppendDimension sheet axis length) told is =
    lines_few 0 (append_broken sheet length book.sheets) sheet axis (Insert (lines_there sheet axis book.sheets) length)
    book.sheets told is
of_kind_few user project book (request.MoveDimension range to) told is =
    lines_few 0 (move_broken range to book.sheets) range.sheet_id range.dimension
    (Move range.start_index (end_of range book.sheets) to) book.sheets told is
of_kind_few user project book (request.MergeCells range type) told is =
    on_area 0 (area_or_broken book.sheets range) (AreMergedOn type book)
    (λ area told by. merged_few type book area (place_sheet_with area.sheet book.sheets) told by) told is
of_kind_few user project book (request.UnmergeCells range) told is =
    on_area 0 (area_or_broken book.sheets range) (AreUnmergedOn book)
    (λ area told by. unmerged_few area (place_sheet_with area.sheet book.sheets) told by) told is
of_kind_few user project book (request.AddNamedRange asked) told is =
    on_area 1 (area_or_broken book.sheets asked.range) (IsRangePut asked book)
    (λ area told by. range_put_few asked book area told by) told is
of_kind_few user project book (request.UpdateNamedRange id name None) told is =
    range_set_few id name book None told is
of_kind_few user project book (request.UpdateNamedRange id name (Some area)) told is =
    on_area 1 (area_or_broken book.sheets area) (λ area. IsRangeSet id name book (Some area))
    (λ area told by. range_set_few id name book (Some area) told by) told is
of_kind_few user project book (request.DeleteNamedRange id) told is =
    judged 0 (range_deleted_broken id book.ranges) (reply.Empty, BookChange.RangeDeleted id ∷ []) (omega arith) told is
of_kind_few user project book (request.AddProtectedRange id patch) told is =
    protection_few user id patch book (first_broken (protection_added_broken id patch book)) told is
of_kind_few user project book (request.UpdateProtectedRange id patch) told is =
    judged 0 (protection_updated_broken user id patch book)
    (reply.Empty, BookChange.ProtectionsSet (protections_updated user id patch book) ∷ []) (omega arith) told is
of_kind_few user project book (request.DeleteProtectedRange id) told is =
    judged 0 (protection_deleted_broken user id book)
    (reply.Empty, BookChange.ProtectionsSet (without_id id book.protections) ∷ []) (omega arith) told is
of_kind_few user project book (request.CreateDeveloperMetadata asked) told is =
    unless_broken 0 (first_broken (metadata_created_broken asked book)) (IsMetadataCreated project asked book)
    (λ told by. as_told 0 told (Ok (item_put book (item_made project asked by.id))) by.told_is (omega arith)) told is
of_kind_few user project book (request.UpdateDeveloperMetadata asked patch) told is =
    let now = metadata_updated project asked patch book in
    unless_broken 0 (first_broken (metadata_updated_broken asked patch book))
    (IsMetadataUpdated project asked patch book) (λ told by.
    as_told 0 told (Ok (
      reply.UpdateDeveloperMetadata (items_seen project by.ids now),
      BookChange.MetadataSet now ∷ [],
    )) by.told_is (omega arith)) told is
of_kind_few user project book (request.DeleteDeveloperMetadata asked) told is =
    unless_broken 0 (first_broken (broken_by_lookups book.sheets (asked ∷ []))) (IsMetadataDeleted project asked book)
    (λ told by. as_told 0 told (Ok (
      reply.DeleteDeveloperMetadata (items_seen project by.ids book.metadata),
      BookChange.MetadataSet (not_found (lookup_of asked) project book.metadata) ∷ [],
    )) by.told_is (omega arith)) told is
of_kind_few user project book (request.SetBasicFilter filter) told is =
    let found = place_sheet_with filter.area.sheet book.sheets in
    judged 0 (broken_by_filter found filter) (put_on filter (cut_on found filter.area)) (omega arith) told is
of_kind_few user project book (request.ClearBasicFilter sheet) told is =
    judged 0 (filter_cleared_broken sheet book.sheets) (reply.Empty, BookChange.FilterSet sheet None ∷ []) (omega arith)
    told is

pub request_few : (user project : List ℕ) (book : PlaceBook) (asked : Request) (told : Told)
    → IsDoneAsAsked user project book asked told → SetsFew (most_of asked) told
request_few user project book asked told is =
    as_told (most_of asked) told (unless_denied is.denied is.done) is.told_is
    (unless_denied_few (most_of asked) is.denied is.done (of_kind_few user project book asked is.done is.is))
