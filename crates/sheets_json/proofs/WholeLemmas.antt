-- No answer and no refusal has a number with a fraction.
use Rattle.std.proofs.Common.{◌≡◌, ℕ, List, [], ◌∷◌, Bool, true, false, Option, None, Some, refl, true≢false, map}
use Rattle.std.specs.Prelude.{◌||◌, ℤ, pos, negsuc, codes}
use Rattle.std.specs.Cmp.Lexicographic.{slice_cmp}
use Rattle.std.specs.Ordering.{nat_cmp, match_ordering}
use Rattle.std.specs.declared.cmp.Ordering.{Ordering}
use Rattle.std.specs.declared.cmp.Ordering.TheVariants.{Less, Equal, Greater}
use Rattle.serde_json.specs.Data.{Data, boolean, object, Members, no_members, member, put}
use Rattle.serde_json.specs.Find.{of_integer, is_float}
use Rattle.serde_json.specs.View.{items_of}
use Rattle.serde_json.specs.Written.{has_float, items_have_float, members_have_float}
use Rattle.grid_range.specs.declared.axis.Axis.{Axis}
use Rattle.grid_range.specs.declared.axis.Axis.TheVariants.{Rows, Columns}
use Rattle.grid_range.specs.declared.area.Area.{Area}
use Rattle.basic_filter.specs.declared.types.Condition.{Condition}
use Rattle.basic_filter.specs.declared.types.Criterion.{Criterion}
use Rattle.basic_filter.specs.declared.types.Filter.{Filter}
use Rattle.cell_value.specs.declared.cell.Cell.{Cell}
use Rattle.cell_value.specs.declared.cell.Cell.TheVariants as cell
use Rattle.dev_metadata.specs.declared.types.Item.{Item}
use Rattle.dev_metadata.specs.declared.types.VisibilityKind.{VisibilityKind}
use Rattle.dev_metadata.specs.declared.types.VisibilityKind.TheVariants as visibility
use Rattle.dev_metadata.specs.declared.types.Spot.{Spot}
use Rattle.dev_metadata.specs.declared.types.SpotKind.{SpotKind}
use Rattle.dev_metadata.specs.declared.types.SpotKind.TheVariants as spot
use Rattle.named_ranges.specs.declared.range.NamedRange.{NamedRange}
use Rattle.json_requests.specs.declared.request.DataFilter.{DataFilter}
use Rattle.json_requests.specs.declared.request.DataFilter.TheVariants as filter
use Rattle.json_requests.specs.declared.request.Location.{Location}
use Rattle.json_requests.specs.declared.request.Location.TheVariants as location
use Rattle.json_requests.specs.declared.request.MatchingStrategy.{MatchingStrategy}
use Rattle.json_requests.specs.declared.request.MatchingStrategy.TheVariants as strategy
use Rattle.json_requests.specs.declared.request.MetadataLookup.{MetadataLookup}
use Rattle.sheets_json.specs.declared.answer.Answer.{Answer}
use Rattle.sheets_json.specs.declared.answer.Answer.TheVariants as answer
use Rattle.sheets_json.specs.declared.answer.MatchedMetadata.{MatchedMetadata}
use Rattle.sheets_json.specs.declared.answer.MatchedRange.{MatchedRange}
use Rattle.sheets_json.specs.declared.answer.ShownRange.{ShownRange}
use Rattle.sheets_json.specs.declared.answer.Update.{Update}
use Rattle.sheets_json.specs.declared.spreadsheet.DimensionProperties.{DimensionProperties}
use Rattle.sheets_json.specs.declared.spreadsheet.GridData.{GridData}
use Rattle.sheets_json.specs.declared.spreadsheet.Reply.{Reply}
use Rattle.sheets_json.specs.declared.spreadsheet.Reply.TheVariants as reply
use Rattle.sheets_json.specs.declared.spreadsheet.ShownProperties.{ShownProperties}
use Rattle.sheets_json.specs.declared.spreadsheet.ShownProtection.{ShownProtection}
use Rattle.sheets_json.specs.declared.spreadsheet.ShownSheet.{ShownSheet}
use Rattle.sheets_json.specs.declared.spreadsheet.Spreadsheet.{Spreadsheet}
use Rattle.sheets_json.specs.Written.{put_given, put_true, put_filled, put_items, list_data, text_data, count_data}
use Rattle.sheets_json.specs.Areas.{start_of, end_of, area_data, dimension_data, lines_data}
use Rattle.sheets_json.specs.Filters.{type_text, values_of, value_data, condition_data, criterion_data, criteria_members, put_criteria, filter_data}
use Rattle.sheets_json.specs.Metadata.{strategy_data, location_type_data, visibility_data, put_location, location_data, location_of, kind_of}
use Rattle.sheets_json.specs.Metadata.{spot_data, visibility_of, item_data, put_texts, lookup_data, data_filter_data}
use Rattle.sheets_json.specs.Spreadsheets.{named_range_data, editors_data, cover_members, protection_data, title_data, grid_properties_data}
use Rattle.sheets_json.specs.Spreadsheets.{place_members, properties_data, row_data, grid_data, grids_data, own_members, sheet_data, spreadsheet_data}
use Rattle.sheets_json.specs.Spreadsheets.{reply_data, reply_object}
use Rattle.sheets_json.specs.Answers.{cell_data, range_data, matched_range_data, matched_metadata_data, update_data, answer_data}
use Rattle.sheets_json.specs.Refusals.{refusal_data}

-- ---- members and lists

-- a value without a fraction
data Whole (value : Data) : Type 0 where
  whole : has_float value ≡ false → Whole value

-- members without one
data AreWhole (members : Members) : Type 0 where
  are_whole : members_have_float members ≡ false → AreWhole members

is_whole : (value : Data) → Whole value → has_float value ≡ false
is_whole value (whole is) = is

or_false : (a b : Bool) → a ≡ false → b ≡ false → a || b ≡ false
or_false false false a_is b_is = refl
or_false false true a_is b_is = absurd (true≢false b_is)
or_false true b a_is b_is = absurd (true≢false a_is)

neither : (a b : Bool) → a || b ≡ false → (a ≡ false) × (b ≡ false)
neither false b is = (refl, is)
neither true b is = absurd (true≢false is)

put_by : (order : Ordering) (name other : List ℕ) (value before : Data) (later more : Members)
    → has_float value ≡ false → has_float before ≡ false → members_have_float later ≡ false
    → members_have_float more ≡ false
    → members_have_float (match_ordering order (member name value (member other before later))
    (member other value later) (member other before more)) ≡ false
put_by Less name other value before later more v b m p =
    or_false (has_float value) (has_float before || members_have_float later) v
    (or_false (has_float before) (members_have_float later) b m)
put_by Equal name other value before later more v b m p = or_false (has_float value) (members_have_float later) v m
put_by Greater name other value before later more v b m p = or_false (has_float before) (members_have_float more) b p

put_is : (name : List ℕ) (value : Data) (later : Members) → has_float value ≡ false
    → members_have_float later ≡ false → members_have_float (put name value later) ≡ false
put_is name value no_members v m = or_false (has_float value) false v refl
put_is name value (member other before later) v m =
    let (b, rest) = neither (has_float before) (members_have_float later) m in
    put_by (slice_cmp nat_cmp name other) name other value before later (put name value later) v b rest
    (put_is name value later v rest)

none : AreWhole no_members
none = are_whole refl

with_one : (name : List ℕ) {value : Data} {members : Members} → Whole value → AreWhole members
    → AreWhole (put name value members)
with_one name {value = value} {members = members} (whole v) (are_whole m) = are_whole (put_is name value members v m)

with_given : {A : Type 0} (name : List ℕ) (meaning : A → Data) → ((a : A) → Whole (meaning a)) → (value : Option A)
    → {members : Members} → AreWhole members → AreWhole (put_given name meaning value members)
with_given name meaning all None m = m
with_given name meaning all (Some value) m = with_one name (all value) m

with_true : (name : List ℕ) (holds : Bool) {members : Members} → AreWhole members
    → AreWhole (put_true name holds members)
with_true name true m = with_one name {value = boolean true} (whole refl) m
with_true name false m = m

object_whole : {members : Members} → AreWhole members → Whole (object members)
object_whole (are_whole m) = whole m

-- of some items
abbrev any_float : {A : Type 0} → (A → Data) → List A → Bool
any_float meaning items = items_have_float (items_of (map meaning items))

each_whole : {A : Type 0} (meaning : A → Data) → ((a : A) → Whole (meaning a)) → (items : List A)
    → any_float meaning items ≡ false
each_whole meaning all [] = refl
each_whole meaning all (first ∷ items) =
    or_false (has_float (meaning first)) (any_float meaning items) (is_whole (meaning first) (all first))
    (each_whole meaning all items)

list_whole : {A : Type 0} (meaning : A → Data) → ((a : A) → Whole (meaning a)) → (items : List A)
    → Whole (list_data meaning items)
list_whole meaning all items = whole (each_whole meaning all items)

with_items : {A : Type 0} (name : List ℕ) (meaning : A → Data) → ((a : A) → Whole (meaning a)) → (items : List A)
    → {members : Members} → AreWhole members → AreWhole (put_items name meaning items members)
with_items name meaning all [] m = m
with_items name meaning all (first ∷ items) m = with_one name (list_whole meaning all (first ∷ items)) m

text_whole : (text : List ℕ) → Whole (text_data text)
text_whole text = whole refl

with_filled : (name text : List ℕ) {members : Members} → AreWhole members → AreWhole (put_filled name text members)
with_filled name [] m = m
with_filled name (byte ∷ bytes) m = with_one name (text_whole (byte ∷ bytes)) m

texts_whole : (texts : List (List ℕ)) → Whole (list_data text_data texts)
texts_whole texts = list_whole text_data text_whole texts

count_whole : (count : ℕ) → Whole (count_data count)
count_whole count = whole refl

-- ---- areas and lines

area_whole : (area : Area) → Whole (area_data area)
area_whole area = object_whole (
    with_given (codes "endColumnIndex") count_data count_whole (end_of area.cols) (
    with_given (codes "endRowIndex") count_data count_whole (end_of area.rows) (
    with_one (codes "sheetId") (count_whole area.sheet) (
    with_given (codes "startColumnIndex") count_data count_whole (start_of area.cols) (
    with_given (codes "startRowIndex") count_data count_whole (start_of area.rows) none)))))

dimension_whole : (axis : Axis) → Whole (dimension_data axis)
dimension_whole Rows = whole refl
dimension_whole Columns = whole refl

lines_whole : (sheet : ℕ) (dimension : Axis) (start : ℕ) (end : Option ℕ) → Whole (lines_data sheet dimension start end)
lines_whole sheet dimension start end = object_whole (
    with_one (codes "dimension") (dimension_whole dimension) (
    with_given (codes "endIndex") count_data count_whole end (
    with_one (codes "sheetId") (count_whole sheet) (
    with_one (codes "startIndex") (count_whole start) none))))

-- ---- filters

value_whole : (value : List ℕ) → Whole (value_data value)
value_whole value = object_whole (with_one (codes "userEnteredValue") (text_whole value) none)

condition_whole : (asked : Condition) → Whole (condition_data asked)
condition_whole asked = object_whole (
    with_one (codes "type") (text_whole (type_text asked)) (
    with_items (codes "values") value_data value_whole (values_of asked) none))

criterion_whole : (criterion : Criterion) → Whole (criterion_data criterion)
criterion_whole criterion = object_whole (
    with_given (codes "condition") condition_data condition_whole criterion.condition (
    with_items (codes "hiddenValues") text_data text_whole criterion.hidden none))

criteria_whole : (criteria : List Criterion) → AreWhole (criteria_members criteria)
criteria_whole [] = none
criteria_whole (criterion ∷ criteria) = with_one _ (criterion_whole criterion) (criteria_whole criteria)

with_criteria : (criteria : List Criterion) {members : Members} → AreWhole members
    → AreWhole (put_criteria criteria members)
with_criteria [] m = m
with_criteria (criterion ∷ criteria) m =
    with_one (codes "criteria") (object_whole (criteria_whole (criterion ∷ criteria))) m

filter_whole : (shown : Filter) → Whole (filter_data shown)
filter_whole shown =
    object_whole (with_criteria shown.criteria (with_one (codes "range") (area_whole shown.area) none))

-- ---- metadata

location_type_whole : (kind : SpotKind) → Whole (location_type_data kind)
location_type_whole spot.Row = whole refl
location_type_whole spot.Column = whole refl
location_type_whole spot.Sheet = whole refl
location_type_whole spot.Spreadsheet = whole refl

strategy_whole : (one : MatchingStrategy) → Whole (strategy_data one)
strategy_whole strategy.Exact = whole refl
strategy_whole strategy.Intersecting = whole refl

visibility_whole : (kind : VisibilityKind) → Whole (visibility_data kind)
visibility_whole visibility.Document = whole refl
visibility_whole visibility.Project = whole refl

with_location : (asked : Location) {members : Members} → AreWhole members → AreWhole (put_location asked members)
with_location location.Spreadsheet m = with_one (codes "spreadsheet") {value = boolean true} (whole refl) m
with_location (location.Sheet sheet) m = with_one (codes "sheetId") (count_whole sheet) m
with_location (location.DimensionRange range) m =
    with_one (codes "dimensionRange") (lines_whole range.sheet_id range.dimension range.start_index range.end_index) m

location_whole : (asked : Location) → Whole (location_data asked)
location_whole asked = object_whole (with_location asked none)

spot_whole : (lies : Spot) → Whole (spot_data lies)
spot_whole lies =
    object_whole (with_location (location_of lies)
    (with_one (codes "locationType") (location_type_whole (kind_of lies)) none))

item_whole : (item : Item) → Whole (item_data item)
item_whole item = object_whole (
    with_one (codes "location") (spot_whole item.spot) (
    with_one (codes "metadataId") (count_whole item.id) (
    with_one (codes "metadataKey") (text_whole item.key) (
    with_filled (codes "metadataValue") item.value (
    with_one (codes "visibility") (visibility_whole (visibility_of item.visibility)) none)))))

with_texts : (lookup : MetadataLookup) {members : Members} → AreWhole members → AreWhole (put_texts lookup members)
with_texts lookup m =
    with_given (codes "metadataId") count_data count_whole lookup.metadata_id (
    with_given (codes "metadataKey") text_data text_whole lookup.metadata_key (
    with_given (codes "metadataValue") text_data text_whole lookup.metadata_value m))

lookup_whole : (lookup : MetadataLookup) → Whole (lookup_data lookup)
lookup_whole lookup = object_whole (
    with_given (codes "locationMatchingStrategy") strategy_data strategy_whole lookup.location_matching_strategy (
    with_given (codes "locationType") location_type_data location_type_whole lookup.location_type (
    with_given (codes "metadataLocation") location_data location_whole lookup.metadata_location (
    with_texts lookup (
    with_given (codes "visibility") visibility_data visibility_whole lookup.visibility none)))))

data_filter_whole : (asked : DataFilter) → Whole (data_filter_data asked)
data_filter_whole (filter.DeveloperMetadataLookup lookup) =
    object_whole (with_one (codes "developerMetadataLookup") (lookup_whole lookup) none)
data_filter_whole (filter.A1Range range) = object_whole (with_one (codes "a1Range") (text_whole range) none)
data_filter_whole (filter.GridRange area) = object_whole (with_one (codes "gridRange") (area_whole area) none)

-- ---- spreadsheets

named_whole : (named : NamedRange) → Whole (named_range_data named)
named_whole named = object_whole (
    with_one (codes "name") (text_whole named.name) (
    with_one (codes "namedRangeId") (text_whole named.id) (
    with_one (codes "range") (area_whole named.area) none)))

editors_whole : (users : List (List ℕ)) → Whole (editors_data users)
editors_whole users = object_whole (with_one (codes "users") (texts_whole users) none)

cover_whole : (protection : ShownProtection) → AreWhole (cover_members protection)
cover_whole protection =
    with_one (codes "protectedRangeId") (count_whole protection.protected_range_id) (
    with_one (codes "range") (area_whole protection.range) (
    with_one (codes "requestingUserCanEdit") {value = boolean protection.requesting_user_can_edit} (whole refl) (
    with_items (codes "unprotectedRanges") area_data area_whole protection.unprotected_ranges (
    with_true (codes "warningOnly") protection.warning_only none))))

protection_whole : (protection : ShownProtection) → Whole (protection_data protection)
protection_whole protection = object_whole (
    with_filled (codes "description") protection.description (
    with_given (codes "editors") editors_data editors_whole protection.editors (cover_whole protection)))

grid_properties_whole : (properties : ShownProperties) → Whole (grid_properties_data properties)
grid_properties_whole properties = object_whole (
    with_one (codes "columnCount") (count_whole properties.column_count) (
    with_one (codes "rowCount") (count_whole properties.row_count) none))

place_whole : (properties : ShownProperties) → AreWhole (place_members properties)
place_whole properties =
    with_one (codes "index") (count_whole properties.index) (
    with_one (codes "sheetId") (count_whole properties.sheet_id) (
    with_one (codes "sheetType") (text_whole (codes "GRID")) (
    with_one (codes "title") (text_whole properties.title) none)))

properties_whole : (properties : ShownProperties) → Whole (properties_data properties)
properties_whole properties = object_whole (
    with_one (codes "gridProperties") (grid_properties_whole properties) (
    with_true (codes "hidden") properties.hidden (place_whole properties)))

row_whole : (row : DimensionProperties) → Whole (row_data row)
row_whole row = object_whole (with_true (codes "hiddenByFilter") row.hidden_by_filter none)

grid_whole : (grid : GridData) → Whole (grid_data grid)
grid_whole grid = object_whole (with_one (codes "rowMetadata") (list_whole row_data row_whole grid.row_metadata) none)

grids_whole : (grid : GridData) → Whole (grids_data grid)
grids_whole grid = list_whole grid_data grid_whole (grid ∷ [])

own_whole : (sheet : ShownSheet) → AreWhole (own_members sheet)
own_whole sheet =
    with_given (codes "merges") (list_data area_data) (list_whole area_data area_whole) sheet.merges (
    with_one (codes "properties") (properties_whole sheet.properties) (
    with_given (codes "protectedRanges") (list_data protection_data) (list_whole protection_data protection_whole)
    sheet.protected_ranges none))

sheet_whole : (sheet : ShownSheet) → Whole (sheet_data sheet)
sheet_whole sheet = object_whole (
    with_given (codes "basicFilter") filter_data filter_whole sheet.basic_filter (
    with_given (codes "data") grids_data grids_whole sheet.data (own_whole sheet)))

title_whole : (title : List ℕ) → Whole (title_data title)
title_whole title = object_whole (with_one (codes "title") (text_whole title) none)

spreadsheet_whole : (spreadsheet : Spreadsheet) → Whole (spreadsheet_data spreadsheet)
spreadsheet_whole spreadsheet = object_whole (
    with_given (codes "namedRanges") (list_data named_range_data) (list_whole named_range_data named_whole)
    spreadsheet.named_ranges (
    with_one (codes "properties") (title_whole spreadsheet.title) (
    with_one (codes "sheets") (list_whole sheet_data sheet_whole spreadsheet.sheets) (
    with_one (codes "spreadsheetId") (text_whole spreadsheet.spreadsheet_id) none))))

reply_object_whole : (kind name : List ℕ) {value : Data} → Whole value → Whole (reply_object kind name value)
reply_object_whole kind name v = object_whole (with_one kind (object_whole (with_one name v none)) none)

items_whole : (items : List Item) → Whole (list_data item_data items)
items_whole items = list_whole item_data item_whole items

reply_whole : (replied : Reply) → Whole (reply_data replied)
reply_whole reply.Empty = object_whole none
reply_whole (reply.AddSheet properties) =
    reply_object_whole (codes "addSheet") (codes "properties") (properties_whole properties)
reply_whole (reply.AddNamedRange named) =
    reply_object_whole (codes "addNamedRange") (codes "namedRange") (named_whole named)
reply_whole (reply.AddProtectedRange protection) =
    reply_object_whole (codes "addProtectedRange") (codes "protectedRange") (protection_whole protection)
reply_whole (reply.CreateDeveloperMetadata item) =
    reply_object_whole (codes "createDeveloperMetadata") (codes "developerMetadata") (item_whole item)
reply_whole (reply.UpdateDeveloperMetadata items) =
    reply_object_whole (codes "updateDeveloperMetadata") (codes "developerMetadata") (items_whole items)
reply_whole (reply.DeleteDeveloperMetadata items) =
    reply_object_whole (codes "deleteDeveloperMetadata") (codes "deletedDeveloperMetadata") (items_whole items)

-- ---- answers

whole_number : (z : ℤ) → is_float (of_integer z) ≡ false
whole_number (pos n) = refl
whole_number (negsuc n) = refl

cell_whole : (shown : Cell) → Whole (cell_data shown)
cell_whole (cell.Text text) = whole refl
cell_whole (cell.Number number) = whole (whole_number number)
cell_whole (cell.Truth truth) = whole refl

range_whole : (shown : ShownRange) → Whole (range_data shown)
range_whole shown = object_whole (
    with_one (codes "majorDimension") (dimension_whole shown.major_dimension) (
    with_one (codes "range") (text_whole shown.range) (
    with_given (codes "values") (list_data (list_data cell_data))
    (list_whole (list_data cell_data) (list_whole cell_data cell_whole)) shown.values none)))

filters_whole : (filters : List DataFilter) → Whole (list_data data_filter_data filters)
filters_whole filters = list_whole data_filter_data data_filter_whole filters

matched_range_whole : (matched : MatchedRange) → Whole (matched_range_data matched)
matched_range_whole matched = object_whole (
    with_one (codes "dataFilters") (filters_whole matched.data_filters) (
    with_one (codes "valueRange") (range_whole matched.value_range) none))

matched_metadata_whole : (matched : MatchedMetadata) → Whole (matched_metadata_data matched)
matched_metadata_whole matched = object_whole (
    with_one (codes "dataFilters") (filters_whole matched.data_filters) (
    with_one (codes "developerMetadata") (item_whole matched.developer_metadata) none))

update_whole : (update : Update) → Whole (update_data update)
update_whole update = whole refl

answer_is : (given : Answer) → Whole (answer_data given)
answer_is (answer.Create spreadsheet) = spreadsheet_whole spreadsheet
answer_is (answer.Get spreadsheet) = spreadsheet_whole spreadsheet
answer_is (answer.Batch replies id) = object_whole (
    with_one (codes "replies") (list_whole reply_data reply_whole replies) (
    with_one (codes "spreadsheetId") (text_whole id) none))
answer_is (answer.Read shown) = range_whole shown
answer_is (answer.Write update) = update_whole update
answer_is (answer.Append id table updates) = object_whole (
    with_one (codes "spreadsheetId") (text_whole id) (
    with_given (codes "tableRange") text_data text_whole table (
    with_one (codes "updates") (update_whole updates) none)))
answer_is (answer.Clear range id) = whole refl
answer_is (answer.ReadMany id ranges) = object_whole (
    with_one (codes "spreadsheetId") (text_whole id) (
    with_one (codes "valueRanges") (list_whole range_data range_whole ranges) none))
answer_is (answer.WriteMany responses id cells columns rows sheets) = object_whole (
    with_one (codes "responses") (list_whole update_data update_whole responses) (
    with_one (codes "spreadsheetId") (text_whole id) (
    with_one (codes "totalUpdatedCells") (count_whole cells) (
    with_one (codes "totalUpdatedColumns") (count_whole columns) (
    with_one (codes "totalUpdatedRows") (count_whole rows) (
    with_one (codes "totalUpdatedSheets") (count_whole sheets) none))))))
answer_is (answer.ClearMany ranges id) = object_whole (
    with_one (codes "clearedRanges") (texts_whole ranges) (
    with_one (codes "spreadsheetId") (text_whole id) none))
answer_is (answer.ReadFiltered id ranges) = object_whole (
    with_one (codes "spreadsheetId") (text_whole id) (
    with_one (codes "valueRanges") (list_whole matched_range_data matched_range_whole ranges) none))
answer_is (answer.Item item) = item_whole item
answer_is (answer.Search matched) = object_whole (
    with_given (codes "matchedDeveloperMetadata") (list_data matched_metadata_data)
    (list_whole matched_metadata_data matched_metadata_whole) matched none)

pub answer_whole : (given : Answer) → has_float (answer_data given) ≡ false
answer_whole given = is_whole (answer_data given) (answer_is given)

pub refusal_whole : (code : ℕ) (message : List ℕ) → has_float (refusal_data code message) ≡ false
refusal_whole code message = refl
