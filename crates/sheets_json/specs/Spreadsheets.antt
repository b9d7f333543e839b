-- Spreadsheets as JSON values (Google Sheets API v4 reference, Spreadsheet, Sheet, SheetProperties, GridData,
-- DimensionProperties, NamedRange and ProtectedRange), and the responses of spreadsheets.batchUpdate. Members are put
-- into an object in the order of their names.
use Rattle.std.specs.Prelude.{ℕ, List, [], ◌∷◌, codes}
use Rattle.serde_json.specs.Data.{Data, object, Members, no_members, put}
use Rattle.named_ranges.specs.declared.range.NamedRange.{NamedRange}
use Rattle.sheets_json.specs.declared.spreadsheet.DimensionProperties.{DimensionProperties}
use Rattle.sheets_json.specs.declared.spreadsheet.GridData.{GridData}
use Rattle.sheets_json.specs.declared.spreadsheet.ShownProperties.{ShownProperties}
use Rattle.sheets_json.specs.declared.spreadsheet.ShownProtection.{ShownProtection}
use Rattle.sheets_json.specs.declared.spreadsheet.ShownSheet.{ShownSheet}
use Rattle.sheets_json.specs.declared.spreadsheet.Spreadsheet.{Spreadsheet}
use Rattle.sheets_json.specs.declared.spreadsheet.Reply.{Reply}
use Rattle.sheets_json.specs.declared.spreadsheet.Reply.TheVariants as reply
use Rattle.sheets_json.specs.Written.{text_data, truth_data, count_data, list_data, put_given, put_true, put_filled, put_items}
use Rattle.sheets_json.specs.Areas.{area_data}
use Rattle.sheets_json.specs.Filters.{filter_data}
use Rattle.sheets_json.specs.Metadata.{item_data}

-- ---- ranges

abbrev pub named_range_data : NamedRange → Data
named_range_data named = object (
    put (codes "name") (text_data named.name) (
    put (codes "namedRangeId") (text_data named.id) (
    put (codes "range") (area_data named.area) no_members)))

-- Editors
abbrev pub editors_data : List (List ℕ) → Data
editors_data users = object (put (codes "users") (list_data text_data users) no_members)

-- which cells it covers, and who may edit them
abbrev pub cover_members : ShownProtection → Members
cover_members protection =
    put (codes "protectedRangeId") (count_data protection.protected_range_id) (
    put (codes "range") (area_data protection.range) (
    put (codes "requestingUserCanEdit") (truth_data protection.requesting_user_can_edit) (
    put_items (codes "unprotectedRanges") area_data protection.unprotected_ranges (
    put_true (codes "warningOnly") protection.warning_only no_members))))

-- a description and ranges are said where there are some, and that it only warns where it does
abbrev pub protection_data : ShownProtection → Data
protection_data protection = object (
    put_filled (codes "description") protection.description (
    put_given (codes "editors") editors_data protection.editors (cover_members protection)))

-- ---- sheets

abbrev pub grid_properties_data : ShownProperties → Data
grid_properties_data properties = object (
    put (codes "columnCount") (count_data properties.column_count) (
    put (codes "rowCount") (count_data properties.row_count) no_members))

-- which sheet it is, and where
abbrev pub place_members : ShownProperties → Members
place_members properties =
    put (codes "index") (count_data properties.index) (
    put (codes "sheetId") (count_data properties.sheet_id) (
    put (codes "sheetType") (text_data (codes "GRID")) (
    put (codes "title") (text_data properties.title) no_members)))

-- it is said that a sheet is hidden, and not that it isn't
abbrev pub properties_data : ShownProperties → Data
properties_data properties = object (
    put (codes "gridProperties") (grid_properties_data properties) (
    put_true (codes "hidden") properties.hidden (place_members properties)))

-- it is said that a filter hides a row, and not that none does
abbrev pub row_data : DimensionProperties → Data
row_data row = object (put_true (codes "hiddenByFilter") row.hidden_by_filter no_members)

abbrev pub grid_data : GridData → Data
grid_data grid = object (put (codes "rowMetadata") (list_data row_data grid.row_metadata) no_members)

-- one range of a sheet is shown, which is all of it
abbrev pub grids_data : GridData → Data
grids_data grid = list_data grid_data (grid ∷ [])

-- its merged areas, what is known of the sheet itself, and its protected ranges
abbrev pub own_members : ShownSheet → Members
own_members sheet =
    put_given (codes "merges") (list_data area_data) sheet.merges (
    put (codes "properties") (properties_data sheet.properties) (
    put_given (codes "protectedRanges") (list_data protection_data) sheet.protected_ranges no_members))

abbrev pub sheet_data : ShownSheet → Data
sheet_data sheet = object (
    put_given (codes "basicFilter") filter_data sheet.basic_filter (
    put_given (codes "data") grids_data sheet.data (own_members sheet)))

-- ---- spreadsheets

abbrev pub title_data : List ℕ → Data
title_data title = object (put (codes "title") (text_data title) no_members)

abbrev pub spreadsheet_data : Spreadsheet → Data
spreadsheet_data spreadsheet = object (
    put_given (codes "namedRanges") (list_data named_range_data) spreadsheet.named_ranges (
    put (codes "properties") (title_data spreadsheet.title) (
    put (codes "sheets") (list_data sheet_data spreadsheet.sheets) (
    put (codes "spreadsheetId") (text_data spreadsheet.spreadsheet_id) no_members))))

-- ---- replies

-- a kind's member with what is replied to it
abbrev pub reply_object : List ℕ → List ℕ → Data → Data
reply_object kind name value = object (put kind (object (put name value no_members)) no_members)

abbrev pub reply_data : Reply → Data
reply_data reply.Empty = object no_members
reply_data (reply.AddSheet properties) =
    reply_object (codes "addSheet") (codes "properties") (properties_data properties)
reply_data (reply.AddNamedRange named) =
    reply_object (codes "addNamedRange") (codes "namedRange") (named_range_data named)
reply_data (reply.AddProtectedRange protection) =
    reply_object (codes "addProtectedRange") (codes "protectedRange") (protection_data protection)
reply_data (reply.CreateDeveloperMetadata item) =
    reply_object (codes "createDeveloperMetadata") (codes "developerMetadata") (item_data item)
reply_data (reply.UpdateDeveloperMetadata items) =
    reply_object (codes "updateDeveloperMetadata") (codes "developerMetadata") (list_data item_data items)
reply_data (reply.DeleteDeveloperMetadata items) =
    reply_object (codes "deleteDeveloperMetadata") (codes "deletedDeveloperMetadata") (list_data item_data items)

abbrev pub batch_data : List Reply → List ℕ → Data
batch_data replies id = object (
    put (codes "replies") (list_data reply_data replies) (
    put (codes "spreadsheetId") (text_data id) no_members))
