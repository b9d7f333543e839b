-- Answers as JSON values (Google Sheets API v4 reference, Spreadsheet, ValueRange, UpdateValuesResponse,
-- AppendValuesResponse, ClearValuesResponse, DeveloperMetadata, and the responses of batchGet, batchUpdate, batchClear,
-- batchGetByDataFilter and search).
-- Members are put into an object in the order of their names.
use Rattle.std.specs.Prelude.{ℕ, List, codes, Option}
use Rattle.serde_json.specs.Data.{Data, boolean, number, string, object, no_members, put}
use Rattle.serde_json.specs.Find.{of_integer}
use Rattle.cell_value.specs.declared.cell.Cell.{Cell}
use Rattle.cell_value.specs.declared.cell.Cell.TheVariants as cell
use Rattle.sheets_json.specs.declared.answer.MatchedMetadata.{MatchedMetadata}
use Rattle.sheets_json.specs.declared.answer.MatchedRange.{MatchedRange}
use Rattle.sheets_json.specs.declared.answer.ShownRange.{ShownRange}
use Rattle.sheets_json.specs.declared.answer.Update.{Update}
use Rattle.sheets_json.specs.declared.answer.Answer.{Answer}
use Rattle.sheets_json.specs.declared.answer.Answer.TheVariants as answer
use Rattle.sheets_json.specs.Written.{text_data, count_data, list_data, put_given}
use Rattle.sheets_json.specs.Areas.{dimension_data}
use Rattle.sheets_json.specs.Metadata.{item_data, data_filter_data}
use Rattle.sheets_json.specs.Spreadsheets.{spreadsheet_data, batch_data}

-- ---- ranges

abbrev pub cell_data : Cell → Data
cell_data (cell.Text text) = string text
cell_data (cell.Number whole) = number (of_integer whole)
cell_data (cell.Truth truth) = boolean truth

-- ValueRange
abbrev pub range_data : ShownRange → Data
range_data shown = object (
    put (codes "majorDimension") (dimension_data shown.major_dimension) (
    put (codes "range") (text_data shown.range) (
    put_given (codes "values") (list_data (list_data cell_data)) shown.values no_members)))

-- MatchedValueRange
abbrev pub matched_range_data : MatchedRange → Data
matched_range_data matched = object (
    put (codes "dataFilters") (list_data data_filter_data matched.data_filters) (
    put (codes "valueRange") (range_data matched.value_range) no_members))

-- MatchedDeveloperMetadata
abbrev pub matched_metadata_data : MatchedMetadata → Data
matched_metadata_data matched = object (
    put (codes "dataFilters") (list_data data_filter_data matched.data_filters) (
    put (codes "developerMetadata") (item_data matched.developer_metadata) no_members))

-- UpdateValuesResponse
abbrev pub update_data : Update → Data
update_data update = object (
    put (codes "spreadsheetId") (text_data update.spreadsheet_id) (
    put (codes "updatedCells") (count_data update.updated_cells) (
    put (codes "updatedColumns") (count_data update.updated_columns) (
    put (codes "updatedRange") (text_data update.updated_range) (
    put (codes "updatedRows") (count_data update.updated_rows) no_members)))))

-- ---- answers

abbrev pub append_data : List ℕ → Option (List ℕ) → Update → Data
append_data id table updates = object (
    put (codes "spreadsheetId") (text_data id) (
    put_given (codes "tableRange") text_data table (
    put (codes "updates") (update_data updates) no_members)))

abbrev pub clear_data : List ℕ → List ℕ → Data
clear_data range id = object (
    put (codes "clearedRange") (text_data range) (
    put (codes "spreadsheetId") (text_data id) no_members))

abbrev pub read_many_data : List ℕ → List ShownRange → Data
read_many_data id ranges = object (
    put (codes "spreadsheetId") (text_data id) (
    put (codes "valueRanges") (list_data range_data ranges) no_members))

abbrev pub clear_many_data : List (List ℕ) → List ℕ → Data
clear_many_data ranges id = object (
    put (codes "clearedRanges") (list_data text_data ranges) (
    put (codes "spreadsheetId") (text_data id) no_members))

abbrev pub write_many_data : List Update → List ℕ → ℕ → ℕ → ℕ → ℕ → Data
write_many_data responses id cells columns rows sheets = object (
    put (codes "responses") (list_data update_data responses) (
    put (codes "spreadsheetId") (text_data id) (
    put (codes "totalUpdatedCells") (count_data cells) (
    put (codes "totalUpdatedColumns") (count_data columns) (
    put (codes "totalUpdatedRows") (count_data rows) (
    put (codes "totalUpdatedSheets") (count_data sheets) no_members))))))

abbrev pub read_filtered_data : List ℕ → List MatchedRange → Data
read_filtered_data id ranges = object (
    put (codes "spreadsheetId") (text_data id) (
    put (codes "valueRanges") (list_data matched_range_data ranges) no_members))

abbrev pub search_data : Option (List MatchedMetadata) → Data
search_data matched =
    object (put_given (codes "matchedDeveloperMetadata") (list_data matched_metadata_data) matched no_members)

abbrev pub answer_data : Answer → Data
answer_data (answer.Create spreadsheet) = spreadsheet_data spreadsheet
answer_data (answer.Get spreadsheet) = spreadsheet_data spreadsheet
answer_data (answer.Batch replies id) = batch_data replies id
answer_data (answer.Read shown) = range_data shown
answer_data (answer.Write update) = update_data update
answer_data (answer.Append id table updates) = append_data id table updates
answer_data (answer.Clear range id) = clear_data range id
answer_data (answer.ReadMany id ranges) = read_many_data id ranges
answer_data (answer.WriteMany responses id cells columns rows sheets) =
    write_many_data responses id cells columns rows sheets
answer_data (answer.ClearMany ranges id) = clear_many_data ranges id
answer_data (answer.ReadFiltered id ranges) = read_filtered_data id ranges
answer_data (answer.Item item) = item_data item
answer_data (answer.Search matched) = search_data matched
