-- The bodies of calls on several things (Google Sheets API v4 reference, spreadsheets.batchUpdate,
-- spreadsheets.values.batchUpdate, spreadsheets.values.batchClear, spreadsheets.values.batchGetByDataFilter and
-- spreadsheets.developerMetadata.search).
use Rattle.std.specs.Prelude.{ℕ, List, codes, if◌then◌else◌, Option, None, Some, option_map, Result, Ok, Err, ⊤}
use Rattle.std.specs.Str.{is_utf8}
use Rattle.serde_json.specs.Data.{Data}
use Rattle.serde_json.specs.Read.{read as read_text}
use Rattle.grid_range.specs.declared.axis.Axis.{Axis}
use Rattle.cell_value.specs.declared.cell.Render.{Render}
use Rattle.cell_value.specs.declared.entered.Mode.{Mode}
use Rattle.sheets_json.specs.declared.call.CallFault.{CallFault}
use Rattle.sheets_json.specs.declared.call.CallFault.TheVariants.{BadBody}
use Rattle.sheets_json.specs.declared.call.RangeBlock.{RangeBlock}
use Rattle.json_shapes.specs.Reading.{Reading, Shape}
use Rattle.json_shapes.specs.Members.{Fields, optional, required, also, making, first_part, object_of}
use Rattle.json_shapes.specs.Shapes.{text, word, kept, list_of, only_false, anything}
use Rattle.json_shapes.specs.Words.{dimension_named, mode_named, render_named}
use Rattle.json_requests.specs.declared.request.DataFilter.{DataFilter}
use Rattle.json_requests.specs.declared.request.MetadataLookup.{MetadataLookup}
use Rattle.json_requests.specs.declared.request.Step.{Step}
use Rattle.json_requests.specs.Metadata.{data_filter, lookup_alone}
use Rattle.json_requests.specs.Requests.{step_shape}
use Rattle.sheets_json.specs.ValueRanges.{range_block}

-- no member at all
abbrev pub no_fields : Fields ⊤
no_fields members = record { read = Ok tt; left = members }

abbrev pub clear_many : Fields (List (Reading (List ℕ)))
clear_many = required (codes "ranges") (list_of (kept text))

-- members that change nothing
abbrev pub of_response : Fields ((Option ⊤ × Option Render) × Option ⊤)
of_response =
    also (also
    (optional (codes "includeValuesInResponse") only_false)
    (optional (codes "responseValueRenderOption") (word render_named)))
    (optional (codes "responseDateTimeRenderOption") anything)

abbrev pub data_blocks : Mode → Fields (List (Reading RangeBlock))
data_blocks mode =
    making first_part (also (required (codes "data") (list_of (kept (object_of (range_block mode))))) of_response)

abbrev pub with_mode : {A : Type 0} → Mode → A → Mode × A
with_mode mode blocks = (mode, blocks)

-- how texts are taken is said beside them
abbrev pub under_mode : {A : Type 0} → (Mode → Fields A) → Reading Mode → Fields (Mode × A)
under_mode fields (Ok mode) members = making (with_mode mode) (fields mode) members
under_mode fields (Err fault) members = record { read = Err fault; left = members }

abbrev pub write_many : Fields (Mode × List (Reading RangeBlock))
write_many members =
    under_mode data_blocks (required (codes "valueInputOption") (word mode_named) members).read
    (required (codes "valueInputOption") (word mode_named) members).left

-- ---- filters of data

-- how the values are shown; how dates are shown changes nothing
abbrev pub shown_as : Fields (Option Axis × Option Render)
shown_as =
    making first_part (also (also
    (optional (codes "majorDimension") (word dimension_named))
    (optional (codes "valueRenderOption") (word render_named)))
    (optional (codes "dateTimeRenderOption") anything))

abbrev pub read_filtered : Fields (List (Reading DataFilter) × (Option Axis × Option Render))
read_filtered = also (required (codes "dataFilters") (list_of (kept (object_of data_filter)))) shown_as

-- metadata is looked for, so that a filter of cells is unsupported
abbrev pub search : Fields (List (Reading MetadataLookup))
search = required (codes "dataFilters") (list_of (kept lookup_alone))

-- ---- a batch

abbrev pub of_batch_response : Fields (Option ⊤ × Option ⊤)
of_batch_response =
    also
    (optional (codes "includeSpreadsheetInResponse") only_false)
    (optional (codes "responseIncludeGridData") only_false)

abbrev pub batch : Fields (List Step)
batch = making first_part (also (required (codes "requests") (list_of step_shape)) of_batch_response)

-- ---- bodies

-- the JSON value that a body is, if it is one
abbrev pub json_of : List ℕ → Option Data
json_of body = if is_utf8 body then read_text body else None

abbrev pub or_bad_body : {A : Type 0} → Option (Reading A) → Result A CallFault
or_bad_body None = Err BadBody
or_bad_body (Some (Ok said)) = Ok said
or_bad_body (Some (Err fault)) = Err BadBody

-- what a body of that form says
abbrev pub body_as : {A : Type 0} → Shape A → List ℕ → Result A CallFault
body_as shape body = or_bad_body (option_map shape (json_of body))
