-- What a request asks for: its call, by its route and its body (Google Sheets API v4 reference).
use Rattle.std.specs.Prelude.{ℕ, List, [], ◌∷◌, codes, Option, unwrap_or, Result, Ok, Err}
use Rattle.grid_range.specs.declared.axis.Axis.{Axis}
use Rattle.cell_value.specs.declared.cell.Render.{Render}
use Rattle.cell_value.specs.declared.entered.Mode.{Mode}
use Rattle.cell_value.specs.declared.entered.Mode.TheVariants.{Raw}
use Rattle.sheets_http.specs.declared.routes.Route.{Route}
use Rattle.sheets_http.specs.declared.verb.Verb.{Verb}
use Rattle.sheets_http.specs.declared.verb.Verb.TheVariants as verb
use Rattle.sheets_json.specs.declared.call.Call.{Call}
use Rattle.sheets_json.specs.declared.call.Call.TheVariants as call
use Rattle.json_requests.specs.declared.request.DataFilter.{DataFilter}
use Rattle.json_requests.specs.declared.request.MetadataLookup.{MetadataLookup}
use Rattle.json_requests.specs.declared.request.Step.{Step}
use Rattle.json_requests.specs.WholeTexts.{index_named}
use Rattle.sheets_json.specs.declared.call.NewSpreadsheet.{NewSpreadsheet}
use Rattle.sheets_json.specs.declared.call.ValueRange.{ValueRange}
use Rattle.sheets_json.specs.declared.call.RangeBlock.{RangeBlock}
use Rattle.sheets_json.specs.declared.call.CallFault.{CallFault}
use Rattle.sheets_json.specs.declared.call.CallFault.TheVariants.{BadBody, EmptyBatch}
use Rattle.json_shapes.specs.Reading.{Reading}
use Rattle.json_shapes.specs.Members.{object_of}
use Rattle.json_shapes.specs.Words.{dimension_named, render_named, mode_named}
use Rattle.sheets_json.specs.Words.{insert_named, truth_named, query_values, query_word}
use Rattle.sheets_json.specs.ValueRanges.{value_range}
use Rattle.sheets_json.specs.Creations.{new_spreadsheet}
use Rattle.sheets_json.specs.Bodies.{body_as, batch, no_fields, clear_many, write_many, read_filtered, search}

-- how texts are taken, which a query of such a call says
abbrev pub mode_of : Route → Mode
mode_of route = unwrap_or (query_word mode_named (codes "valueInputOption") route.query) Raw

-- how a read is asked to show its values
abbrev pub dimension_of : Route → Option Axis
dimension_of route = query_word dimension_named (codes "majorDimension") route.query

abbrev pub render_of : Route → Option Render
render_of route = query_word render_named (codes "valueRenderOption") route.query

-- the id of an item of metadata, an index in digits, which the path of such a call says
abbrev pub item_id_of : Route → ℕ
item_id_of route = unwrap_or (index_named route.id) 0

-- ---- the calls

abbrev pub create_call : Reading NewSpreadsheet → Call
create_call spreadsheet = call.Create spreadsheet

abbrev pub get_call : Route → Call
get_call route = call.Get route.book (query_word truth_named (codes "includeGridData") route.query)

abbrev pub batch_call : Route → List Step → Call
batch_call route steps = call.Batch route.book steps

abbrev pub read_call : Route → Call
read_call route = call.Read route.book route.range (dimension_of route) (render_of route)

abbrev pub write_call : Route → Reading ValueRange → Call
write_call route values = call.Write route.book route.range (mode_of route) values

abbrev pub append_call : Route → Reading ValueRange → Call
append_call route values =
    call.Append route.book route.range (mode_of route)
    (query_word insert_named (codes "insertDataOption") route.query) values

abbrev pub clear_call : Route → Call
clear_call route = call.Clear route.book route.range

abbrev pub read_many_call : Route → List (List ℕ) → Call
read_many_call route ranges = call.ReadMany route.book ranges (dimension_of route) (render_of route)

abbrev pub write_many_call : Route → Mode → List (Reading RangeBlock) → Call
write_many_call route mode blocks = call.WriteMany route.book mode blocks

abbrev pub clear_many_call : Route → List (Reading (List ℕ)) → Call
clear_many_call route ranges = call.ClearMany route.book ranges

abbrev pub read_filtered_call : Route → List (Reading DataFilter) × (Option Axis × Option Render) → Call
read_filtered_call route said = call.ReadFiltered route.book said.0 said.1.0 said.1.1

abbrev pub item_call : Route → Call
item_call route = call.Item route.book (item_id_of route)

abbrev pub search_call : Route → List (Reading MetadataLookup) → Call
search_call route filters = call.Search route.book filters

-- ---- with their bodies

-- a call that has none
abbrev pub without_body : List ℕ → Result Call CallFault → Result Call CallFault
without_body [] answer = answer
without_body (byte ∷ bytes) answer = Err BadBody

-- a call on several things, on one at least
abbrev pub unless_none : {A : Type 0} → List A → Call → Result Call CallFault
unless_none [] asked = Err EmptyBatch
unless_none (first ∷ more) asked = Ok asked

abbrev pub after_body : {A : Type 0} → (A → Result Call CallFault) → Result A CallFault → Result Call CallFault
after_body answer (Ok said) = answer said
after_body answer (Err fault) = Err fault

abbrev pub create_of : List ℕ → Result Call CallFault
create_of body = after_body (λ spreadsheet. Ok (create_call spreadsheet)) (body_as (object_of new_spreadsheet) body)

abbrev pub get_of : Route → List ℕ → Result Call CallFault
get_of route body = without_body body (Ok (get_call route))

abbrev pub many_asked : Route → List Step → Result Call CallFault
many_asked route steps = unless_none steps (batch_call route steps)

abbrev pub batch_of : Route → List ℕ → Result Call CallFault
batch_of route body = after_body (many_asked route) (body_as (object_of batch) body)

abbrev pub read_of : Route → List ℕ → Result Call CallFault
read_of route body = without_body body (Ok (read_call route))

abbrev pub values_of : Route → List ℕ → Result (Reading ValueRange) CallFault
values_of route body = body_as (object_of (value_range (mode_of route))) body

abbrev pub write_of : Route → List ℕ → Result Call CallFault
write_of route body = after_body (λ values. Ok (write_call route values)) (values_of route body)

abbrev pub append_of : Route → List ℕ → Result Call CallFault
append_of route body = after_body (λ values. Ok (append_call route values)) (values_of route body)

abbrev pub clear_with : Route → List ℕ → Result Call CallFault
clear_with route body = after_body (λ _. Ok (clear_call route)) (body_as (object_of no_fields) body)

-- it may lack its body
abbrev pub clear_of : Route → List ℕ → Result Call CallFault
clear_of route [] = Ok (clear_call route)
clear_of route (byte ∷ bytes) = clear_with route (byte ∷ bytes)

abbrev pub ranges_of : Route → List (List ℕ)
ranges_of route = query_values (codes "ranges") route.query

abbrev pub many_read : Route → List (List ℕ) → Result Call CallFault
many_read route ranges = unless_none ranges (read_many_call route ranges)

abbrev pub read_many_of : Route → List ℕ → Result Call CallFault
read_many_of route body = without_body body (many_read route (ranges_of route))

abbrev pub many_written : Route → Mode × List (Reading RangeBlock) → Result Call CallFault
many_written route said = unless_none said.1 (write_many_call route said.0 said.1)

abbrev pub write_many_of : Route → List ℕ → Result Call CallFault
write_many_of route body = after_body (many_written route) (body_as (object_of write_many) body)

abbrev pub many_cleared : Route → List (Reading (List ℕ)) → Result Call CallFault
many_cleared route ranges = unless_none ranges (clear_many_call route ranges)

abbrev pub clear_many_of : Route → List ℕ → Result Call CallFault
clear_many_of route body = after_body (many_cleared route) (body_as (object_of clear_many) body)

abbrev pub many_filtered : Route → List (Reading DataFilter) × (Option Axis × Option Render) → Result Call CallFault
many_filtered route said = unless_none said.0 (read_filtered_call route said)

abbrev pub read_filtered_of : Route → List ℕ → Result Call CallFault
read_filtered_of route body = after_body (many_filtered route) (body_as (object_of read_filtered) body)

abbrev pub item_of : Route → List ℕ → Result Call CallFault
item_of route body = without_body body (Ok (item_call route))

abbrev pub many_searched : Route → List (Reading MetadataLookup) → Result Call CallFault
many_searched route filters = unless_none filters (search_call route filters)

abbrev pub search_of : Route → List ℕ → Result Call CallFault
search_of route body = after_body (many_searched route) (body_as (object_of search) body)

-- ---- all of them

abbrev pub by_verb : Verb → Route → List ℕ → Result Call CallFault
by_verb verb.Create route body = create_of body
by_verb verb.Get route body = get_of route body
by_verb verb.Batch route body = batch_of route body
by_verb verb.Read route body = read_of route body
by_verb verb.Write route body = write_of route body
by_verb verb.Append route body = append_of route body
by_verb verb.Clear route body = clear_of route body
by_verb verb.ReadMany route body = read_many_of route body
by_verb verb.WriteMany route body = write_many_of route body
by_verb verb.ClearMany route body = clear_many_of route body
by_verb verb.ReadFiltered route body = read_filtered_of route body
by_verb verb.Item route body = item_of route body
by_verb verb.Search route body = search_of route body

abbrev pub call_of : Route → List ℕ → Result Call CallFault
call_of route body = by_verb route.verb route body
