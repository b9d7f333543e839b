-- The body of spreadsheets.create (Google Sheets API v4 reference, Spreadsheet).
use Rattle.std.specs.Prelude.{ℕ, List, [], codes, Option, None, unwrap_or}
use Rattle.cell_value.specs.declared.cell.SheetProperties.{SheetProperties}
use Rattle.sheets_json.specs.declared.call.NewSpreadsheet.{NewSpreadsheet}
use Rattle.json_shapes.specs.Reading.{Reading, both, made}
use Rattle.json_shapes.specs.Members.{Fields, optional, also, making, object_of}
use Rattle.json_shapes.specs.Shapes.{text, kept, list_of}
use Rattle.json_requests.specs.Sheets.{sheet_properties}
use Rattle.sheets_json.specs.ValueRanges.{in_turn}

-- a sheet of which nothing is asked
abbrev pub any_sheet : SheetProperties
any_sheet = record { id = None; title = None; index = None; hidden = None; rows = None; cols = None }

abbrev pub or_any : Option SheetProperties → SheetProperties
or_any asked = unwrap_or asked any_sheet

abbrev pub new_sheet : Fields SheetProperties
new_sheet = making or_any (optional (codes "properties") (object_of sheet_properties))

-- SpreadsheetProperties
abbrev pub title : Fields (Option (List ℕ))
title = optional (codes "title") text

abbrev pub new_spreadsheet_of : Option (Option (List ℕ)) × Option (List SheetProperties) → NewSpreadsheet
new_spreadsheet_of parts = record { title = unwrap_or parts.0 None; sheets = unwrap_or parts.1 [] }

abbrev pub new_spreadsheet_from : Option (Reading (Option (List ℕ))) × Option (Reading (List SheetProperties))
    → Reading NewSpreadsheet
new_spreadsheet_from parts = made new_spreadsheet_of (both (in_turn parts.0) (in_turn parts.1))

-- both are judged in their turn
abbrev pub new_spreadsheet : Fields (Reading NewSpreadsheet)
new_spreadsheet =
    making new_spreadsheet_from (also
    (optional (codes "properties") (kept (object_of title)))
    (optional (codes "sheets") (kept (list_of (object_of new_sheet)))))
