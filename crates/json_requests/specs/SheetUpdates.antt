-- The update of a sheet's properties (Google Sheets API v4 reference, UpdateSheetPropertiesRequest).
use Rattle.std.specs.Prelude.{ℕ, List, codes, if◌then◌else◌, Option, None, Some, unwrap_or}
use Rattle.std.specs.Str.{bytes_eq}
use Rattle.serde_json.specs.Data.{Data}
use Rattle.cell_value.specs.declared.cell.SheetProperties.{SheetProperties}
use Rattle.json_requests.specs.declared.request.Request.{Request}
use Rattle.json_requests.specs.declared.request.Request.TheVariants as request
use Rattle.json_requests.specs.declared.sheet_update.StatedProperties.{StatedProperties}
use Rattle.json_shapes.specs.Members.{Fields, making, object_of}
use Rattle.json_shapes.specs.Masks.{PathList, member_of, states, taken, masked}
use Rattle.json_requests.specs.Sheets.{sheet_properties}

-- what the properties of a request state
abbrev pub stated_properties : Option Data → StatedProperties
stated_properties properties = record {
  title = states (codes "title") properties;
  hidden = states (codes "hidden") properties;
  row_count = states (codes "rowCount") (member_of (codes "gridProperties") properties);
  column_count = states (codes "columnCount") (member_of (codes "gridProperties") properties);
}

abbrev pub property_paths : StatedProperties → PathList
property_paths stated path =
    if bytes_eq path (codes "title") then Some stated.title
    else if bytes_eq path (codes "hidden") then Some stated.hidden
    else if bytes_eq path (codes "gridProperties.rowCount") then Some stated.row_count
    else if bytes_eq path (codes "gridProperties.columnCount") then Some stated.column_count
    else None

-- the properties that the mask takes
abbrev pub masked_properties : SheetProperties × List ℕ → SheetProperties
masked_properties parts = record {
  id = None;
  title = taken parts.1 (codes "title") parts.0.title;
  index = None;
  hidden = taken parts.1 (codes "hidden") parts.0.hidden;
  rows = taken parts.1 (codes "gridProperties.rowCount") parts.0.rows;
  cols = taken parts.1 (codes "gridProperties.columnCount") parts.0.cols;
}

abbrev pub update_of : SheetProperties × List ℕ → Request
update_of parts = request.UpdateSheetProperties (unwrap_or parts.0.id 0) (masked_properties parts)

abbrev pub update_sheet_properties : Fields Request
update_sheet_properties =
    making update_of
    (masked (codes "properties") (object_of sheet_properties) (λ body. property_paths (stated_properties body)))
