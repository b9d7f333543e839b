-- SheetProperties (Google Sheets API v4 reference), and the requests for sheets.
use Rattle.std.specs.Prelude.{ℕ, Bool, List, codes, Option, None, Some, if◌then◌else◌, ⊤}
use Rattle.std.specs.Str.{bytes_eq}
use Rattle.cell_value.specs.declared.cell.SheetProperties.{SheetProperties}
use Rattle.json_requests.specs.declared.request.Request.{Request}
use Rattle.json_requests.specs.declared.request.Request.TheVariants as request
use Rattle.json_shapes.specs.Members.{Fields, optional, required, also, making, object_of}
use Rattle.json_shapes.specs.Shapes.{text, word}
use Rattle.json_shapes.specs.Scalars.{index, truth}

-- SheetType: there is one
abbrev pub grid_named : List ℕ → Option ⊤
grid_named name = if bytes_eq name (codes "GRID") then Some tt else None

-- the numbers of rows and columns
abbrev pub grid_properties : Fields (Option ℕ × Option ℕ)
grid_properties = also (optional (codes "rowCount") index) (optional (codes "columnCount") index)

abbrev pub sheet_place : Fields ((Option ℕ × Option (List ℕ)) × Option ℕ)
sheet_place =
    also (also
    (optional (codes "sheetId") index)
    (optional (codes "title") text))
    (optional (codes "index") index)

abbrev pub sheet_form : Fields ((Option Bool × Option ⊤) × Option (Option ℕ × Option ℕ))
sheet_form =
    also (also
    (optional (codes "hidden") truth)
    (optional (codes "sheetType") (word grid_named)))
    (optional (codes "gridProperties") (object_of grid_properties))

abbrev pub rows_of : Option (Option ℕ × Option ℕ) → Option ℕ
rows_of None = None
rows_of (Some counts) = counts.0

abbrev pub columns_of : Option (Option ℕ × Option ℕ) → Option ℕ
columns_of None = None
columns_of (Some counts) = counts.1

abbrev pub properties_of : ((Option ℕ × Option (List ℕ)) × Option ℕ)
    × ((Option Bool × Option ⊤) × Option (Option ℕ × Option ℕ)) → SheetProperties
properties_of parts = record {
  id = parts.0.0.0;
  title = parts.0.0.1;
  index = parts.0.1;
  hidden = parts.1.0.0;
  rows = rows_of parts.1.1;
  cols = columns_of parts.1.1;
}

abbrev pub sheet_properties : Fields SheetProperties
sheet_properties = making properties_of (also sheet_place sheet_form)

-- ---- requests

abbrev pub add_sheet : Fields Request
add_sheet = making request.AddSheet (optional (codes "properties") (object_of sheet_properties))

abbrev pub delete_sheet : Fields Request
delete_sheet = making request.DeleteSheet (required (codes "sheetId") index)
