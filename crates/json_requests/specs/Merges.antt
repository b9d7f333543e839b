-- The requests for merged cells (Google Sheets API v4 reference, MergeCellsRequest and UnmergeCellsRequest).
use Rattle.std.specs.Prelude.{ℕ, List, codes, if◌then◌else◌, Option, None, Some}
use Rattle.std.specs.Str.{bytes_eq}
use Rattle.grid_range.specs.declared.area.Area.{Area}
use Rattle.json_requests.specs.declared.request.MergeType.{MergeType}
use Rattle.json_requests.specs.declared.request.MergeType.TheVariants.{All, Columns, Rows}
use Rattle.json_requests.specs.declared.request.Request.{Request}
use Rattle.json_requests.specs.declared.request.Request.TheVariants as request
use Rattle.json_shapes.specs.Members.{Fields, required, also, making, object_of}
use Rattle.json_shapes.specs.Shapes.{word}
use Rattle.json_requests.specs.Areas.{grid_range}

abbrev pub merge_type_named : List ℕ → Option MergeType
merge_type_named name =
    if bytes_eq name (codes "MERGE_ALL") then Some All
    else if bytes_eq name (codes "MERGE_COLUMNS") then Some Columns
    else if bytes_eq name (codes "MERGE_ROWS") then Some Rows
    else None

abbrev pub merge_of : Area × MergeType → Request
merge_of parts = request.MergeCells parts.0 parts.1

abbrev pub merge_cells : Fields Request
merge_cells =
    making merge_of (also
    (required (codes "range") (object_of grid_range))
    (required (codes "mergeType") (word merge_type_named)))

abbrev pub unmerge_cells : Fields Request
unmerge_cells = making request.UnmergeCells (required (codes "range") (object_of grid_range))
