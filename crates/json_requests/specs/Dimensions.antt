-- DimensionRange (Google Sheets API v4 reference), and the requests for rows and columns.
use Rattle.std.specs.Prelude.{ℕ, Bool, codes, Option, Some, unwrap_or}
use Rattle.grid_range.specs.declared.axis.Axis.{Axis}
use Rattle.json_requests.specs.declared.request.DimensionRange.{DimensionRange}
use Rattle.json_requests.specs.declared.request.Request.{Request}
use Rattle.json_requests.specs.declared.request.Request.TheVariants as request
use Rattle.json_shapes.specs.Members.{Fields, optional, required, also, making, object_of}
use Rattle.json_shapes.specs.Shapes.{word}
use Rattle.json_shapes.specs.Scalars.{index, truth}
use Rattle.json_shapes.specs.Words.{dimension_named}

-- ---- ranges

abbrev pub stretch_of : (Option ℕ × Axis) × Option ℕ → Option ℕ → DimensionRange
stretch_of start end = record {
  sheet_id = unwrap_or start.0.0 0;
  dimension = start.0.1;
  start_index = unwrap_or start.1 0;
  end_index = end;
}

-- where it begins
abbrev pub stretch_start : Fields ((Option ℕ × Axis) × Option ℕ)
stretch_start =
    also (also
    (optional (codes "sheetId") index)
    (required (codes "dimension") (word dimension_named)))
    (optional (codes "startIndex") index)

abbrev pub open_range_of : ((Option ℕ × Axis) × Option ℕ) × Option ℕ → DimensionRange
open_range_of parts = stretch_of parts.0 parts.1

abbrev pub dimension_range : Fields DimensionRange
dimension_range = making open_range_of (also stretch_start (optional (codes "endIndex") index))

abbrev pub closed_range_of : ((Option ℕ × Axis) × Option ℕ) × ℕ → DimensionRange
closed_range_of parts = stretch_of parts.0 (Some parts.1)

-- with an end
abbrev pub closed_range : Fields DimensionRange
closed_range = making closed_range_of (also stretch_start (required (codes "endIndex") index))

-- ---- requests

abbrev pub insert_of : DimensionRange × Option Bool → Request
insert_of parts = request.InsertDimension parts.0 parts.1

abbrev pub insert_dimension : Fields Request
insert_dimension =
    making insert_of (also
    (required (codes "range") (object_of closed_range))
    (optional (codes "inheritFromBefore") truth))

abbrev pub delete_dimension : Fields Request
delete_dimension = making request.DeleteDimension (required (codes "range") (object_of dimension_range))

abbrev pub append_of : (Option ℕ × Axis) × ℕ → Request
append_of parts = request.AppendDimension (unwrap_or parts.0.0 0) parts.0.1 parts.1

abbrev pub append_dimension : Fields Request
append_dimension =
    making append_of (also (also
    (optional (codes "sheetId") index)
    (required (codes "dimension") (word dimension_named)))
    (required (codes "length") index))

abbrev pub move_of : DimensionRange × ℕ → Request
move_of parts = request.MoveDimension parts.0 parts.1

abbrev pub move_dimension : Fields Request
move_dimension =
    making move_of (also
    (required (codes "source") (object_of dimension_range))
    (required (codes "destinationIndex") index))
