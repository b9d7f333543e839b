-- RowData, CellData and ExtendedValue (Google Sheets API v4 reference), and the requests for cells.
use Rattle.std.specs.Prelude.{ℕ, true, List, [], codes, Option, None, Some, unwrap_or, if◌then◌else◌}
use Rattle.std.specs.Str.{bytes_eq}
use Rattle.cell_value.specs.declared.entered.Input.{Input}
use Rattle.cell_value.specs.declared.entered.Input.TheVariants.{Empty}
use Rattle.cell_value.specs.declared.entered.Mode.TheVariants.{Raw, UserEntered}
use Rattle.json_requests.specs.declared.request.UpdatedArea.{UpdatedArea}
use Rattle.json_requests.specs.declared.request.UpdatedArea.TheVariants.{Start, Range}
use Rattle.json_requests.specs.declared.request.Request.{Request}
use Rattle.json_requests.specs.declared.request.Request.TheVariants as request
use Rattle.json_shapes.specs.Members.{Fields, optional, required, also, making, way, or_else, just_one, object_of}
use Rattle.json_shapes.specs.Shapes.{entered, list_of, such_that, is_number, is_text, is_truth, is_formula_text}
use Rattle.json_shapes.specs.Scalars.{index}
use Rattle.json_shapes.specs.Masks.{PathList, mask}
use Rattle.json_requests.specs.Blocks.{block_of}
use Rattle.json_requests.specs.Areas.{grid_range, grid_coordinate}

-- ---- values

-- a text as it is, and a formula as it is typed
abbrev pub extended_value : Fields Input
extended_value = just_one (or_else (or_else (or_else
    (way (codes "numberValue") (such_that is_number (entered Raw)))
    (way (codes "stringValue") (such_that is_text (entered Raw))))
    (way (codes "boolValue") (such_that is_truth (entered Raw))))
    (way (codes "formulaValue") (such_that is_formula_text (entered UserEntered))))

-- a cell without a value is emptied
abbrev pub or_empty : Option Input → Input
or_empty value = unwrap_or value Empty

abbrev pub cell_data : Fields Input
cell_data = making or_empty (optional (codes "userEnteredValue") (object_of extended_value))

abbrev pub or_no_cells : Option (List Input) → List Input
or_no_cells cells = unwrap_or cells []

abbrev pub row_data : Fields (List Input)
row_data = making or_no_cells (optional (codes "values") (list_of (object_of cell_data)))

-- ---- requests

-- of a cell its value alone is written, whether it is given or not
abbrev pub cell_paths : PathList
cell_paths path = if bytes_eq path (codes "userEnteredValue") then Some true else None

abbrev pub updated_area : Fields UpdatedArea
updated_area = just_one (or_else
    (way (codes "start") (object_of (making Start grid_coordinate)))
    (way (codes "range") (object_of (making Range grid_range))))

abbrev pub update_of : (Option (List (List Input)) × List ℕ) × UpdatedArea → Request
update_of parts = request.UpdateCells (block_of None parts.0.0) parts.1

abbrev pub update_cells : Fields Request
update_cells =
    making update_of (also (also
    (optional (codes "rows") (list_of (object_of row_data)))
    (required (codes "fields") (mask cell_paths)))
    updated_area)

abbrev pub append_of : (Option ℕ × List (List Input)) × List ℕ → Request
append_of parts = request.AppendCells (unwrap_or parts.0.0 0) (block_of None (Some parts.0.1))

abbrev pub append_cells : Fields Request
append_cells =
    making append_of (also (also
    (optional (codes "sheetId") index)
    (required (codes "rows") (list_of (object_of row_data))))
    (required (codes "fields") (mask cell_paths)))
