-- The requests of a batch (Google Sheets API v4 reference, Request).
use Rattle.std.specs.Prelude.{ℕ, List, codes, if◌then◌else◌, Option, None, Some, Ok, Err, String, string_bytes}
use Rattle.std.specs.Str.{bytes_eq}
use Rattle.serde_json.specs.Data.{Data, null, boolean, number, string, array, object, Members, no_members, member}
use Rattle.serde_json.specs.View.{view}
use Rattle.serde_json.specs.declared.value.Value.{Value}
use Rattle.std.specs.declared.alloc.Global.{Global}
use Rattle.json_shapes.specs.declared.fault.ShapeFault.TheVariants.{BadShape, Unsupported}
use Rattle.json_requests.specs.declared.request.Request.{Request}
use Rattle.json_requests.specs.declared.request.Step.{Step}
use Rattle.json_requests.specs.declared.request.Step.TheVariants as step
use Rattle.json_requests.specs.declared.kind.RequestKind.{RequestKind}
use Rattle.json_requests.specs.declared.kind.RequestKind.TheVariants as kind
use Rattle.json_shapes.specs.Reading.{Reading, Shape}
use Rattle.json_shapes.specs.Members.{is_null, are_null, object_of}
use Rattle.json_requests.specs.Sheets.{add_sheet, delete_sheet}
use Rattle.json_requests.specs.SheetUpdates.{update_sheet_properties}
use Rattle.json_requests.specs.Cells.{update_cells, append_cells}
use Rattle.json_requests.specs.Dimensions.{insert_dimension, delete_dimension, append_dimension, move_dimension}
use Rattle.json_requests.specs.Merges.{merge_cells, unmerge_cells}
use Rattle.json_requests.specs.NamedRanges.{add_named_range, update_named_range, delete_named_range}
use Rattle.json_requests.specs.ProtectedRanges.{add_protected_range, update_shape, delete_protected_range}
use Rattle.json_requests.specs.Filters.{set_basic_filter, clear_basic_filter}
use Rattle.json_requests.specs.Metadata.{create_developer_metadata, update_developer_metadata, delete_developer_metadata}

-- ---- kinds

abbrev pub kind_named : List ℕ → Option RequestKind
kind_named name =
    if bytes_eq name (codes "addSheet") then Some kind.AddSheet
    else if bytes_eq name (codes "deleteSheet") then Some kind.DeleteSheet
    else if bytes_eq name (codes "updateSheetProperties") then Some kind.UpdateSheetProperties
    else if bytes_eq name (codes "updateCells") then Some kind.UpdateCells
    else if bytes_eq name (codes "appendCells") then Some kind.AppendCells
    else if bytes_eq name (codes "insertDimension") then Some kind.InsertDimension
    else if bytes_eq name (codes "deleteDimension") then Some kind.DeleteDimension
    else if bytes_eq name (codes "appendDimension") then Some kind.AppendDimension
    else if bytes_eq name (codes "moveDimension") then Some kind.MoveDimension
    else if bytes_eq name (codes "mergeCells") then Some kind.MergeCells
    else if bytes_eq name (codes "unmergeCells") then Some kind.UnmergeCells
    else if bytes_eq name (codes "addNamedRange") then Some kind.AddNamedRange
    else if bytes_eq name (codes "updateNamedRange") then Some kind.UpdateNamedRange
    else if bytes_eq name (codes "deleteNamedRange") then Some kind.DeleteNamedRange
    else if bytes_eq name (codes "addProtectedRange") then Some kind.AddProtectedRange
    else if bytes_eq name (codes "updateProtectedRange") then Some kind.UpdateProtectedRange
    else if bytes_eq name (codes "deleteProtectedRange") then Some kind.DeleteProtectedRange
    else if bytes_eq name (codes "setBasicFilter") then Some kind.SetBasicFilter
    else if bytes_eq name (codes "clearBasicFilter") then Some kind.ClearBasicFilter
    else if bytes_eq name (codes "createDeveloperMetadata") then Some kind.CreateDeveloperMetadata
    else if bytes_eq name (codes "updateDeveloperMetadata") then Some kind.UpdateDeveloperMetadata
    else if bytes_eq name (codes "deleteDeveloperMetadata") then Some kind.DeleteDeveloperMetadata
    else None

abbrev pub of_kind : RequestKind → Shape Request
of_kind kind.AddSheet = object_of add_sheet
of_kind kind.DeleteSheet = object_of delete_sheet
of_kind kind.UpdateSheetProperties = object_of update_sheet_properties
of_kind kind.UpdateCells = object_of update_cells
of_kind kind.AppendCells = object_of append_cells
of_kind kind.InsertDimension = object_of insert_dimension
of_kind kind.DeleteDimension = object_of delete_dimension
of_kind kind.AppendDimension = object_of append_dimension
of_kind kind.MoveDimension = object_of move_dimension
of_kind kind.MergeCells = object_of merge_cells
of_kind kind.UnmergeCells = object_of unmerge_cells
of_kind kind.AddNamedRange = object_of add_named_range
of_kind kind.UpdateNamedRange = object_of update_named_range
of_kind kind.DeleteNamedRange = object_of delete_named_range
of_kind kind.AddProtectedRange = object_of add_protected_range
of_kind kind.UpdateProtectedRange = update_shape
of_kind kind.DeleteProtectedRange = object_of delete_protected_range
of_kind kind.SetBasicFilter = object_of set_basic_filter
of_kind kind.ClearBasicFilter = object_of clear_basic_filter
of_kind kind.CreateDeveloperMetadata = object_of create_developer_metadata
of_kind kind.UpdateDeveloperMetadata = object_of update_developer_metadata
of_kind kind.DeleteDeveloperMetadata = object_of delete_developer_metadata

-- another kind is judged by nothing but that its value is an object
abbrev pub of_no_kind : Shape Request
of_no_kind null = Err BadShape
of_no_kind (boolean truth) = Err BadShape
of_no_kind (number n) = Err BadShape
of_no_kind (string text) = Err BadShape
of_no_kind (array items) = Err BadShape
of_no_kind (object _) = Err Unsupported

abbrev pub by_kind : Option RequestKind → Shape Request
by_kind None = of_no_kind
by_kind (Some kind) = of_kind kind

-- ---- requests

-- the one member that isn't null
abbrev pub sole_given : Members → Option (List ℕ × Data)
sole_given no_members = None
sole_given (member name value members) =
    if is_null value then sole_given members else if are_null members then Some (name, value) else None

-- a member of a map, as what it stands for
abbrev pub sole_named : String Global × Value → List ℕ × Data
sole_named entry = (string_bytes entry.0, view entry.1)

abbrev pub of_sole : Option (List ℕ × Data) → Reading Request
of_sole None = Err BadShape
of_sole (Some sole) = by_kind (kind_named sole.0) sole.1

abbrev pub request : Shape Request
request null = Err BadShape
request (boolean truth) = Err BadShape
request (number n) = Err BadShape
request (string text) = Err BadShape
request (array items) = Err BadShape
request (object members) = of_sole (sole_given members)

-- a request's fault is kept for its turn
abbrev pub step_of : Reading Request → Step
step_of (Ok asked) = step.Read asked
step_of (Err fault) = step.Shape fault

abbrev pub step_shape : Shape Step
step_shape value = Ok (step_of (request value))
