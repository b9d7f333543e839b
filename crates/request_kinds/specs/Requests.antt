-- A request of a user, and of the project under which he sees metadata (Google Sheets API v4 reference,
-- spreadsheets.batchUpdate, Request and Response). Each kind of request says its reply, what it changes, the rules that
-- it breaks and the cells that it touches in a file of its own.
use Rattle.std.specs.Prelude.{◌≡◌, ℕ, false, List, unwrap_or, Result}
use Rattle.world_model.specs.Book.{PlaceBook}
use Rattle.world_model.specs.BookChange.{BookChange}
use Rattle.dimension_ops.specs.declared.rule.Rule.{Rule}
use Rattle.json_requests.specs.declared.request.Request.{Request}
use Rattle.json_requests.specs.declared.request.Request.TheVariants as request
use Rattle.sheets_json.specs.declared.spreadsheet.Reply.{Reply}
use Rattle.values_api.specs.Denials.{IsUnlessDenied}
use Rattle.request_kinds.specs.AddNamedRange.{IsAddNamedRange}
use Rattle.request_kinds.specs.AddProtectedRange.{IsAddProtectedRange}
use Rattle.request_kinds.specs.AddSheet.{IsAddSheet}
use Rattle.request_kinds.specs.AppendCells.{IsAppendCells}
use Rattle.request_kinds.specs.ClearBasicFilter.{basic_filter_cleared}
use Rattle.request_kinds.specs.CreateDeveloperMetadata.{IsCreateDeveloperMetadata}
use Rattle.request_kinds.specs.DeleteDeveloperMetadata.{IsDeleteDeveloperMetadata}
use Rattle.request_kinds.specs.DeleteNamedRange.{range_deleted}
use Rattle.request_kinds.specs.DeleteProtectedRange.{protection_deleted}
use Rattle.request_kinds.specs.DeleteSheet.{IsDeleteSheet}
use Rattle.request_kinds.specs.Dimensions.{dimension_appended, dimension_deleted, dimension_inserted, dimension_moved}
use Rattle.request_kinds.specs.MergeCells.{IsMergeCells}
use Rattle.request_kinds.specs.SetBasicFilter.{basic_filter_set}
use Rattle.request_kinds.specs.Touching.{TouchedCells}
use Rattle.request_kinds.specs.UnmergeCells.{IsUnmergeCells}
use Rattle.request_kinds.specs.UpdateCells.{IsUpdateCells}
use Rattle.request_kinds.specs.UpdateDeveloperMetadata.{IsUpdateDeveloperMetadata}
use Rattle.request_kinds.specs.UpdateNamedRange.{IsUpdateNamedRange}
use Rattle.request_kinds.specs.UpdateProtectedRange.{protection_updated}
use Rattle.request_kinds.specs.UpdateSheetProperties.{sheet_properties_updated}

-- what a user's request is replied, or which rule it breaks, and what it changes, whatever cells are denied
abbrev pub IsDoneByKind : List ℕ → List ℕ → PlaceBook → Request → Result (Reply × List BookChange) Rule → Type 0
IsDoneByKind user project book (request.UpdateCells rows area) told = IsUpdateCells rows area book told
IsDoneByKind user project book (request.AppendCells sheet rows) told = IsAppendCells user sheet rows book told
IsDoneByKind user project book (request.AddSheet properties) told = IsAddSheet properties book told
IsDoneByKind user project book (request.DeleteSheet sheet) told = IsDeleteSheet sheet book told
IsDoneByKind user project book (request.UpdateSheetProperties sheet properties) told =
    told ≡ sheet_properties_updated sheet properties book.sheets
IsDoneByKind user project book (request.InsertDimension range inherits) told =
    told ≡ dimension_inserted range (unwrap_or inherits false) book.sheets
IsDoneByKind user project book (request.DeleteDimension range) told = told ≡ dimension_deleted range book.sheets
IsDoneByKind user project book (request.AppendDimension sheet axis length) told =
    told ≡ dimension_appended sheet axis length book.sheets
IsDoneByKind user project book (request.MoveDimension range to) told = told ≡ dimension_moved range to book.sheets
IsDoneByKind user project book (request.MergeCells range type) told = IsMergeCells range type book told
IsDoneByKind user project book (request.UnmergeCells range) told = IsUnmergeCells range book told
IsDoneByKind user project book (request.AddNamedRange range) told = IsAddNamedRange range book told
IsDoneByKind user project book (request.UpdateNamedRange id name range) told =
    IsUpdateNamedRange id name range book told
IsDoneByKind user project book (request.DeleteNamedRange id) told = told ≡ range_deleted id book.ranges
IsDoneByKind user project book (request.AddProtectedRange id patch) told = IsAddProtectedRange user id patch book told
IsDoneByKind user project book (request.UpdateProtectedRange id patch) told =
    told ≡ protection_updated user id patch book
IsDoneByKind user project book (request.DeleteProtectedRange id) told = told ≡ protection_deleted user id book
IsDoneByKind user project book (request.CreateDeveloperMetadata item) told =
    IsCreateDeveloperMetadata project item book told
IsDoneByKind user project book (request.UpdateDeveloperMetadata filters patch) told =
    IsUpdateDeveloperMetadata project filters patch book told
IsDoneByKind user project book (request.DeleteDeveloperMetadata filter) told =
    IsDeleteDeveloperMetadata project filter book told
IsDoneByKind user project book (request.SetBasicFilter filter) told = told ≡ basic_filter_set filter book.sheets
IsDoneByKind user project book (request.ClearBasicFilter sheet) told = told ≡ basic_filter_cleared sheet book.sheets

-- it is done unless a protected range denies the user a cell that it touches: both as they are before it
abbrev pub IsDoneAsAsked : List ℕ → List ℕ → PlaceBook → Request → Result (Reply × List BookChange) Rule → Type 0
IsDoneAsAsked user project book asked =
    IsUnlessDenied user book (TouchedCells book.sheets asked) (IsDoneByKind user project book asked)
