-- The cells that a request touches: it is refused where a protected range denies its user one of them. Each kind of
-- request says which they are in its own file. Lines that are inserted, sheets that are added, named ranges, protected
-- ranges, filters and metadata touch none. Rows that are appended may touch cells of new lines, so that which they
-- touch is said of the spreadsheet that has these lines, where they are appended.
use Rattle.std.specs.Prelude.{List}
use Rattle.protection.specs.Denial.{Cells}
use Rattle.world_model.specs.Sheet.{PlaceSheet}
use Rattle.values_api.specs.Denials.{AreaCells, NoCells}
use Rattle.json_requests.specs.declared.request.Request.{Request}
use Rattle.json_requests.specs.declared.request.Request.TheVariants as request
use Rattle.request_kinds.specs.DeleteSheet.{SheetCells}
use Rattle.request_kinds.specs.Dimensions.{DeletedCells, MovedCells}
use Rattle.request_kinds.specs.UpdateCells.{UpdatedCells}
use Rattle.request_kinds.specs.UpdateSheetProperties.{LinesCut}

abbrev pub TouchedCells : List PlaceSheet → Request → Cells
TouchedCells sheets (request.UpdateCells rows area) = UpdatedCells rows area sheets
TouchedCells sheets (request.AppendCells sheet rows) = NoCells
TouchedCells sheets (request.AddSheet properties) = NoCells
TouchedCells sheets (request.DeleteSheet sheet) = SheetCells sheet sheets
TouchedCells sheets (request.UpdateSheetProperties sheet properties) = LinesCut sheet properties sheets
TouchedCells sheets (request.InsertDimension range inherits) = NoCells
TouchedCells sheets (request.DeleteDimension range) = DeletedCells range sheets
TouchedCells sheets (request.AppendDimension sheet axis length) = NoCells
TouchedCells sheets (request.MoveDimension range to) = MovedCells range to sheets
TouchedCells sheets (request.MergeCells range type) = AreaCells sheets range
TouchedCells sheets (request.UnmergeCells range) = AreaCells sheets range
TouchedCells sheets (request.AddNamedRange range) = NoCells
TouchedCells sheets (request.UpdateNamedRange id name range) = NoCells
TouchedCells sheets (request.DeleteNamedRange id) = NoCells
TouchedCells sheets (request.AddProtectedRange id patch) = NoCells
TouchedCells sheets (request.UpdateProtectedRange id patch) = NoCells
TouchedCells sheets (request.DeleteProtectedRange id) = NoCells
TouchedCells sheets (request.SetBasicFilter filter) = NoCells
TouchedCells sheets (request.ClearBasicFilter sheet) = NoCells
TouchedCells sheets (request.CreateDeveloperMetadata item) = NoCells
TouchedCells sheets (request.UpdateDeveloperMetadata filters patch) = NoCells
TouchedCells sheets (request.DeleteDeveloperMetadata filter) = NoCells
