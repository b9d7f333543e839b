-- updateCells (Google Sheets API v4 reference, UpdateCellsRequest): rows are written from a cell on as far as they
-- reach, or to a range, whose cells that they don't reach are emptied. The cells that are written or emptied are
-- touched; one that a merge covers is passed over where the rows reach it.
use Rattle.std.specs.Prelude.{true, false, List, [], Result}
use Rattle.cell_value.specs.declared.cell.Block.{Block}
use Rattle.grid_range.specs.declared.area.Area.{Area}
use Rattle.grid_range.specs.declared.band.Band.TheVariants.{From}
use Rattle.protection.specs.Denial.{Cells}
use Rattle.world_model.specs.Book.{PlaceBook}
use Rattle.world_model.specs.BookChange.{BookChange}
use Rattle.world_model.specs.Sheet.{PlaceSheet}
use Rattle.world_model.specs.Sound.{place_sheet_with}
use Rattle.dimension_ops.specs.declared.rule.Rule.{Rule}
use Rattle.values_api.specs.Denials.{FilledCells, WriteCells}
use Rattle.values_api.specs.Rest.{rest_cleared}
use Rattle.json_requests.specs.declared.request.GridCoordinate.{GridCoordinate}
use Rattle.json_requests.specs.declared.request.UpdatedArea.{UpdatedArea}
use Rattle.json_requests.specs.declared.request.UpdatedArea.TheVariants.{Start, Range}
use Rattle.sheets_json.specs.declared.spreadsheet.Reply.{Reply}
use Rattle.request_kinds.specs.Telling.{cells_updated}
use Rattle.request_kinds.specs.Rows.{AreRowsWritten, OnArea, area_or_broken, cut_on}

-- the area from a cell on
abbrev pub area_from : GridCoordinate → Area
area_from cell = record { sheet = cell.sheet_id; rows = From cell.row_index; cols = From cell.column_index }

-- the cells of the area that the rows don't reach are emptied
abbrev pub rest_emptied : Area → Block → List BookChange
rest_emptied area rows = cells_updated area.sheet (rest_cleared area rows)

abbrev pub IsUpdateCells : Block → UpdatedArea → PlaceBook → Result (Reply × List BookChange) Rule → Type 0
IsUpdateCells rows (Start cell) book =
    OnArea (area_or_broken book.sheets (area_from cell)) (AreRowsWritten [] rows true book)
IsUpdateCells rows (Range range) book =
    OnArea (area_or_broken book.sheets range) (λ area. AreRowsWritten (rest_emptied area rows) rows false book area)

-- the cells that are touched, of an area cut at the grid
abbrev pub UpdatedCells : Block → UpdatedArea → List PlaceSheet → Cells
UpdatedCells rows (Start cell) sheets = WriteCells sheets true (area_from cell) rows
UpdatedCells rows (Range range) sheets = FilledCells sheets (cut_on (place_sheet_with range.sheet sheets) range) rows
