-- updateSheetProperties (Google Sheets API v4 reference, UpdateSheetPropertiesRequest): the title, the mark and the
-- numbers of rows and columns are set that the mask takes. Every cell of lines that go with it is touched.
use Rattle.std.specs.Prelude.{ℕ, List, [], ◌∷◌, Option, Result}
use Rattle.std.specs.Option.{option_map_or}
use Rattle.cell_value.specs.declared.cell.SheetProperties.{SheetProperties}
use Rattle.grid_range.specs.Area.{with_band}
use Rattle.grid_range.specs.declared.area.Area.{Area}
use Rattle.grid_range.specs.declared.axis.Axis.{Axis}
use Rattle.grid_range.specs.declared.axis.Axis.TheVariants.{Rows, Columns}
use Rattle.grid_range.specs.declared.band.Band.TheVariants.{From, Span}
use Rattle.protection.specs.Denial.{Cells}
use Rattle.world_model.specs.BookChange.{BookChange}
use Rattle.world_model.specs.Sheet.{PlaceSheet}
use Rattle.dimension_ops.specs.Broken.{judged_by}
use Rattle.dimension_ops.specs.SetProperties.{properties_broken, properties_set}
use Rattle.dimension_ops.specs.declared.rule.Rule.{Rule}
use Rattle.values_api.specs.Denials.{CellsOfAll}
use Rattle.sheets_json.specs.declared.spreadsheet.Reply.{Reply}
use Rattle.sheets_json.specs.declared.spreadsheet.Reply.TheVariants as reply
use Rattle.request_kinds.specs.Dimensions.{whole_sheet}

abbrev pub sheet_properties_updated : ℕ → SheetProperties → List PlaceSheet → Result (Reply × List BookChange) Rule
sheet_properties_updated sheet properties sheets =
    judged_by (properties_broken sheet properties sheets) (reply.Empty, properties_set sheet properties sheets)

-- the lines of the sheet on the axis from the given number of them on; where none is given, no lines
abbrev pub lines_behind : ℕ → Axis → Option ℕ → Area
lines_behind sheet axis count = with_band axis (whole_sheet sheet) (option_map_or From count (Span 0 0))

abbrev pub LinesCut : ℕ → SheetProperties → List PlaceSheet → Cells
LinesCut sheet properties sheets = CellsOfAll sheets
    (lines_behind sheet Rows properties.rows ∷ lines_behind sheet Columns properties.cols ∷ [])
