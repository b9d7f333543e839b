-- The `DeveloperMetadataLocationType` of the Google Sheets API v4.
use Rattle.std.specs.Prelude.{Bool, true, false}
use Rattle.grid_range.specs.declared.axis.Axis.TheVariants.{Rows, Columns}
use Rattle.dev_metadata.specs.declared.types.Spot.{Spot}
use Rattle.dev_metadata.specs.declared.types.SpotKind.{SpotKind}
use Rattle.dev_metadata.specs.declared.types.SpotKind.TheVariants.{Row, Column, Sheet, Spreadsheet}
use Rattle.dev_metadata.specs.Spot.{is_line_on, is_sheet, is_spreadsheet}

-- the location is of that kind
abbrev pub has_kind : SpotKind → Spot → Bool
has_kind Row spot = is_line_on Rows spot
has_kind Column spot = is_line_on Columns spot
has_kind Sheet spot = is_sheet spot
has_kind Spreadsheet spot = is_spreadsheet spot

-- the kind is that of the spreadsheet itself
abbrev pub is_spreadsheet_kind : SpotKind → Bool
is_spreadsheet_kind Row = false
is_spreadsheet_kind Column = false
is_spreadsheet_kind Sheet = false
is_spreadsheet_kind Spreadsheet = true
