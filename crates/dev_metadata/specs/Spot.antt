-- Where items of metadata lie, and when two locations are one or intersect: the
-- `DeveloperMetadataLocation` and the `DeveloperMetadataLocationMatchingStrategy` of the Google Sheets
-- API v4.
use Rattle.std.specs.Prelude.{ℕ, Bool, true, false, ◌&&◌, ◌||◌, ◌==◌}
use Rattle.grid_range.specs.declared.axis.Axis.{Axis}
use Rattle.grid_range.specs.declared.axis.Axis.TheVariants.{Rows, Columns}
use Rattle.dev_metadata.specs.declared.types.Spot.{Spot}
use Rattle.dev_metadata.specs.declared.types.Spot.TheVariants.{Spreadsheet, Sheet, Line}

abbrev pub is_same_axis : Axis → Axis → Bool
is_same_axis Rows Rows = true
is_same_axis Rows Columns = false
is_same_axis Columns Rows = false
is_same_axis Columns Columns = true

abbrev pub is_spreadsheet : Spot → Bool
is_spreadsheet Spreadsheet = true
is_spreadsheet (Sheet _) = false
is_spreadsheet (Line _ _ _) = false

abbrev pub is_sheet : Spot → Bool
is_sheet Spreadsheet = false
is_sheet (Sheet _) = true
is_sheet (Line _ _ _) = false

abbrev pub is_line_on : Axis → Spot → Bool
is_line_on asked Spreadsheet = false
is_line_on asked (Sheet _) = false
is_line_on asked (Line _ axis _) = is_same_axis asked axis

-- the location is the sheet or a line of it
abbrev pub is_on_sheet : ℕ → Spot → Bool
is_on_sheet asked Spreadsheet = false
is_on_sheet asked (Sheet sheet) = sheet == asked
is_on_sheet asked (Line sheet _ _) = sheet == asked

-- the location is that line
abbrev pub is_line : ℕ → Axis → ℕ → Spot → Bool
is_line sheet axis index Spreadsheet = false
is_line sheet axis index (Sheet _) = false
is_line sheet axis index (Line other_sheet other_axis other_index) =
    other_sheet == sheet && is_same_axis axis other_axis && other_index == index

-- the location is that sheet
abbrev pub is_the_sheet : ℕ → Spot → Bool
is_the_sheet sheet spot = is_sheet spot && is_on_sheet sheet spot

-- the two are one location
abbrev pub is_same_spot : Spot → Spot → Bool
is_same_spot Spreadsheet other = is_spreadsheet other
is_same_spot (Sheet sheet) other = is_the_sheet sheet other
is_same_spot (Line sheet axis index) other = is_line sheet axis index other

-- both are on one sheet
abbrev pub share_sheet : Spot → Spot → Bool
share_sheet Spreadsheet other = false
share_sheet (Sheet sheet) other = is_on_sheet sheet other
share_sheet (Line sheet _ _) other = is_on_sheet sheet other

-- one is a row and the other a column
abbrev pub are_row_and_column : Spot → Spot → Bool
are_row_and_column one other =
    (is_line_on Rows one && is_line_on Columns other)
    || (is_line_on Columns one && is_line_on Rows other)

-- both are the spreadsheet; or both are on one sheet, and one of them is that sheet, they are one line,
-- or one is a row and the other a column
abbrev pub intersect : Spot → Spot → Bool
intersect one other =
    (is_spreadsheet one && is_spreadsheet other)
    || (share_sheet one other
    && (is_sheet one || is_sheet other || is_same_spot one other || are_row_and_column one other))
