-- Areas and lines of sheets as JSON values (Google Sheets API v4 reference, GridRange, Dimension and DimensionRange).
-- Members are put into an object in the order of their names.
use Rattle.std.specs.Prelude.{ℕ, codes, Option, None, Some}
use Rattle.serde_json.specs.Data.{Data, string, object, no_members, put}
use Rattle.grid_range.specs.declared.axis.Axis.{Axis}
use Rattle.grid_range.specs.declared.axis.Axis.TheVariants.{Rows, Columns}
use Rattle.grid_range.specs.declared.band.Band.{Band}
use Rattle.grid_range.specs.declared.band.Band.TheVariants.{Whole, From, Span}
use Rattle.grid_range.specs.declared.area.Area.{Area}
use Rattle.sheets_json.specs.Written.{count_data, put_given}

-- the first line, unless it is all of them
abbrev pub start_of : Band → Option ℕ
start_of Whole = None
start_of (From start) = Some start
start_of (Span start end) = Some start

-- the line behind the last, where it ends before the sheet does
abbrev pub end_of : Band → Option ℕ
end_of Whole = None
end_of (From start) = None
end_of (Span start end) = Some end

abbrev pub area_data : Area → Data
area_data area = object (
    put_given (codes "endColumnIndex") count_data (end_of area.cols) (
    put_given (codes "endRowIndex") count_data (end_of area.rows) (
    put (codes "sheetId") (count_data area.sheet) (
    put_given (codes "startColumnIndex") count_data (start_of area.cols) (
    put_given (codes "startRowIndex") count_data (start_of area.rows) no_members)))))

abbrev pub dimension_data : Axis → Data
dimension_data Rows = string (codes "ROWS")
dimension_data Columns = string (codes "COLUMNS")

-- the lines of a sheet from a start to an end, if it is given
abbrev pub lines_data : ℕ → Axis → ℕ → Option ℕ → Data
lines_data sheet dimension start end = object (
    put (codes "dimension") (dimension_data dimension) (
    put_given (codes "endIndex") count_data end (
    put (codes "sheetId") (count_data sheet) (
    put (codes "startIndex") (count_data start) no_members))))
