-- Areas of a sheet: the `GridRange` of the Google Sheets API v4.
use Rattle.std.specs.Prelude.{◌≡◌, ◌↔◌, ℕ, ◌<◌}
use Rattle.std.specs.declared.cmp.Ordering.{Ordering}
use Rattle.std.specs.Ordering.{nat_cmp, ordering_then}
use Rattle.grid_range.specs.declared.area.Area.{Area}
use Rattle.grid_range.specs.declared.axis.Axis.{Axis}
use Rattle.grid_range.specs.declared.axis.Axis.TheVariants.{Rows, Columns}
use Rattle.grid_range.specs.declared.band.Band.{Band}
use Rattle.grid_range.specs.Band.{HasLine, Within, first_line, cut_band}

-- the area holds the cell of its sheet
abbrev pub Holds : Area → ℕ → ℕ → Type 0
Holds area row col = HasLine area.rows row × HasLine area.cols col

-- a sheet of that size has the first row and the first column of the area
abbrev pub IsInside : Area → ℕ → ℕ → Type 0
IsInside area rows cols = (first_line area.rows < rows) × (first_line area.cols < cols)

-- both bands of the area are within a sheet of that size
abbrev pub AreaWithin : Area → ℕ → ℕ → Type 0
AreaWithin area rows cols = Within area.rows rows × Within area.cols cols

-- the area with ends past the grid cut at the grid
abbrev pub cut_area : Area → ℕ → ℕ → Area
cut_area area rows cols =
    record area { rows = cut_band area.rows rows; cols = cut_band area.cols cols }

-- the two areas hold the same cells of a sheet of that size
abbrev pub HoldSameCells : Area → Area → ℕ → ℕ → Type 0
HoldSameCells one other rows cols =
    (row col : ℕ) → row < rows → col < cols → Holds one row col ↔ Holds other row col

-- some cell of one sheet of that size is held by both areas
pub record Meet (one other : Area) (rows cols : ℕ) : Type 0 where
  pub same_sheet : one.sheet ≡ other.sheet
  pub row : ℕ
  pub col : ℕ
  pub row_there : row < rows
  pub col_there : col < cols
  pub one_holds : Holds one row col
  pub other_holds : Holds other row col

-- the area's lines on the axis
abbrev pub band_on : Axis → Area → Band
band_on Rows area = area.rows
band_on Columns area = area.cols

-- the area with other lines on the axis
abbrev pub with_band : Axis → Area → Band → Area
with_band Rows area band = record area { rows = band }
with_band Columns area band = record area { cols = band }

-- where the area is of that sheet, its lines on the axis are among `count`
abbrev pub IsWithinOn : ℕ → Axis → ℕ → Area → Type 0
IsWithinOn sheet axis count area = area.sheet ≡ sheet → Within (band_on axis area) count

-- the row and the column of the area's first cell
abbrev pub first_cell : Area → ℕ × ℕ
first_cell area = (first_line area.rows, first_line area.cols)

-- the order of cells by rows: by row, then by column
abbrev pub by_rows : ℕ × ℕ → ℕ × ℕ → Ordering
by_rows one other = ordering_then (nat_cmp one.0 other.0) (nat_cmp one.1 other.1)
