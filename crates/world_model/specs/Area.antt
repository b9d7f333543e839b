-- Areas of a sheet by the names of their lines, whatever their places are: what a `GridRange` of the
-- Google Sheets API v4 denotes.
use Rattle.std.specs.Prelude.{ℕ, List, drop, slice_range}
use Rattle.grid_range.specs.NameBand.{NameBand}
use Rattle.grid_range.specs.declared.area.Area.{Area}
use Rattle.grid_range.specs.declared.axis.Axis.{Axis}
use Rattle.grid_range.specs.declared.axis.Axis.TheVariants.{Rows, Columns}
use Rattle.grid_range.specs.declared.band.Band.{Band}
use Rattle.grid_range.specs.declared.band.Band.TheVariants.{Whole, From, Span}

-- the rows and the columns of each sheet, which is known by its id, in their order
abbrev pub Orders : Type 0
Orders = ℕ → Axis → List ℕ

-- some rows and some columns of a sheet
pub record NameArea : Type 0 where
  pub sheet : ℕ
  pub rows : NameBand
  pub cols : NameBand

-- the lines at the places of a band
abbrev pub band_named : List ℕ → Band → NameBand
band_named order Whole = NameBand.Whole
band_named order (From start) = NameBand.Open (drop start order)
band_named order (Span start end) = NameBand.Closed (slice_range order start end)

-- the lines at the places of an area
abbrev pub area_named : Orders → Area → NameArea
area_named orders area = record {
  sheet = area.sheet;
  rows = band_named (orders area.sheet Rows) area.rows;
  cols = band_named (orders area.sheet Columns) area.cols;
}

-- the area's lines on the axis
abbrev pub name_band_on : Axis → NameArea → NameBand
name_band_on Rows area = area.rows
name_band_on Columns area = area.cols

-- the area with other lines on the axis
abbrev pub with_name_band : Axis → NameArea → NameBand → NameArea
with_name_band Rows area band = record area { rows = band }
with_name_band Columns area band = record area { cols = band }
