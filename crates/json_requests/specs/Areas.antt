-- GridRange and GridCoordinate (Google Sheets API v4 reference).
use Rattle.std.specs.Prelude.{ℕ, codes, Option, None, Some, unwrap_or}
use Rattle.grid_range.specs.declared.band.Band.{Band}
use Rattle.grid_range.specs.declared.band.Band.TheVariants.{Whole, From, Span}
use Rattle.grid_range.specs.declared.area.Area.{Area}
use Rattle.json_requests.specs.declared.request.GridCoordinate.{GridCoordinate}
use Rattle.json_shapes.specs.Members.{Fields, optional, also, making}
use Rattle.json_shapes.specs.Scalars.{index}

-- a start and an end that may be absent
abbrev pub band_between : Option ℕ → Option ℕ → Band
band_between None None = Whole
band_between (Some start) None = From start
band_between None (Some end) = Span 0 end
band_between (Some start) (Some end) = Span start end

abbrev pub band_of : Option ℕ × Option ℕ → Band
band_of ends = band_between ends.0 ends.1

abbrev pub row_band : Fields Band
row_band = making band_of (also (optional (codes "startRowIndex") index) (optional (codes "endRowIndex") index))

abbrev pub column_band : Fields Band
column_band =
    making band_of (also (optional (codes "startColumnIndex") index) (optional (codes "endColumnIndex") index))

abbrev pub area_of : (Option ℕ × Band) × Band → Area
area_of parts = record { sheet = unwrap_or parts.0.0 0; rows = parts.0.1; cols = parts.1 }

abbrev pub grid_range : Fields Area
grid_range = making area_of (also (also (optional (codes "sheetId") index) row_band) column_band)

abbrev pub coordinate_of : (Option ℕ × Option ℕ) × Option ℕ → GridCoordinate
coordinate_of parts = record {
  sheet_id = unwrap_or parts.0.0 0;
  row_index = unwrap_or parts.0.1 0;
  column_index = unwrap_or parts.1 0;
}

abbrev pub grid_coordinate : Fields GridCoordinate
grid_coordinate =
    making coordinate_of (also (also
    (optional (codes "sheetId") index)
    (optional (codes "rowIndex") index))
    (optional (codes "columnIndex") index))
