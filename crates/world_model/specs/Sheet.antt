-- A sheet by the names of its lines, and by their places: the `Sheet` of the Google Sheets API v4.
use Rattle.std.specs.Prelude.{ℕ, Bool, List, Option}
use Rattle.basic_filter.specs.declared.types.Filter.{Filter}
use Rattle.ref_rewrite.specs.declared.cell_content.Content.{Content}
use Rattle.grid_range.specs.declared.area.Area.{Area}
use Rattle.grid_range.specs.declared.axis.Axis.{Axis}
use Rattle.grid_range.specs.declared.axis.Axis.TheVariants.{Rows, Columns}
use Rattle.cell_store.specs.Table.{Table}
use Rattle.world_model.specs.Area.{NameArea}
use Rattle.world_model.specs.Content.{NameContent}
use Rattle.world_model.specs.Filters.{NameFilter}

-- the rows and the columns in their order, each by a name that it keeps wherever it goes, what is stored in the cell of
-- a row and a column, the areas whose cells are merged, in no order that counts, and the basic filter, if there is one
pub record NameSheet : Type 0 where
  pub id : ℕ
  pub title : List ℕ
  pub hidden : Bool
  pub rows : List ℕ
  pub cols : List ℕ
  pub cells : ℕ → ℕ → Option NameContent
  pub merges : List NameArea
  pub filter : Option NameFilter

-- the sheet's lines on the axis
abbrev pub lines_of : NameSheet → Axis → List ℕ
lines_of sheet Rows = sheet.rows
lines_of sheet Columns = sheet.cols

-- as a program keeps it: numbers of rows and columns, what is stored at a place, the merges by first row, then by first
-- column, and the filter
pub record PlaceSheet : Type 0 where
  pub id : ℕ
  pub title : List ℕ
  pub hidden : Bool
  pub table : Table Content
  pub merges : List Area
  pub filter : Option Filter
