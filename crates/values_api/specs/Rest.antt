-- The cells of an area that values don't reach (Google Sheets API v4 reference, UpdateCellsRequest, RowData).
use Rattle.std.specs.Prelude.{ℕ, ◌-◌, Bool, nat_lt, [], length, get_or, None, if◌then◌else◌}
use Rattle.cell_value.specs.declared.cell.Block.{Block}
use Rattle.grid_range.specs.Band.{first_line}
use Rattle.grid_range.specs.declared.area.Area.{Area}
use Rattle.grid_range.specs.declared.band.Band.{Band}
use Rattle.world_model.specs.Updating.{Updates}
use Rattle.values_api.specs.Shown.{cell_along}
use Rattle.values_api.specs.Updates.{cleared}

-- a line of the block, from the area's first cell on, is as long as that
abbrev pub is_reached : Area → Block → ℕ → ℕ → Bool
is_reached area block row col =
    cell_along block.columns_first (λ line place. nat_lt place (length (get_or block.values line [])))
    (row - first_line area.rows) (col - first_line area.cols)

-- each place of the area that the block doesn't reach is emptied
abbrev pub rest_cleared : Area → Block → Updates
rest_cleared area block row col = if is_reached area block row col then None else cleared area row col

-- ---- what the private functions hand to one another

-- those lines of the sheet with the id, rows or columns, and those places of them
abbrev pub area_along : Bool → ℕ → Band → Band → Area
area_along columns_first sheet lines places = if columns_first
    then record { sheet = sheet; rows = places; cols = lines }
    else record { sheet = sheet; rows = lines; cols = places }
