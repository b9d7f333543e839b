-- The values of a write (Google Sheets API v4 reference, `values` and `majorDimension` of ValueRange, and `rows` of
-- UpdateCellsRequest).
use Rattle.std.specs.Prelude.{Bool, true, false, List, [], Option, None, Some, unwrap_or}
use Rattle.grid_range.specs.declared.axis.Axis.{Axis}
use Rattle.grid_range.specs.declared.axis.Axis.TheVariants.{Rows, Columns}
use Rattle.cell_value.specs.declared.cell.Block.{Block}
use Rattle.cell_value.specs.declared.entered.Input.{Input}

abbrev pub is_columns : Option Axis → Bool
is_columns None = false
is_columns (Some Rows) = false
is_columns (Some Columns) = true

-- rows unless the dimension says otherwise, and no values unless some are given
abbrev pub block_of : Option Axis → Option (List (List Input)) → Block
block_of dimension values = record { columns_first = is_columns dimension; values = unwrap_or values [] }
