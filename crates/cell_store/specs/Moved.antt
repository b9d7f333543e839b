-- What the cells of a sheet become when lines are inserted, deleted or moved: insertDimension,
-- deleteDimension and moveDimension of the Google Sheets API v4.
use Rattle.std.specs.Prelude.{ℕ, ◌≡◌, ◌↔◌, ◌+◌, ◌≤◌, Option, Some}
use Rattle.std.specs.Option.{option_map}
use Rattle.grid_range.specs.declared.axis.Axis.{Axis}
use Rattle.grid_range.specs.declared.axis.Axis.TheVariants.{Rows, Columns}
use Rattle.grid_range.specs.declared.change.Change.{Change}
use Rattle.grid_range.specs.Change.{count_after}
use Rattle.grid_range.specs.Tracking.{place_of}
use Rattle.cell_store.specs.Table.{Table, item_at, most_lines}

-- how many lines a sheet of that size has on the axis
abbrev pub lines_on : Axis → ℕ → ℕ → ℕ
lines_on Rows rows cols = rows
lines_on Columns rows cols = cols

-- how many rows and columns it has after the change
abbrev pub size_after : Axis → Change → ℕ → ℕ → ℕ × ℕ
size_after Rows change rows cols = (count_after change rows, cols)
size_after Columns change rows cols = (rows, count_after change cols)

-- the sheet can have as many rows and columns
abbrev pub IsRoomAfter : {T : Type 0} → Axis → Change → Table T → Type 0
IsRoomAfter axis change table =
    let size = size_after axis change table.rows table.cols in size.0 + size.1 ≤ most_lines

-- where a place is after the change, or None where its line is deleted
abbrev pub place_after : Axis → Change → ℕ → ℕ → Option (ℕ × ℕ)
place_after Rows change row col = option_map (λ line. (line, col)) (place_of change row)
place_after Columns change row col = option_map (λ line. (row, line)) (place_of change col)

-- a place that the change brings to that one held the item
pub record CameFrom {T : Type 0} (axis : Axis) (change : Change) (before : Table T) (row col : ℕ) (item : T) : Type
    0 where
  pub old_row : ℕ
  pub old_col : ℕ
  pub goes : place_after axis change old_row old_col ≡ Some (row, col)
  pub held : item_at before old_row old_col ≡ Some item

-- each item went with its line, and the items of deleted lines are gone
pub record GoesWithLines {T : Type 0} (axis : Axis) (change : Change) (before after : Table T) : Type 0 where
  pub size : (after.rows, after.cols) ≡ size_after axis change before.rows before.cols
  pub items : (row col : ℕ) (item : T)
      → (item_at after row col ≡ Some item) ↔ CameFrom axis change before row col item
