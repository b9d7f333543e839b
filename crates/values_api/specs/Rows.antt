-- Which rows of a sheet hold something.
use Rattle.std.specs.Prelude.{ℕ, ◌<◌, ◌≤◌}
use Rattle.cell_store.specs.Table.{Table}
use Rattle.values_api.specs.Tables.{IsStored}

-- the row is behind each one that holds a cell, and no row before it is: where nothing is stored it is the first one
pub record IsRowBehind {T : Type 0} (table : Table T) (row : ℕ) : Type 0 where
  pub behind : (r c : ℕ) → IsStored table r c → r < row
  pub least : (other : ℕ) → ((r c : ℕ) → IsStored table r c → r < other) → row ≤ other

-- something is stored in the row
pub record HoldsCell {T : Type 0} (table : Table T) (row : ℕ) : Type 0 where
  pub col : ℕ
  pub stored : IsStored table row col

-- the row is before the end and holds a cell, and none behind it does before the end
pub record IsLastRow {T : Type 0} (table : Table T) (end row : ℕ) : Type 0 where
  pub holds : HoldsCell table row
  pub there : row < end
  pub last : (r c : ℕ) → IsStored table r c → r < end → r ≤ row
