-- A sheet in a store that keeps what its deleted lines had, a list or a number each, for lines that come.
use Rattle.std.specs.Prelude.{ℕ, ◌≤◌, max, refl}
use Rattle.std.specs.Coded.{Coded, code_by, coded×, coded_ℕ}
use Rattle.grid_range.specs.declared.axis.Axis.{Axis}
use Rattle.grid_range.specs.declared.change.Change.{Change}
use Rattle.cell_store.specs.Table.{Table, table_code}
use Rattle.cell_store.specs.Moved.{size_after}

-- the sheet, and how many rows and columns are kept, with those that are deleted
pub record KeptTable (T : Type 0) : Type 0 where
  pub table : Table T
  pub kept_rows : ℕ
  pub kept_columns : ℕ

abbrev pub kept_table_code : {T : Type 0} → Coded T → Coded (KeptTable T)
kept_table_code {T} item =
    code_by (Table T × (ℕ × ℕ)) (coded× (table_code item) (coded× coded_ℕ coded_ℕ))
    (λ t. (t.table, (t.kept_rows, t.kept_columns)))
    (λ p. record { table = p.0; kept_rows = p.1.0; kept_columns = p.1.1 }) (λ _. refl)

-- Deleted lines are used again: a change leaves as many kept lines as there were, or as many as there
-- are lines then, whichever is more. So there are never more than there were lines at once.
pub record ReusesLines {T : Type 0} (axis : Axis) (change : Change) (before after : KeptTable T) : Type 0 where
  pub rows : after.kept_rows
      ≤ max before.kept_rows (size_after axis change before.table.rows before.table.cols).0
  pub columns : after.kept_columns
      ≤ max before.kept_columns (size_after axis change before.table.rows before.table.cols).1
