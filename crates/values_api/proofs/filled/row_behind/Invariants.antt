use Rattle.std.proofs.Common.{ℕ, ◌<◌, ◌≤◌}
use Rattle.values_api.specs.Tables.{IsStored}
use Rattle.values_api.proofs.filled.row_behind.Given as goal

-- so far nothing is stored from the row on
abbrev pub invariant-loop-row : goal.invariant-loop-row
invariant-loop-row l = record {
  few : l.row ≤ l.sheet.table.rows;
  behind : (r c : ℕ) → IsStored l.sheet.table r c → r < l.row;
}

abbrev pub decreases-loop-row : goal.decreases-loop-row
decreases-loop-row l = l.row
