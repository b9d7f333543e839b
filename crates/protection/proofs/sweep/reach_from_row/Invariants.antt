use Rattle.std.proofs.Common.{ℕ, ◌<◌, ◌≤◌}
use Rattle.protection.specs.Denial.{IsOutside}
use Rattle.protection.proofs.sweep.reach_from_row.Given as goal

abbrev pub invariant-loop-range : goal.invariant-loop-range
invariant-loop-range l = record {
  begun : l.cols.0 ≤ l.reached;
  covered : (col : ℕ) → l.cols.0 ≤ col → col < l.reached → ¬ (IsOutside l.sheet l.row col l.by_row);
}
