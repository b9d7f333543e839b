use Rattle.std.proofs.Common.{ℕ, ◌<◌, get_or}
use Rattle.grid_range.specs.declared.area.Area.{Area}
use Rattle.protection.specs.Sweep.{HasNoFreeBelow}
use Rattle.protection.proofs.sweep.has_free_cell.Given as goal

abbrev pub invariant-loop-range : goal.invariant-loop-range
invariant-loop-range l =
    (k : ℕ) (d : Area) → k < l.range-index
    → HasNoFreeBelow l.sheet l.rows l.cols l.by_col (get_or l.by_col k d)
