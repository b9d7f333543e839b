use Rattle.protection.proofs.Sweeping.{Passed}
use Rattle.protection.proofs.sweep.has_free_column_by_pass.Given as goal

abbrev pub invariant-loop-range : goal.invariant-loop-range
invariant-loop-range l = Passed l.sheet l.row l.cols l.by_col l.range-index l.reached
