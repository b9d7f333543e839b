use Rattle.std.proofs.Common.{◌≡◌, ◌+◌, ◌*◌}
use Rattle.std.specs.FinMap as map
use Rattle.shared_grid.proofs.Cleared.{AreTaken, at_column}
use Rattle.shared_grid.proofs.cells.Cells.clear_column.Given as goal

-- the items at the marks so far are taken
abbrev pub invariant-loop-mark : goal.invariant-loop-mark
invariant-loop-mark g l = record {
  taken : AreTaken l.fn.self (at_column l.column l.mark-items) l.mark-index l.self;
  steps : l.steps + 2 * map.len l.self ≡ l.fn.steps + 2 * map.len l.fn.self + 1;
}
