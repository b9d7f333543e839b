use Rattle.std.proofs.Common.{◌≡◌, ◌+◌, ◌*◌}
use Rattle.std.specs.FinMap as map
use Rattle.shared_grid.proofs.Cleared.{AreTaken, at_row}
use Rattle.shared_grid.proofs.cells.Cells.clear_row.Given as goal

-- the items at the keys so far are taken
abbrev pub invariant-loop-key : goal.invariant-loop-key
invariant-loop-key g l = record {
  taken : AreTaken l.fn.self (at_row l.row l.key-items) l.key-index l.self;
  steps : l.steps + 2 * map.len l.self ≡ l.fn.steps + 2 * map.len l.fn.self + 1;
}
