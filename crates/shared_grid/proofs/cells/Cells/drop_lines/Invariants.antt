use Rattle.std.proofs.Common.{◌≡◌, ◌+◌, ◌-◌, ◌*◌}
use Rattle.std.specs.FinMap as map
use Rattle.shared_grid.specs.Sheets.{AreCleared}
use Rattle.shared_grid.proofs.cells.Cells.drop_lines.Given as goal

-- the items on the lines so far are gone
abbrev pub invariant-loop-line : goal.invariant-loop-line
invariant-loop-line g l = record {
  cleared : AreCleared l.axis l.order l.first l.line l.fn.self l.self;
  steps : l.steps + 2 * map.len l.self ≡ l.fn.steps + 2 * map.len l.fn.self + (l.line - l.first);
}
