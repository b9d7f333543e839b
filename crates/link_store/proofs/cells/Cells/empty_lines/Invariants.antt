use Rattle.std.proofs.Common.{◌+◌, ◌-◌, ◌*◌, ◌≤◌}
use Rattle.link_store.specs.Crossings.{IsGrid, LosesItems}
use Rattle.link_store.proofs.cells.Cells.empty_lines.Given as goal

-- the items of the lines so far are gone
abbrev pub invariant-loop-line : goal.invariant-loop-line
invariant-loop-line g l = record {
  grid : IsGrid l.self;
  lost : LosesItems l.axis l.start l.line l.initial.self l.self;
  few : l.self.filled ≤ l.initial.self.filled;
  steps : l.steps + 2 * l.self.filled ≤ l.initial.steps + 2 * l.initial.self.filled + (l.line - l.start);
}
