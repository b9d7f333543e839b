use Rattle.std.proofs.Common.{◌≡◌, ◌≢◌, ◌+◌, ◌*◌, ◌≤◌, ℕ}
use Rattle.grid_range.specs.declared.axis.Axis.TheVariants.{Rows}
use Rattle.cell_store.specs.Entries.{entry_at}
use Rattle.link_store.specs.Crossings.{IsGrid, HasSameLines, line_on, sheet_items}
use Rattle.link_store.proofs.cells.Cells.empty_row.Given as goal

-- the other rows have their items
abbrev pub invariant-loop : goal.invariant-loop
invariant-loop g l = record {
  grid : IsGrid l.self;
  lines : HasSameLines l.initial.self l.self;
  others : (place : ℕ × ℕ) → line_on Rows place ≢ l.row
      → entry_at (sheet_items l.self) place ≡ entry_at (sheet_items l.initial.self) place;
  few : l.self.filled ≤ l.initial.self.filled;
  steps : l.steps + 2 * l.self.filled ≤ l.initial.steps + 2 * l.initial.self.filled;
}

abbrev pub decreases-loop : goal.decreases-loop
decreases-loop g l = l.self.filled
