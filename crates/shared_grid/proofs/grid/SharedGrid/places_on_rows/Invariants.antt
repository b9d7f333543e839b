use Rattle.shared_grid.specs.Sheets.{AreOnRows}
use Rattle.shared_grid.proofs.grid.SharedGrid.places_on_rows.Given as goal

-- the filled places of the rows so far are there
abbrev pub invariant-loop-row : goal.invariant-loop-row
invariant-loop-row g l = AreOnRows l.first l.row l.self.table l.places.items
