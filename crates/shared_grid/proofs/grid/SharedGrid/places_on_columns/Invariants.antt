use Rattle.shared_grid.specs.Sheets.{AreOnColumns}
use Rattle.shared_grid.proofs.grid.SharedGrid.places_on_columns.Given as goal

-- the filled places of the columns so far are there
abbrev pub invariant-loop-column : goal.invariant-loop-column
invariant-loop-column g l = AreOnColumns l.first l.column l.self.table l.places.items
