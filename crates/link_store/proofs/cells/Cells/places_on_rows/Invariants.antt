use Rattle.std.proofs.Common.{◌≡◌}
use Rattle.link_store.proofs.Gathered.{IsLineLeft, in_row, on_lines}
use Rattle.link_store.proofs.cells.Cells.places_on_rows.Given as goal

-- the places of the rows so far
abbrev pub invariant-loop-row : goal.invariant-loop-row
invariant-loop-row g l = l.places.items ≡ on_lines l.self.rows (in_row l.self) l.start l.row

-- and of the first cells of one
abbrev pub invariant-loop-cell : goal.invariant-loop-cell
invariant-loop-cell g l = IsLineLeft l.self.rows (in_row l.self) l.start l.row l.places.items l.cell-iterator
