use Rattle.std.proofs.Common.{◌≡◌}
use Rattle.link_store.proofs.Gathered.{IsLineLeft, in_column, on_lines}
use Rattle.link_store.proofs.cells.Cells.places_on_columns.Given as goal

-- the places of the columns so far
abbrev pub invariant-loop-column : goal.invariant-loop-column
invariant-loop-column g l = l.places.items ≡ on_lines l.self.columns (in_column l.self) l.start l.column

-- and of the first cells of one
abbrev pub invariant-loop-link : goal.invariant-loop-link
invariant-loop-link g l = IsLineLeft l.self.columns (in_column l.self) l.start l.column l.places.items l.link-iterator
