use Rattle.values_api.specs.Tables.{IsIn, IsLeast, IsListed, lines_beside}
use Rattle.values_api.proofs.table.Stored.table_around.Given as goal

-- so far the rectangle has the cell, and is part of each that has it and nothing beside it
abbrev pub invariant-loop-grown : goal.invariant-loop-grown
invariant-loop-grown l = record {
  has_cell : IsIn l.table l.row l.col;
  least : IsLeast (IsListed l.self) l.row l.col l.table;
}

abbrev pub decreases-loop-grown : goal.decreases-loop-grown
decreases-loop-grown l = lines_beside l.self l.table
