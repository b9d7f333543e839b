use Rattle.std.proofs.Common.{ℕ, List, [], ◌∷◌}
use Rattle.std.specs.Prelude.{All}
use Rattle.users_file.specs.Rows.{HasGiven}
use Rattle.users_file.specs.Table.{ArePairOfNames, header, table_rows}
use Rattle.users_file.proofs.rows.take_pairs.Given as goal

-- so far the reader gave the rows of the pairs
abbrev pub invariant-loop-row : goal.invariant-loop-row
invariant-loop-row l = record {
  names : All ArePairOfNames l.pairs.items;
  given : (bytes : List ℕ) → HasGiven bytes (header ∷ []) l.fn.rows
      → HasGiven bytes (table_rows l.pairs.items) l.row-iterator;
}
