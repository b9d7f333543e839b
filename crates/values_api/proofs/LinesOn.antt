-- The rows and the columns of a list of cells.
use Rattle.std.proofs.Common.{ℕ, List, map, subst}
use Rattle.std.specs.Prelude.{Contains, ◌↔◌, Option}
use Rattle.std.specs.Option.{IsSome}
use Rattle.cell_value.specs.Elements.{Contains-map, Contains-map_from}
use Rattle.grid_range.specs.declared.axis.Axis.TheVariants.{Rows, Columns}
use Rattle.values_api.specs.Blocks.{AreLines}
use Rattle.values_api.specs.Given.{line_on}

pub same_lines : (one other : ℕ → Type 0) (lines : List ℕ) → ((line : ℕ) → one line ↔ other line) → AreLines one lines
    → AreLines other lines
same_lines one other lines same are = record {
  in_order = are.in_order;
  exactly = λ line. (
    (λ has. (same line).0 ((are.exactly line).0 has)),
    (λ is. (are.exactly line).1 ((same line).1 is)),
  );
}

module _ {A : Type 0} (values : ℕ → ℕ → Option A) (cells : List (ℕ × ℕ))
    (exactly : (row col : ℕ) → Contains cells (row, col) ↔ IsSome (values row col)) where
  pub rows_of : (lines : List ℕ) → AreLines (Contains (map (line_on Rows) cells)) lines
      → AreLines (λ row. (col : ℕ) × IsSome (values row col)) lines
  rows_of lines are =
      same_lines (Contains (map (line_on Rows) cells)) (λ row. (col : ℕ) × IsSome (values row col)) lines
      (λ row. (
        (λ has.
            let (cell, there, is) = Contains-map_from (line_on Rows) cells row has in
            (cell.1, subst (λ n. IsSome (values n cell.1)) is ((exactly cell.0 cell.1).0 there))),
        (λ some. Contains-map (line_on Rows) cells (row, some.0) ((exactly row some.0).1 some.1)),
      )) are

  pub cols_of : (lines : List ℕ) → AreLines (Contains (map (line_on Columns) cells)) lines
      → AreLines (λ col. (row : ℕ) × IsSome (values row col)) lines
  cols_of lines are =
      same_lines (Contains (map (line_on Columns) cells)) (λ col. (row : ℕ) × IsSome (values row col)) lines
      (λ col. (
        (λ has.
            let (cell, there, is) = Contains-map_from (line_on Columns) cells col has in
            (cell.0, subst (λ n. IsSome (values cell.0 n)) is ((exactly cell.0 cell.1).0 there))),
        (λ some. Contains-map (line_on Columns) cells (some.0, col) ((exactly some.0 col).1 some.1)),
      )) are
