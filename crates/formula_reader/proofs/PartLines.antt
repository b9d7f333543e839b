-- The rows and columns that the text of a reference names.
use Rattle.a1_notation.specs.Laws.{A1Laws}
use Rattle.std.proofs.Common.{ℕ, ◌+◌, ◌<◌, min, max, List, arith, subst, inl, inr}
use Rattle.std.specs.Prelude.{IfSome}
use Rattle.grid_range.specs.declared.band.Band.{Band}
use Rattle.grid_range.specs.declared.band.Band.TheVariants.{Whole, From, Span}
use Rattle.a1_notation.specs.declared.column.TheConstants.{NAMED_COLUMNS}
use Rattle.a1_notation.specs.declared.row.TheConstants.{NUMBERED_ROWS}
use Rattle.a1_notation.specs.Canonical.{IsStretch}
use Rattle.formula_reader.specs.declared.tokens.corner.MarkedCorner.{MarkedCorner}
use Rattle.formula_reader.specs.declared.tokens.corner.MarkedCorner.TheVariants.{Cell, Column, Row}
use Rattle.formula_reader.specs.declared.tokens.token.MarkedArea.{MarkedArea}
use Rattle.a1_notation.specs.Area.{area_between}
use Rattle.formula_reader.specs.Corner.{IsMarkedCorner, unmarked}
use Rattle.formula_reader.specs.Reference.{IsPart}

-- the corner's row and column are ones of A1 notation
abbrev IsSmall : MarkedCorner → Type 0
IsSmall (Cell row column) = (row.line < NUMBERED_ROWS) × (column.line < NAMED_COLUMNS)
IsSmall (Column column) = column.line < NAMED_COLUMNS
IsSmall (Row row) = row.line < NUMBERED_ROWS

corner_small : A1Laws → (text : List ℕ) (corner : MarkedCorner) → IsMarkedCorner text corner → IsSmall corner
corner_small a1 text (Cell row column) is = (
  a1.small_rows is.row_is.name row.line is.row_is.name_is,
  a1.small_columns is.column_is.name column.line is.column_is.name_is,
)
corner_small a1 text (Column column) is = a1.small_columns is.name column.line is.name_is
corner_small a1 text (Row row) is = a1.small_rows is.name row.line is.name_is

-- and so are the lines between two of them
between_small : (a b most : ℕ) → a < most → b < most → IsStretch (min a b, max a b + 1) most
between_small a b most one other = (omega arith, omega (arith, one, other))

-- what holds of the lines of each form holds of those of a reference
module _ (P : Band → Band → Type 0)
    (area_has : (start end start' end' : ℕ) → IsStretch (start, end) NUMBERED_ROWS
    → IsStretch (start', end') NAMED_COLUMNS → P (Span start end) (Span start' end'))
    (columns_have : (start end : ℕ) → IsStretch (start, end) NAMED_COLUMNS → P Whole (Span start end))
    (rows_have : (start end : ℕ) → IsStretch (start, end) NUMBERED_ROWS → P (Span start end) Whole)
    (from_has : (row start end : ℕ) → row < NUMBERED_ROWS → IsStretch (start, end) NAMED_COLUMNS
    → P (From row) (Span start end)) where
  between_has : (one other : MarkedCorner) → IsSmall one → IsSmall other
      → IfSome (area_between (unmarked one) (unmarked other)) (λ area. P area.0 area.1)
  between_has (Cell row column) (Cell row' column') small small' =
      area_has _ _ _ _ (between_small row.line row'.line NUMBERED_ROWS small.0 small'.0)
      (between_small column.line column'.line NAMED_COLUMNS small.1 small'.1)
  between_has (Cell row column) (Column column') small small' =
      from_has row.line _ _ small.0 (between_small column.line column'.line NAMED_COLUMNS small.1 small')
  between_has (Column column) (Column column') small small' =
      columns_have _ _ (between_small column.line column'.line NAMED_COLUMNS small small')
  between_has (Row row) (Row row') small small' =
      rows_have _ _ (between_small row.line row'.line NUMBERED_ROWS small small')
  between_has (Cell row column) (Row row') small small' = tt
  between_has (Column column) (Cell row column') small small' = tt
  between_has (Column column) (Row row) small small' = tt
  between_has (Row row) (Cell row' column) small small' = tt
  between_has (Row row) (Column column) small small' = tt

  pub part_has : A1Laws → (own : List ℕ) (written : MarkedArea) → IsPart own written → P written.rows written.cols
  part_has a1 own written (inl cell) =
      let one = Cell cell.row cell.column in
      let small = corner_small a1 own one cell.cell in
      subst (λ found. IfSome found (λ area. P area.0 area.1)) cell.named.area (between_has one one small small)
  part_has a1 own written (inr two) =
      subst (λ found. IfSome found (λ area. P area.0 area.1)) two.named.area
      (between_has two.one two.other (corner_small a1 two.first two.one two.one_is)
      (corner_small a1 two.second two.other two.other_is))
