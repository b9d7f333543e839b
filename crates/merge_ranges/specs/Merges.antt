-- The merged cells of a sheet: `merges` of its `Sheet` in the Google Sheets API v4, each a
-- `GridRange` whose four indexes are given. They lie on one sheet, which isn't looked at.
use Rattle.std.specs.Prelude.{◌≡◌, ℕ, ◌+◌, ◌<◌, List, ◌⊎◌, Bool, not, ◌&&◌, ◌==◌}
use Rattle.std.specs.declared.cmp.Ordering.{Ordering}
use Rattle.std.specs.List.{All, AllPairs, list_any}
use Rattle.std.specs.List.Sorted.{IsStrictlySortedBy}
use Rattle.grid_range.specs.declared.area.Area.{Area}
use Rattle.grid_range.specs.declared.band.Band.{Band}
use Rattle.grid_range.specs.declared.band.Band.TheVariants.{Whole, From, Span}
use Rattle.grid_range.specs.Band.{first_line}
use Rattle.grid_range.specs.Area.{Holds, first_cell, by_rows}
use Rattle.merge_ranges.specs.Tests.{has_line}

-- the band has both a first and a last line
abbrev pub HasEnds : Band → Type 0
HasEnds Whole = ⊥
HasEnds (From start) = ⊥
HasEnds (Span start end) = start < end

-- and more than one line
abbrev pub HasManyLines : Band → Type 0
HasManyLines Whole = ⊥
HasManyLines (From start) = ⊥
HasManyLines (Span start end) = start + 1 < end

-- both bands have both ends
abbrev pub IsRectangle : Area → Type 0
IsRectangle area = HasEnds area.rows × HasEnds area.cols

-- it has more than one cell
abbrev pub HasManyCells : Area → Type 0
HasManyCells area = HasManyLines area.rows ⊎ HasManyLines area.cols

-- what can be merged: a rectangle of more than one cell
abbrev pub IsMerge : Area → Type 0
IsMerge area = IsRectangle area × HasManyCells area

-- some cell is in both areas
pub record Overlap (one other : Area) : Type 0 where
  pub row : ℕ
  pub col : ℕ
  pub one_holds : Holds one row col
  pub other_holds : Holds other row col

-- the area holds each cell of the other one
abbrev pub HoldsAll : Area → Area → Type 0
HoldsAll area other = (row col : ℕ) → Holds other row col → Holds area row col

-- the order of areas by the rows and columns of their first cells
abbrev pub by_first_cell : Area → Area → Ordering
by_first_cell one other = by_rows (first_cell one) (first_cell other)

-- rectangles of more than one cell each, no two of which have a cell in common, in order
pub record AreMerges (merges : List Area) : Type 0 where
  pub each : All IsMerge merges
  pub apart : AllPairs (λ one other. ¬ (Overlap one other)) merges
  pub in_order : IsStrictlySortedBy by_first_cell merges

-- the merge covers the cell: it holds it, and it isn't the upper-left one
abbrev pub Covers : Area → ℕ → ℕ → Type 0
Covers merge row col =
    Holds merge row col × ¬ ((row ≡ first_line merge.rows) × (col ≡ first_line merge.cols))

-- the same, as a test
abbrev pub covers : Area → ℕ → ℕ → Bool
covers merge row col = has_line merge.rows row && has_line merge.cols col
    && not (row == first_line merge.rows && col == first_line merge.cols)

-- one of the merges covers the cell
abbrev pub is_covered : List Area → ℕ → ℕ → Bool
is_covered merges row col = list_any (λ merge. covers merge row col) merges
