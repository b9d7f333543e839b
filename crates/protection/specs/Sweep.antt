-- Cells that no range has, in a stretch of rows and columns: its first line, and the one behind its
-- last.
use Rattle.std.specs.Prelude.{ℕ, ◌+◌, ◌<◌, ◌≤◌, List}
use Rattle.grid_range.specs.declared.area.Area.{Area}
use Rattle.grid_range.specs.Band.{first_line}
use Rattle.protection.specs.Denial.{HasCell, IsOutside}

-- the line is in the stretch
abbrev pub IsBetween : ℕ × ℕ → ℕ → Type 0
IsBetween ends line = (ends.0 ≤ line) × (line < ends.1)

-- the cell of some column of these is in no range
abbrev pub IsFreeColumn : ℕ → ℕ → ℕ × ℕ → List Area → Type 0
IsFreeColumn sheet row cols ranges = (col : ℕ) × IsBetween cols col × IsOutside sheet row col ranges

-- the cell of some row and some column of these is in no range
abbrev pub IsFreeCell : ℕ → ℕ × ℕ → ℕ × ℕ → List Area → Type 0
IsFreeCell sheet rows cols ranges = (row : ℕ) × IsBetween rows row × IsFreeColumn sheet row cols ranges

-- none of the cells right below the range is in no range
abbrev pub HasNoFreeBelow : ℕ → ℕ × ℕ → ℕ × ℕ → List Area → Area → Type 0
HasNoFreeBelow sheet rows cols ranges range =
    (row col : ℕ) → HasCell sheet row col range → ¬ (HasCell sheet (row + 1) col range)
    → IsBetween rows row → IsBetween rows (row + 1) → IsBetween cols col
    → ¬ (IsOutside sheet (row + 1) col ranges)

-- a range's first column
abbrev pub first_col : Area → ℕ
first_col range = first_line range.cols
