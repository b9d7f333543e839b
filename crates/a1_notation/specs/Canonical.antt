-- The one text that is written for an area with a first and a last row and column (Google Sheets API v4,
-- "A1 notation").
use Rattle.std.specs.Prelude.{ℕ, ◌+◌, ◌-◌, ◌<◌, ◌≤◌, Bool, List, ◌∷◌, ◌++◌, ◌==◌, ◌&&◌, if◌then◌else◌}
use Rattle.std.specs.Fmt.{decimal}
use Rattle.a1_notation.specs.Column.{column_letters}
use Rattle.a1_notation.specs.Title.{printed_title}

-- a cell: its column's letters, and its row's number
abbrev pub cell_text : ℕ → ℕ → List ℕ
cell_text row column = column_letters column ++ decimal (row + 1)

-- the lines from the first number to the one before the second: one or more, among `count` lines
abbrev pub IsStretch : ℕ × ℕ → ℕ → Type 0
IsStretch lines count = (lines.0 < lines.1) × (lines.1 ≤ count)

-- a stretch of lines from the first to the one before the end has one line
abbrev pub is_one_line : ℕ × ℕ → Bool
is_one_line lines = lines.0 + 1 == lines.1

-- an area's first cell and its last, with : (58) between them, or its only cell
abbrev pub area_text : ℕ × ℕ → ℕ × ℕ → List ℕ
area_text rows columns =
    if is_one_line rows && is_one_line columns then cell_text rows.0 columns.0
    else cell_text rows.0 columns.0 ++ (58 ∷ cell_text (rows.1 - 1) (columns.1 - 1))

-- the title, ! (33) and the area
abbrev pub canonical : List ℕ → ℕ × ℕ → ℕ × ℕ → List ℕ
canonical title rows columns = printed_title title ++ (33 ∷ area_text rows columns)
