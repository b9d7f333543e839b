-- The text of a reference: canonical A1 notation, with a $ (36) before each coordinate that is marked
-- (Google Sheets API v4, "A1 notation": A1, A1:B2, A:B, 1:2 and A5:B). Lines are counted from 0.
use Rattle.std.specs.Prelude.{ℕ, ⊤, ◌+◌, ◌-◌, ◌<◌, Bool, List, [], ◌∷◌, ◌++◌, ◌&&◌, if◌then◌else◌}
use Rattle.std.specs.Fmt.{decimal}
use Rattle.grid_range.specs.declared.band.Band.{Band}
use Rattle.grid_range.specs.declared.band.Band.TheVariants.{Whole, From, Span}
use Rattle.ref_rewrite.specs.declared.reference.Marks.{Marks}
use Rattle.a1_notation.specs.Column.{column_letters}
use Rattle.formula_reader.specs.Corner.{marked_text}
use Rattle.a1_notation.specs.declared.column.TheConstants.{NAMED_COLUMNS}
use Rattle.a1_notation.specs.declared.row.TheConstants.{NUMBERED_ROWS}
use Rattle.a1_notation.specs.Canonical.{IsStretch}
use Rattle.grid_range.specs.Band.{has_one_line}

-- the first corner's row and the last corner's, where they are written
abbrev pub first_row : Band → Bool → List ℕ
first_row Whole mark = []
first_row (From start) mark = marked_text mark (decimal (start + 1))
first_row (Span start end) mark = marked_text mark (decimal (start + 1))

abbrev pub last_row : Band → Bool → List ℕ
last_row Whole mark = []
last_row (From start) mark = []
last_row (Span start end) mark = marked_text mark (decimal end)

-- the first corner's column and the last corner's, where they are written
abbrev pub first_column : Band → Bool → List ℕ
first_column Whole mark = []
first_column (From start) mark = marked_text mark (column_letters start)
first_column (Span start end) mark = marked_text mark (column_letters start)

abbrev pub last_column : Band → Bool → List ℕ
last_column Whole mark = []
last_column (From start) mark = []
last_column (Span start end) mark = marked_text mark (column_letters (end - 1))

-- the bands are those of one cell
abbrev pub is_one_cell : Band → Band → Bool
is_one_cell rows cols = has_one_line rows && has_one_line cols

-- the first corner and the last with : (58) between them, or the only cell
abbrev pub reference_text : Band → Band → Marks → List ℕ
reference_text rows cols marks =
    if is_one_cell rows cols
    then first_column cols marks.col1 ++ first_row rows marks.row1
    else first_column cols marks.col1 ++ first_row rows marks.row1
    ++ 58 ∷ last_column cols marks.col2 ++ last_row rows marks.row2

-- rows and columns that A1 notation has: one or more lines, up to row 9,999,999 and column ZZZ
abbrev pub AreRows : ℕ → ℕ → Type 0
AreRows start end = IsStretch (start, end) NUMBERED_ROWS

abbrev pub AreColumns : ℕ → ℕ → Type 0
AreColumns start end = IsStretch (start, end) NAMED_COLUMNS

-- the lines of a band are such
abbrev pub AreLines : ℕ → Band → Type 0
AreLines most Whole = ⊤
AreLines most (From start) = start < most
AreLines most (Span start end) = IsStretch (start, end) most

abbrev pub AreRowLines : Band → Type 0
AreRowLines rows = AreLines NUMBERED_ROWS rows

abbrev pub AreColumnLines : Band → Type 0
AreColumnLines cols = AreLines NAMED_COLUMNS cols

-- the five forms: a cell or an area, columns, rows, and columns from a row on
abbrev pub HasForm : Band → Band → Type 0
HasForm rows (Span start end) = AreRowLines rows × AreColumns start end
HasForm (Span start end) Whole = AreRows start end
HasForm _ _ = ⊥
