-- Laws of A1 notation, for the proofs of callers.
use Rattle.std.specs.Prelude.{◌≡◌, ℕ, ◌+◌, ◌<◌, Bool, List, ◌++◌, Some, length}
use Rattle.std.specs.Fmt.{decimal}
use Rattle.grid_range.specs.declared.band.Band.TheVariants.{Span}
use Rattle.a1_notation.specs.declared.a1.A1.{A1}
use Rattle.a1_notation.specs.declared.a1.Part.TheVariants.{Cells}
use Rattle.a1_notation.specs.declared.column.TheConstants.{NAMED_COLUMNS}
use Rattle.a1_notation.specs.declared.row.TheConstants.{NUMBERED_ROWS}
use Rattle.a1_notation.specs.Area.{IsRow, IsArea}
use Rattle.a1_notation.specs.Canonical.{IsStretch, area_text, canonical}
use Rattle.a1_notation.specs.Column.{IsColumn, column_letters}
use Rattle.a1_notation.specs.Quoted.{IsUpToQuote}
use Rattle.a1_notation.specs.Range.{Names}
use Rattle.a1_notation.specs.Run.{IsRun}

-- one to three letters are a column up to ZZZ, and a row's number has at most seven digits
abbrev pub ColumnsAreSmall : Type 0
ColumnsAreSmall = (text : List ℕ) (column : ℕ) → IsColumn 3 text column → column < NAMED_COLUMNS

abbrev pub RowsAreSmall : Type 0
RowsAreSmall = (text : List ℕ) (row : ℕ) → IsRow text row → row < NUMBERED_ROWS

-- the letters that are written for a column name it, and the number that is written for a row names it
abbrev pub LettersNameColumns : Type 0
LettersNameColumns = (column : ℕ) → column < NAMED_COLUMNS → IsColumn 3 (column_letters column) column

abbrev pub NumbersNameRows : Type 0
NumbersNameRows = (row : ℕ) → row < NUMBERED_ROWS → IsRow (decimal (row + 1)) row

-- the canonical text of an area is that area, and so with a title before it
abbrev pub AreaTextReadsBack : Type 0
AreaTextReadsBack = (rows columns : ℕ × ℕ) → IsStretch rows NUMBERED_ROWS → IsStretch columns NAMED_COLUMNS
    → IsArea 3 (area_text rows columns) (Span rows.0 rows.1) (Span columns.0 columns.1)

abbrev pub CanonicalReadsBack : Type 0
CanonicalReadsBack = (title : List ℕ) (rows columns : ℕ × ℕ) → 0 < length title
    → IsStretch rows NUMBERED_ROWS → IsStretch columns NAMED_COLUMNS
    → Names 3 (canonical title rows columns)
    (record { sheet = Some title; part = Cells (Span rows.0 rows.1) (Span columns.0 columns.1) })

-- a text names one thing at most
abbrev pub HasOneReading : Type 0
HasOneReading = (most : ℕ) (text : List ℕ) (one other : A1) → Names most text one → Names most text other → one ≡ other

-- what stands in quotes ends at one place
abbrev pub QuotesEndOnce : Type 0
QuotesEndOnce = (quote : ℕ) (inside content rest content' rest' : List ℕ) → IsUpToQuote quote inside content rest
    → IsUpToQuote quote inside content' rest' → (content ≡ content') × (rest ≡ rest')

-- a text begins with one run of a class
abbrev pub RunsAreOne : Type 0
RunsAreOne = (class : ℕ → Bool) (run rest run' rest' : List ℕ) → IsRun class run rest → IsRun class run' rest'
    → run ++ rest ≡ run' ++ rest' → (run ≡ run') × (rest ≡ rest')

-- all of them
pub record A1Laws : Type 0 where
  pub small_columns : ColumnsAreSmall
  pub small_rows : RowsAreSmall
  pub letters_name : LettersNameColumns
  pub numbers_name : NumbersNameRows
  pub area_reads_back : AreaTextReadsBack
  pub reads_back : CanonicalReadsBack
  pub one_reading : HasOneReading
  pub quotes_end : QuotesEndOnce
  pub one_run : RunsAreOne
