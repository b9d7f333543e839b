-- What a text in A1 notation names (Google Sheets API v4, "A1 notation"), by cases on what it names.
use Rattle.std.specs.Prelude.{◌≡◌, ◌⊎◌, ℕ, List, ◌∷◌, ◌++◌, Option, Some, None, Result, Err, IfOk}
use Rattle.grid_range.specs.declared.band.Band.{Band}
use Rattle.a1_notation.specs.declared.a1.A1.{A1}
use Rattle.a1_notation.specs.declared.a1.A1Fault.{A1Fault}
use Rattle.a1_notation.specs.declared.a1.A1Fault.TheVariants.{NotA1, PastZZZ, NoMemory}
use Rattle.a1_notation.specs.declared.a1.Part.{Part}
use Rattle.a1_notation.specs.declared.a1.Part.TheVariants.{Cells, WholeSheet, Word}
use Rattle.a1_notation.specs.Title.{IsQuoted, IsLoose, IsTitle}
use Rattle.a1_notation.specs.Area.{IsArea}

-- the text is a sheet's title and an area, with ! (33) between them
pub record IsAreaOfSheet (most : ℕ) (text title : List ℕ) (rows columns : Band) : Type 0 where
  pub sheet : List ℕ
  pub part : List ℕ
  pub parts : text ≡ sheet ++ 33 ∷ part
  pub title_is : IsTitle sheet title
  pub area_is : IsArea most part rows columns

-- the text is a word: loose characters that are no area
pub record IsWord (most : ℕ) (text word : List ℕ) : Type 0 where
  pub loose : IsLoose text word
  pub no_area : (rows columns : Band) → ¬ (IsArea most text rows columns)

-- A text names an area, of a sheet or without one; a title in quotes names the whole sheet; and any
-- other loose characters are a word. A column has at most `most` letters.
abbrev pub NamesPart : ℕ → List ℕ → Option (List ℕ) → Part → Type 0
NamesPart most text None (Cells rows columns) = IsArea most text rows columns
NamesPart most text (Some title) (Cells rows columns) = IsAreaOfSheet most text title rows columns
NamesPart most text (Some title) WholeSheet = IsQuoted text title
NamesPart most text None (Word word) = IsWord most text word
NamesPart most text None WholeSheet = ⊥
NamesPart most text (Some title) (Word word) = ⊥

abbrev pub Names : ℕ → List ℕ → A1 → Type 0
Names most text range = NamesPart most text range.sheet range.part

-- the text is no range, however many letters a column may have
abbrev pub IsNotA1 : List ℕ → Type 0
IsNotA1 text = (most : ℕ) (range : A1) → ¬ (Names most text range)

-- the text is a range only where a column may have more than three letters
pub record IsPastZZZ (text : List ℕ) : Type 0 where
  pub most : ℕ
  pub range : A1
  pub named : Names most text range
  pub unnamed : (other : A1) → ¬ (Names 3 text other)

-- an answer is the reading of a text: what it names, or why it names nothing
pub record IsReading (text : List ℕ) (answer : Result A1 A1Fault) : Type 0 where
  pub read : IfOk answer (Names 3 text)
  pub not_a1 : answer ≡ Err NotA1 → IsNotA1 text
  pub past_zzz : answer ≡ Err PastZZZ → IsPastZZZ text

-- the answer is this one, unless memory ran out
abbrev pub IsUnlessNoMemory : Result A1 A1Fault → Result A1 A1Fault → Type 0
IsUnlessNoMemory answer wanted = (answer ≡ wanted) ⊎ (answer ≡ Err NoMemory)
