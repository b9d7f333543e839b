-- The sheets of a spreadsheet, as formulas name them (Google Sheets API v4 reference, SheetProperties).
use Rattle.std.specs.Prelude.{◌≡◌, ℕ, ◌<◌, List, Option, Some, length}
use Rattle.std.specs.Str.{str_to_ascii_lowercase}

-- the id of a sheet by its title in ASCII lower case, and its numbers of rows and columns and its title by its id
pub record Sheets : Type 0 where
  pub named : List ℕ → Option ℕ
  pub size : ℕ → Option (ℕ × ℕ)
  pub title : ℕ → Option (List ℕ)

-- the id of the sheet that has the title, in any ASCII case
abbrev pub sheet_named : Sheets → List ℕ → Option ℕ
sheet_named sheets title = sheets.named (str_to_ascii_lowercase title)

-- the sheet is there, and its title isn't empty
pub record HasTitle (sheets : Sheets) (sheet : ℕ) : Type 0 where
  pub title : List ℕ
  pub has : sheets.title sheet ≡ Some title
  pub some : 0 < length title
