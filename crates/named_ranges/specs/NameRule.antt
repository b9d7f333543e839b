-- What a named range may be called: 1 to 250 letters, digits and underscores, no digit first, no truth
-- value and no cell in A1 text (the help of Google Sheets on naming a range of cells, for the name of a
-- `NamedRange` of the Google Sheets API v4). That letters are those of ASCII, and that a text may begin
-- with a truth value or be a cell in R1C1 notation, is this project's profile.
use Rattle.std.specs.Prelude.{ℕ, ◌≡◌, ◌≢◌, ◌<◌, ◌≤◌, Bool, false, ◌||◌, ◌==◌, List, ◌++◌, length, IsTrue, slice_index, codes}
use Rattle.std.specs.List.{list_all}
use Rattle.std.specs.Char.{is_ascii_alphanumeric, is_ascii_digit}
use Rattle.std.specs.Str.{str_to_ascii_lowercase}
use Rattle.a1_notation.specs.Column.{IsColumn}
use Rattle.a1_notation.specs.Area.{IsRow}

-- a letter, a digit or _ (95)
abbrev pub is_name_byte : ℕ → Bool
is_name_byte byte = is_ascii_alphanumeric byte || byte == 95

-- the text is a cell in A1 text, as A1 or AB12: the letters of a column and the number of a row
pub record IsCell (text : List ℕ) : Type 0 where
  pub letters : List ℕ
  pub digits : List ℕ
  pub column : ℕ
  pub row : ℕ
  pub parts : text ≡ letters ++ digits
  pub column_is : IsColumn 3 letters column
  pub row_is : IsRow digits row

-- the text may be a name
pub record IsName (text : List ℕ) : Type 0 where
  pub some : 0 < length text
  pub short : length text ≤ 250
  pub bytes : IsTrue (list_all is_name_byte text)
  pub first : is_ascii_digit (slice_index text 0) ≡ false
  pub not_true : str_to_ascii_lowercase text ≢ codes "true"
  pub not_false : str_to_ascii_lowercase text ≢ codes "false"
  pub no_cell : ¬ (IsCell text)
