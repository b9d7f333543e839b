-- Titles of sheets in A1 notation (Google Sheets API v4, "A1 notation": single quotes stand around a
-- title with spaces or special characters, and a quote inside them is doubled). A text is the list of
-- its UTF-8 bytes: 39 is ', 33 is !, 95 is _.
use Rattle.std.specs.Prelude.{◌≡◌, ℕ, ◌<◌, List, [], ◌∷◌, Bool, false, not, ◌&&◌, ◌||◌, ◌⊎◌, length, ◌==◌, if◌then◌else◌, IsTrue}
use Rattle.std.specs.List.{list_all}
use Rattle.std.specs.Char.{is_ascii_alphabetic, is_ascii_alphanumeric}
use Rattle.a1_notation.specs.Quoted.{quoted}

-- a title between quotes has a character
pub record IsQuoted (text title : List ℕ) : Type 0 where
  pub some : 0 < length title
  pub spelled : text ≡ quoted 39 title

-- a character that needs no quotes around it when a text is read
abbrev pub is_loose : ℕ → Bool
is_loose c = not (c == 39) && not (c == 33)

-- one or more characters other than ' and !, which stand for themselves
pub record IsLoose (text name : List ℕ) : Type 0 where
  pub some : 0 < length name
  pub loose : IsTrue (list_all is_loose name)
  pub same : text ≡ name

-- the text names the sheet of that title
abbrev pub IsTitle : List ℕ → List ℕ → Type 0
IsTitle text title = IsQuoted text title ⊎ IsLoose text title

-- a title that is printed without quotes: a letter or _, and then letters, digits and _
abbrev pub is_plain : List ℕ → Bool
is_plain [] = false
is_plain (c ∷ cs) =
    (is_ascii_alphabetic c || c == 95) && list_all (λ d. is_ascii_alphanumeric d || d == 95) cs

-- a title as it is printed
abbrev pub printed_title : List ℕ → List ℕ
printed_title title = if is_plain title then title else quoted 39 title
