-- The columns of A1 notation (Google Sheets API v4, "A1 notation"): A is the first, Z the 26th and AA
-- the 27th. A column is counted from 0.
use Rattle.std.specs.Prelude.{◌≡◌, ℕ, ◌+◌, ◌-◌, ◌/◌, ◌%◌, ◌<◌, ◌≤◌, List, [], ◌∷◌, map, length, nat_lt, if◌then◌else◌, IsTrue}
use Rattle.std.specs.List.{list_all}
use Rattle.std.specs.Char.{is_ascii_alphabetic, to_ascii_uppercase}
use Rattle.std.specs.Int.Digits.{number_from_digits}

-- 1 for A or a, up to 26 for Z or z
abbrev pub letter_value : ℕ → ℕ
letter_value letter = to_ascii_uppercase letter - 64

-- the number that letters write in base 26
abbrev pub letters_value : List ℕ → ℕ
letters_value letters = number_from_digits 26 (map letter_value letters)

-- the text is one to `most` letters
pub record AreLetters (most : ℕ) (text : List ℕ) : Type 0 where
  pub all : IsTrue (list_all is_ascii_alphabetic text)
  pub some : 0 < length text
  pub few : length text ≤ most

-- they are that column's: their number less one
pub record IsColumn (most : ℕ) (text : List ℕ) (column : ℕ) : Type 0 where
  pub letters : AreLetters most text
  pub value : letters_value text ≡ column + 1

-- the upper-case letter at a place of the alphabet, counted from 0
abbrev pub letter_at : ℕ → ℕ
letter_at place = 65 + place

-- a column's upper-case letters: A to Z are the first 26 columns, AA to ZZ the next 26 * 26, and AAA to
-- ZZZ those behind, and among as many letters the columns stand in alphabetical order
abbrev pub column_letters : ℕ → List ℕ
column_letters column =
    if nat_lt column 26 then letter_at column ∷ []
    else if nat_lt column 702 then
    letter_at ((column - 26) / 26) ∷ letter_at ((column - 26) % 26) ∷ []
    else
    letter_at ((column - 702) / 676) ∷ letter_at ((column - 702) / 26 % 26)
    ∷ letter_at ((column - 702) % 26) ∷ []
