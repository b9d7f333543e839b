-- Letters and a number behind them, which are a cell in A1 text.
use Rattle.std.proofs.Common.{◌≡◌, ◌↔◌, ℕ, ◌<◌, true, false, List, [], ◌∷◌, ◌++◌, Option, None, Some, IfSome, length, take, drop, refl, sym, ◌∙◌, arith}
use Rattle.std.specs.Prelude.{is_some, IfNone}
use Rattle.std.specs.List.{list_all, prefix_len}
use Rattle.std.specs.Char.{is_ascii_alphabetic, digit_value}
use Rattle.std.specs.Str.Parse.{AllDigits}
use Rattle.std.proofs.lemmas.Bool.{and_parts, false≢true}
use Rattle.std.proofs.lemmas.Bool.Decides.{nat_tests}
use Rattle.std.proofs.lemmas.List.{take_at, drop_at, take-append-drop}
use Rattle.a1_notation.specs.Column.{IsColumn, AreLetters}
use Rattle.a1_notation.specs.Area.{IsRow}
use Rattle.a1_notation.specs.Run.{begins}
use Rattle.named_ranges.specs.NameRule.{IsCell}

-- a row is found where the text is the number of one
pub row_told : (text : List ℕ) (found : Option ℕ) → IfSome found (IsRow text)
    → IfNone found ((row : ℕ) → ¬ (IsRow text row))
    → (is_some found ≡ true) ↔ ((row : ℕ) × IsRow text row)
row_told text (Some row) is none = (λ _. (row, is), λ _. refl)
row_told text None is none = (λ yes. absurd (false≢true yes), λ row. absurd (none row.0 row.1))

-- the letters in front of digits end where the digits begin
digit_is_no_letter : (byte : ℕ) → digit_value byte < 10 → is_ascii_alphabetic byte ≡ false
digit_is_no_letter byte small = grind (arith, nat_tests)

digits_begin : (digits : List ℕ) → AllDigits 10 digits → begins is_ascii_alphabetic digits ≡ false
digits_begin [] digit = refl
digits_begin (d ∷ ds) digit = digit_is_no_letter d digit.0

letters_end : (letters rest : List ℕ) → list_all is_ascii_alphabetic letters ≡ true
    → begins is_ascii_alphabetic rest ≡ false → prefix_len is_ascii_alphabetic (letters ++ rest) ≡ length letters
letters_end [] [] letter ends = refl
letters_end [] (b ∷ bs) letter ends = rw ends refl
letters_end (x ∷ xs) rest letter ends =
    let parts = and_parts (is_ascii_alphabetic x) (list_all is_ascii_alphabetic xs) letter in
    rw parts.0 (rw (letters_end xs rest parts.1 ends) (omega arith))

-- the letters that a text begins with, and what stands behind them
abbrev pub letters_of : List ℕ → List ℕ
letters_of text = take (prefix_len is_ascii_alphabetic text) text

abbrev pub behind_letters : List ℕ → List ℕ
behind_letters text = drop (prefix_len is_ascii_alphabetic text) text

pub run_is : (text letters rest : List ℕ) → text ≡ letters ++ rest
    → list_all is_ascii_alphabetic letters ≡ true → begins is_ascii_alphabetic rest ≡ false
    → (letters ≡ letters_of text) × (rest ≡ behind_letters text)
run_is text letters rest parts all ends =
    let n = letters_end letters rest all ends in (
      sym (rw (parts, n) (take_at letters rest (length letters) refl)),
      sym (rw (parts, n) (drop_at letters rest (length letters) refl)),
    )

cell_split : (text : List ℕ) (cell : IsCell text)
    → (letters_of text ≡ cell.letters) × (behind_letters text ≡ cell.digits)
cell_split text cell =
    let is = run_is text cell.letters cell.digits cell.parts cell.column_is.letters.all
    (digits_begin cell.digits cell.row_is.digits.1) in (sym is.0, sym is.1)

-- the text is a cell where the letters are a column's and a row's number stands behind them
pub cell_from_parts : (text letters digits : List ℕ) (column : Option ℕ) → letters ≡ letters_of text
    → digits ≡ behind_letters text → IfSome column (IsColumn 3 letters) → is_some column ≡ true
    → (row : ℕ) × IsRow digits row → IsCell text
cell_from_parts text letters digits None before behind is some row = absurd (false≢true some)
cell_from_parts text letters digits (Some column) before behind is some row = record {
  letters = letters;
  digits = digits;
  column = column;
  row = row.0;
  parts = rw (before, behind) (sym (take-append-drop (prefix_len is_ascii_alphabetic text) text));
  column_is = is;
  row_is = row.1;
}

pub letters_from_cell : (text letters : List ℕ) → letters ≡ letters_of text → IsCell text
    → AreLetters 3 letters
letters_from_cell text letters before cell = rw (before ∙ (cell_split text cell).0) cell.column_is.letters

pub row_from_cell : (text digits : List ℕ) → digits ≡ behind_letters text → IsCell text
    → (row : ℕ) × IsRow digits row
row_from_cell text digits behind cell = (cell.row, rw (behind ∙ (cell_split text cell).1) cell.row_is)
