-- The bytes of a reference: ASCII letters, digits, $ and :, and not letters alone.
use Rattle.a1_notation.specs.OneRun.{passes_weaker}
use Rattle.std.proofs.Common.{◌≡◌, ℕ, Bool, true, false, List, [], ◌∷◌, ◌++◌, refl, sym, ap, ◌∙◌, arith, inl, inr}
use Rattle.std.specs.Prelude.{◌||◌, ◌==◌}
use Rattle.std.specs.Char.{is_ascii_alphabetic, is_ascii_alphanumeric, is_ascii_digit}
use Rattle.std.specs.List.{list_all}
use Rattle.std.proofs.lemmas.Bool.{and_parts, and_from, false≢true}
use Rattle.std.proofs.lemmas.Bool.Decides.{nat_tests}
use Rattle.std.proofs.lemmas.List.{append-nil}
use Rattle.std.proofs.lemmas.List.Folds.{list_all-append}
use Rattle.formula_reader.specs.declared.tokens.corner.Coordinate.{Coordinate}
use Rattle.formula_reader.specs.declared.tokens.corner.MarkedCorner.{MarkedCorner}
use Rattle.formula_reader.specs.declared.tokens.corner.MarkedCorner.TheVariants.{Cell, Column, Row}
use Rattle.formula_reader.specs.declared.tokens.token.MarkedArea.{MarkedArea}
use Rattle.a1_notation.specs.Run.{begins}
use Rattle.formula_reader.specs.Corner.{marked_text, IsMarkedColumn, IsMarkedRow, IsMarkedCorner}
use Rattle.formula_reader.specs.Reference.{IsPart}
use Rattle.formula_reader.proofs.Marks.{letters_all, digits_all}
use Rattle.formula_reader.proofs.Corners.{first_digit, digit_no_letter}

-- an ASCII letter, a digit, $ (36) or : (58)
abbrev pub is_part_byte : ℕ → Bool
is_part_byte byte = is_ascii_alphanumeric byte || byte == 36 || byte == 58

letter_in_part : (b : ℕ) → is_ascii_alphabetic b ≡ true → is_part_byte b ≡ true
letter_in_part b h = grind (arith, nat_tests)

digit_in_part : (b : ℕ) → is_ascii_digit b ≡ true → is_part_byte b ≡ true
digit_in_part b h = grind (arith, nat_tests)

-- a class has all bytes of a text if it has all of both its parts
all_of_both : (class : ℕ → Bool) (xs ys : List ℕ) → list_all class xs ≡ true → list_all class ys ≡ true
    → list_all class (xs ++ ys) ≡ true
all_of_both class xs ys a b = rw (list_all-append class xs ys) (and_from (list_all class xs) (list_all class ys) a b)

pub all_of_each : (class : ℕ → Bool) (whole xs ys : List ℕ) → whole ≡ xs ++ ys → list_all class whole ≡ true
    → (list_all class xs ≡ true) × (list_all class ys ≡ true)
all_of_each class whole xs ys e all =
    and_parts (list_all class xs) (list_all class ys)
    (sym (list_all-append class xs ys) ∙ ap (list_all class) (sym e) ∙ all)

-- each byte of a reference is such a one
marked_bytes : (m : Bool) (name : List ℕ) → list_all is_part_byte name ≡ true
    → list_all is_part_byte (marked_text m name) ≡ true
marked_bytes true name all = all
marked_bytes false name all = all

column_bytes : (text : List ℕ) (column : Coordinate) → IsMarkedColumn text column → list_all is_part_byte text ≡ true
column_bytes text column is =
    rw is.spelled
    (marked_bytes column.marked is.name
    (passes_weaker is_ascii_alphabetic is_part_byte letter_in_part is.name
    (letters_all is.name column.line is.name_is)))

row_bytes : (text : List ℕ) (row : Coordinate) → IsMarkedRow text row → list_all is_part_byte text ≡ true
row_bytes text row is =
    rw is.spelled
    (marked_bytes row.marked is.name
    (passes_weaker is_ascii_digit is_part_byte digit_in_part is.name (digits_all is.name row.line is.name_is)))

corner_bytes : (text : List ℕ) (corner : MarkedCorner) → IsMarkedCorner text corner → list_all is_part_byte text ≡ true
corner_bytes text (Cell row column) is =
    rw is.spelled
    (all_of_both is_part_byte is.first is.second (column_bytes is.first column is.column_is)
    (row_bytes is.second row is.row_is))
corner_bytes text (Column column) is = column_bytes text column is
corner_bytes text (Row row) is = row_bytes text row is

pub part_bytes : (part : List ℕ) (w : MarkedArea) → IsPart part w → list_all is_part_byte part ≡ true
part_bytes part w (inl cell) = corner_bytes part (Cell cell.row cell.column) cell.cell
part_bytes part w (inr two) =
    rw two.spelled
    (all_of_both is_part_byte two.first (58 ∷ two.second) (corner_bytes two.first two.one two.one_is)
    (corner_bytes two.second two.other two.other_is))

-- a row isn't all letters, and each reference has a row or :
marked_no_letters : (m : Bool) (name : List ℕ) → begins is_ascii_digit name ≡ true
    → list_all is_ascii_alphabetic (marked_text m name) ≡ false
marked_no_letters true name is = refl
marked_no_letters false [] is = absurd (false≢true is)
marked_no_letters false (b ∷ name) is = rw (digit_no_letter b is) refl

row_no_letters : (text : List ℕ) (row : Coordinate) → IsMarkedRow text row → list_all is_ascii_alphabetic text ≡ false
row_no_letters text row is =
    let first = first_digit is.name row.line [] is.name_is in
    rw is.spelled (marked_no_letters row.marked is.name (rw append-nil at first))

pub part_no_letters : (part : List ℕ) (w : MarkedArea) → IsPart part w → list_all is_ascii_alphabetic part ≡ true → ⊥
part_no_letters part w (inl is) all =
    let parts = all_of_each is_ascii_alphabetic part is.cell.first is.cell.second is.cell.spelled all in
    false≢true (sym (row_no_letters is.cell.second is.row is.cell.row_is) ∙ parts.1)
part_no_letters part w (inr is) all =
    false≢true (all_of_each is_ascii_alphabetic part is.first (58 ∷ is.second) is.spelled all).1
