-- A corner's letters, and its digits behind them.
use Rattle.std.proofs.Common.{◌≡◌, ℕ, ◌+◌, ◌-◌, ◌<◌, min, true, false, List, [], ◌∷◌, ◌++◌, length, take, drop, refl, sym, ap, ◌∙◌, arith, subst, append-nil}
use Rattle.std.specs.List.{list_all, prefix_len}
use Rattle.std.specs.Char.{is_ascii_alphabetic, is_ascii_alphanumeric, is_ascii_digit}
use Rattle.std.specs.Str.Parse.{AllDigits}
use Rattle.std.proofs.lemmas.Bool.{and_parts, and_from}
use Rattle.std.proofs.lemmas.Bool.Decides.{nat_tests}
use Rattle.std.proofs.lemmas.List.{take_at, drop_at, length-append, nil_from_length}
use Rattle.std.proofs.lemmas.List.Folds.{list_all-append}
use Rattle.a1_notation.specs.declared.corner.Corner.{Corner}
use Rattle.a1_notation.specs.declared.corner.Corner.TheVariants.{Cell, Column, Row}
use Rattle.a1_notation.specs.Column.{IsColumn, letters_value}
use Rattle.a1_notation.specs.Area.{IsRow, IsCorner}
use Rattle.a1_notation.specs.Capped.{IsCappedCorner}
use Rattle.a1_notation.specs.Run.{IsRun}
use Rattle.a1_notation.proofs.Runs.{run_is_front}
use Rattle.a1_notation.proofs.RowNumbers.{digit_is_digit, all_digits}
use Rattle.a1_notation.specs.OneRun.{passes_weaker}
use Rattle.a1_notation.proofs.ColumnLetters.{letters_value_bounds}

-- a digit is no letter
pub digit_no_letter : (b : ℕ) → is_ascii_digit b ≡ true → is_ascii_alphabetic b ≡ false
digit_no_letter b h = grind (arith, nat_tests)

digit_is_alphanumeric : (b : ℕ) → is_ascii_digit b ≡ true → is_ascii_alphanumeric b ≡ true
digit_is_alphanumeric b h = grind (arith, nat_tests)

letter_is_alphanumeric : (b : ℕ) → is_ascii_alphabetic b ≡ true → is_ascii_alphanumeric b ≡ true
letter_is_alphanumeric b letter = grind (arith, nat_tests)

digits_are_alphanumeric : (digits : List ℕ) → AllDigits 10 digits → list_all is_ascii_alphanumeric digits ≡ true
digits_are_alphanumeric digits all =
    passes_weaker is_ascii_digit is_ascii_alphanumeric digit_is_alphanumeric digits (all_digits digits all)

-- the letters in front of digits end where the digits begin
letters_end : (letters digits : List ℕ) → list_all is_ascii_alphabetic letters ≡ true → AllDigits 10 digits
    → prefix_len is_ascii_alphabetic (letters ++ digits) ≡ length letters
letters_end [] [] letter digit = refl
letters_end [] (d ∷ ds) letter digit = rw (digit_no_letter d (digit_is_digit d digit.0)) refl
letters_end (x ∷ xs) digits letter digit =
    let parts = and_parts (is_ascii_alphabetic x) (list_all is_ascii_alphabetic xs) letter in
    rw parts.0 (rw (letters_end xs digits parts.1 digit) (omega arith))

-- the letters and the digits are those of the corner
abbrev pub IsSplit : ℕ → Corner → List ℕ → List ℕ → Type 0
IsSplit most (Cell row column) letters digits = IsColumn most letters column × IsRow digits row
IsSplit most (Column column) letters digits = IsColumn most letters column × (digits ≡ [])
IsSplit most (Row row) letters digits = (letters ≡ []) × IsRow digits row

-- a corner's letters, and what stands behind them
abbrev pub letters_of : List ℕ → List ℕ
letters_of text = take (prefix_len is_ascii_alphabetic text) text

abbrev pub digits_of_text : List ℕ → List ℕ
digits_of_text text = drop (prefix_len is_ascii_alphabetic text) text

split_at_letters : (letters digits text : List ℕ) → list_all is_ascii_alphabetic letters ≡ true → AllDigits 10 digits
    → text ≡ letters ++ digits → (letters_of text ≡ letters) × (digits_of_text text ≡ digits)
split_at_letters letters digits text letter digit e =
    let n = letters_end letters digits letter digit in
    (rw (e, n) (take_at letters digits (length letters) refl), rw (e, n) (drop_at letters digits (length letters) refl))

pub corner_split : (most : ℕ) (text : List ℕ) (corner : Corner) → IsCorner most text corner
    → IsSplit most corner (letters_of text) (digits_of_text text)
corner_split most text (Cell row column) is =
    let parts = split_at_letters is.0 is.1 text is.3.letters.all is.4.digits.1 is.2 in
    (rw parts.0 is.3, rw parts.1 is.4)
corner_split most text (Column column) is =
    let parts = split_at_letters text [] text is.letters.all tt (sym (append-nil text)) in
    (rw parts.0 is, parts.1)
corner_split most text (Row row) is =
    let parts = split_at_letters [] text text refl is.digits.1 refl in
    (parts.0, rw parts.1 is)

-- letters and digits are of one corner at most
pub IsSplit_unique : (m n : ℕ) (letters digits : List ℕ) (x y : Corner) → IsSplit m x letters digits
    → IsSplit n y letters digits → x ≡ y
IsSplit_unique m n letters digits (Cell r c) (Cell s d) a b =
    let row : r ≡ s = omega (arith, a.1.value, b.1.value) in
    let column : c ≡ d = omega (arith, a.0.value, b.0.value) in
    rw (row, column) refl
IsSplit_unique m n letters digits (Cell r c) (Column d) a b = absurd (omega (arith, a.1.digits.0, ap length b.1))
IsSplit_unique m n letters digits (Cell r c) (Row s) a b = absurd (omega (arith, a.0.letters.some, ap length b.0))
IsSplit_unique m n letters digits (Column c) (Cell s d) a b = absurd (omega (arith, b.1.digits.0, ap length a.1))
IsSplit_unique m n letters digits (Column c) (Column d) a b =
    let column : c ≡ d = omega (arith, a.0.value, b.0.value) in
    rw column refl
IsSplit_unique m n letters digits (Column c) (Row s) a b = absurd (omega (arith, a.0.letters.some, ap length b.0))
IsSplit_unique m n letters digits (Row r) (Cell s d) a b = absurd (omega (arith, b.0.letters.some, ap length a.0))
IsSplit_unique m n letters digits (Row r) (Column d) a b = absurd (omega (arith, b.0.letters.some, ap length a.0))
IsSplit_unique m n letters digits (Row r) (Row s) a b =
    let row : r ≡ s = omega (arith, a.1.value, b.1.value) in
    rw row refl

pub IsCorner_unique : (m n : ℕ) (text : List ℕ) (x y : Corner) → IsCorner m text x → IsCorner n text y → x ≡ y
IsCorner_unique m n text x y a b =
    IsSplit_unique m n (letters_of text) (digits_of_text text) x y (corner_split m text x a) (corner_split n text y b)

-- each byte of a corner is a letter or a digit
pub corner_bytes : (most : ℕ) (text : List ℕ) (corner : Corner) → IsCorner most text corner
    → list_all is_ascii_alphanumeric text ≡ true
corner_bytes most text (Cell row column) is =
    rw (is.2, list_all-append is_ascii_alphanumeric is.0 is.1)
    (and_from (list_all is_ascii_alphanumeric is.0) (list_all is_ascii_alphanumeric is.1)
    (passes_weaker is_ascii_alphabetic is_ascii_alphanumeric letter_is_alphanumeric is.0 is.3.letters.all)
    (digits_are_alphanumeric is.1 is.4.digits.1))
corner_bytes most text (Column column) is =
    passes_weaker is_ascii_alphabetic is_ascii_alphanumeric letter_is_alphanumeric text is.letters.all
corner_bytes most text (Row row) is = digits_are_alphanumeric text is.digits.1

-- what a corner's letters and digits say of it
module _ (text letters digits : List ℕ) (whole : text ≡ letters ++ digits)
    (run : IsRun is_ascii_alphabetic letters digits) where
  front : letters ≡ letters_of text
  front = (run_is_front is_ascii_alphabetic text letters digits whole run).0

  back : digits ≡ digits_of_text text
  back = (run_is_front is_ascii_alphabetic text letters digits whole run).1

  column_of_letters : (column : ℕ) → 0 < length letters → column + 1 ≡ min (letters_value letters) 18279
      → IsColumn (length text) letters (letters_value letters - 1) × (column ≡ min (letters_value letters - 1) 18278)
  column_of_letters column some counted =
      let bounds = letters_value_bounds letters run.all some in (
        record {
          letters =
              record { all = run.all; some = some; few = omega (arith, length-append letters digits, ap length whole) };
          value = omega (arith, bounds.0);
        },
        omega (arith, bounds.0),
      )

  pub row_corner : (row : ℕ) → length letters ≡ 0 → IsRow digits row → IsCappedCorner text (Row row)
  row_corner row none is =
      let same : text ≡ digits = rw (nil_from_length letters none) at whole in
      record { exact = Row row; is = rw same is; capped = refl }

  pub column_corner : (column : ℕ) → 0 < length letters → length digits ≡ 0
      → column + 1 ≡ min (letters_value letters) 18279 → IsCappedCorner text (Column column)
  column_corner column some none counted =
      let found = column_of_letters column some counted in
      let same : text ≡ letters = whole ∙ (rw (nil_from_length digits none) (append-nil letters)) in
      record {
        exact = Column (letters_value letters - 1);
        is = subst (λ (t : List ℕ). IsColumn (length text) t (letters_value letters - 1)) (sym same) found.0;
        capped = rw (← found.1) refl;
      }

  pub cell_corner : (row column : ℕ) → 0 < length letters → IsRow digits row
      → column + 1 ≡ min (letters_value letters) 18279 → IsCappedCorner text (Cell row column)
  cell_corner row column some is counted =
      let found = column_of_letters column some counted in
      record {
        exact = Cell row (letters_value letters - 1);
        is = (letters, digits, whole, found.0, is);
        capped = rw (← found.1) refl;
      }

  pub no_row_corner : length letters ≡ 0 → ((row : ℕ) → ¬ (IsRow digits row)) → (most : ℕ) (corner : Corner)
      → ¬ (IsCorner most text corner)
  no_row_corner none no_row most (Cell row column) is =
      no_row row (rw back (corner_split most text (Cell row column) is).1)
  no_row_corner none no_row most (Column column) is =
      absurd (omega (arith, (corner_split most text (Column column) is).0.letters.some, ap length front))
  no_row_corner none no_row most (Row row) is = no_row row (rw back (corner_split most text (Row row) is).1)

  pub no_cell_corner : 0 < length digits → ((row : ℕ) → ¬ (IsRow digits row)) → (most : ℕ) (corner : Corner)
      → ¬ (IsCorner most text corner)
  no_cell_corner some no_row most (Cell row column) is =
      no_row row (rw back (corner_split most text (Cell row column) is).1)
  no_cell_corner some no_row most (Column column) is =
      absurd (omega (arith, ap length (corner_split most text (Column column) is).1, ap length back))
  no_cell_corner some no_row most (Row row) is = no_row row (rw back (corner_split most text (Row row) is).1)
