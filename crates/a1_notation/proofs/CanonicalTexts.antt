-- Canonical texts: what is written is read.
use Rattle.std.proofs.Common.{◌≡◌, ℕ, ◌+◌, ◌-◌, ◌<◌, min, max, true, List, [], ◌∷◌, length, refl, arith, inl, inr}
use Rattle.std.specs.Prelude.{◌&&◌, ◌||◌, ◌==◌, Some}
use Rattle.std.specs.Char.{is_ascii_alphabetic, is_ascii_alphanumeric}
use Rattle.std.specs.Fmt.{decimal}
use Rattle.std.specs.List.{list_all}
use Rattle.std.proofs.lemmas.Bool.{cases_Bool, and_parts, and_from, eqb-true, false≢true}
use Rattle.std.proofs.lemmas.Bool.Decides.{nat_tests}
use Rattle.grid_range.specs.declared.band.Band.TheVariants.{Span}
use Rattle.a1_notation.specs.declared.a1.Part.TheVariants.{Cells}
use Rattle.a1_notation.specs.declared.column.TheConstants.{NAMED_COLUMNS}
use Rattle.a1_notation.specs.declared.corner.Corner.TheVariants.{Cell}
use Rattle.a1_notation.specs.declared.row.TheConstants.{NUMBERED_ROWS}
use Rattle.a1_notation.specs.Column.{column_letters}
use Rattle.a1_notation.specs.Title.{IsTitle, IsLoose, is_loose, printed_title, is_plain}
use Rattle.a1_notation.specs.Area.{IsCorner, IsArea, lines_between}
use Rattle.a1_notation.specs.Range.{Names}
use Rattle.a1_notation.specs.Canonical.{IsStretch, cell_text, area_text, canonical, is_one_line}
use Rattle.a1_notation.proofs.ColumnLetters.{letters_name_column}
use Rattle.a1_notation.proofs.RowNumbers.{number_names_row}
use Rattle.a1_notation.specs.OneRun.{passes_weaker}

-- a cell's text is that cell
pub cell_text_is : (row column : ℕ) → row < NUMBERED_ROWS → column < NAMED_COLUMNS
    → IsCorner 3 (cell_text row column) (Cell row column)
cell_text_is row column low small =
    (column_letters column, decimal (row + 1), refl, letters_name_column column small, number_names_row row low)

-- a plain title needs no quotes when it is read
word_byte_is_loose : (b : ℕ) → (is_ascii_alphanumeric b || b == 95) ≡ true → is_loose b ≡ true
word_byte_is_loose b h = grind (arith, nat_tests)

letter_is_word_byte : (b : ℕ) → (is_ascii_alphabetic b || b == 95) ≡ true → (is_ascii_alphanumeric b || b == 95) ≡ true
letter_is_word_byte b h = grind (arith, nat_tests)

pub plain_is_loose : (title : List ℕ) → is_plain title ≡ true → IsLoose title title
plain_is_loose [] plain = absurd (false≢true plain)
plain_is_loose (x ∷ xs) plain =
    let parts = and_parts (is_ascii_alphabetic x || x == 95)
    (list_all (λ d. is_ascii_alphanumeric d || d == 95) xs) plain in
    record {
      some = omega arith;
      loose = and_from (is_loose x) (list_all is_loose xs) (word_byte_is_loose x (letter_is_word_byte x parts.0))
          (passes_weaker (λ d. is_ascii_alphanumeric d || d == 95) is_loose word_byte_is_loose xs parts.1);
      same = refl;
    }

-- a title as it is printed is that title
pub printed_title_reads_back : (title : List ℕ) → 0 < length title → IsTitle (printed_title title) title
printed_title_reads_back title some =
    elim (cases_Bool (is_plain title)) [
      | inl plain ↦ rw plain (inr (plain_is_loose title plain))
      | inr other ↦ rw other (inl (record { some = some; spelled = refl }))
    ]

-- the lines of a stretch lie between its first and its last
stretch_between : (lines : ℕ × ℕ) (count : ℕ) → IsStretch lines count
    → lines_between lines.0 (lines.1 - 1) ≡ Span lines.0 lines.1
stretch_between lines count fits =
    let low : min lines.0 (lines.1 - 1) ≡ lines.0 = omega (arith, fits.0) in
    let high : max lines.0 (lines.1 - 1) + 1 ≡ lines.1 = omega (arith, fits.0) in
    rw (low, high) refl

one_line_between : (lines : ℕ × ℕ) → is_one_line lines ≡ true → lines_between lines.0 lines.0 ≡ Span lines.0 lines.1
one_line_between lines one =
    let e = eqb-true (lines.0 + 1) lines.1 one in
    let low : min lines.0 lines.0 ≡ lines.0 = omega arith in
    let high : max lines.0 lines.0 + 1 ≡ lines.1 = omega arith in
    rw (low, high) refl

-- the text that is written for an area is that area
pub area_text_reads_back : (rows columns : ℕ × ℕ) → IsStretch rows NUMBERED_ROWS → IsStretch columns NAMED_COLUMNS
    → IsArea 3 (area_text rows columns) (Span rows.0 rows.1) (Span columns.0 columns.1)
area_text_reads_back rows columns low small =
    elim (cases_Bool (is_one_line rows && is_one_line columns)) [
      | inl one ↦
          let lines = and_parts (is_one_line rows) (is_one_line columns) one in
          rw one (inl (record {
            row = rows.0;
            column = columns.0;
            cell = cell_text_is rows.0 columns.0 (omega (arith, low.0, low.1)) (omega (arith, small.0, small.1));
            area = rw (one_line_between rows lines.0, one_line_between columns lines.1) refl;
          }))
      | inr more ↦
          rw more (inr (record {
            first = cell_text rows.0 columns.0;
            second = cell_text (rows.1 - 1) (columns.1 - 1);
            parts = refl;
            between = record {
              one = Cell rows.0 columns.0;
              other = Cell (rows.1 - 1) (columns.1 - 1);
              one_is = cell_text_is rows.0 columns.0 (omega (arith, low.0, low.1)) (omega (arith, small.0, small.1));
              other_is =
                  cell_text_is (rows.1 - 1) (columns.1 - 1) (omega (arith, low.0, low.1))
                  (omega (arith, small.0, small.1));
              area = rw (stretch_between rows NUMBERED_ROWS low, stretch_between columns NAMED_COLUMNS small) refl;
            };
          }))
    ]

-- and so with a title before it
pub canonical_reads_back : (title : List ℕ)
    (rows columns : ℕ × ℕ) → 0 < length title → IsStretch rows NUMBERED_ROWS → IsStretch columns NAMED_COLUMNS → Names 3
    (canonical title rows columns)
    (record { sheet = Some title; part = Cells (Span rows.0 rows.1) (Span columns.0 columns.1) })
canonical_reads_back title rows columns some low small = record {
  sheet = printed_title title;
  part = area_text rows columns;
  parts = refl;
  title_is = printed_title_reads_back title some;
  area_is = area_text_reads_back rows columns low small;
}
