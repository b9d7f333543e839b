-- The text that is printed for a reference is that reference, with the marks that are printed.
use Rattle.a1_notation.specs.Laws.{A1Laws}
use Rattle.a1_notation.specs.OneRun.{passes_weaker}
use Rattle.std.proofs.Common.{◌≡◌, ℕ, ◌+◌, ◌-◌, ◌<◌, min, max, Bool, true, false, List, [], ◌∷◌, length, ◌++◌, refl, ◌∙◌, arith, inl, inr, append_assoc, append-nil}
use Rattle.std.specs.Prelude.{◌||◌, ◌==◌, ◌&&◌, Some}
use Rattle.std.specs.List.{list_all}
use Rattle.std.specs.Char.{is_ascii_alphabetic, is_ascii_alphanumeric}
use Rattle.std.specs.Fmt.{decimal}
use Rattle.std.proofs.Math.Bool.{and-false}
use Rattle.std.proofs.lemmas.Bool.{cases_Bool, and_parts, and_from, eqb-true, false≢true}
use Rattle.std.proofs.lemmas.Bool.Decides.{nat_tests}
use Rattle.grid_range.specs.declared.band.Band.{Band}
use Rattle.grid_range.specs.declared.band.Band.TheVariants.{Whole, From, Span}
use Rattle.ref_rewrite.specs.declared.reference.Marks.{Marks}
use Rattle.ref_rewrite.specs.declared.reference.Ref.{Ref}
use Rattle.ref_rewrite.specs.declared.pieces.Piece.TheVariants as piece
use Rattle.a1_notation.specs.Canonical.{is_one_line}
use Rattle.a1_notation.specs.declared.column.TheConstants.{NAMED_COLUMNS}
use Rattle.a1_notation.specs.declared.row.TheConstants.{NUMBERED_ROWS}
use Rattle.formula_reader.specs.Laws.{PrintsCanonically, no_marks}
use Rattle.a1_notation.specs.Column.{column_letters}
use Rattle.a1_notation.specs.Title.{printed_title, is_plain}
use Rattle.formula_reader.specs.declared.tokens.token.MarkedArea.{MarkedArea}
use Rattle.formula_reader.specs.Corner.{marked_text, IsMarkedColumn, IsMarkedRow}
use Rattle.formula_reader.specs.Reference.{IsPart}
use Rattle.a1_notation.specs.Word.{begins_word, is_in_word}
use Rattle.formula_reader.proofs.Lexemes.{IsWordText, IsTitleText, IsTitledText}
use Rattle.formula_reader.proofs.PartTexts.{AreEndsOf, cell_part, area_part, columns_part, rows_part, open_part}
use Rattle.formula_reader.specs.Sheets.{Sheets}
use Rattle.grid_range.specs.Band.{has_one_line}
use Rattle.formula_reader.specs.ReferenceText.{first_row, last_row, first_column, last_column, is_one_cell, reference_text, AreRows, AreColumns, HasForm}
use Rattle.formula_reader.specs.Printed.{printed_piece}
use Rattle.formula_reader.specs.ReadBack.{printed_marks}

-- the ends of a band
ends_of : (start last end : ℕ) (mark mark' : Bool) → start < end → last + 1 ≡ end
    → AreEndsOf (Span start end) (record { line = start; marked = mark }) (record { line = last; marked = mark' })
ends_of start last end mark mark' less is_next =
    let low : min start last ≡ start = omega arith in
    let high : max start last + 1 ≡ end = omega arith in
    record { ordered = omega arith; lines = rw (low, high) refl }

-- what is read of a printed text
abbrev pub printed_as : Band → Band → Marks → MarkedArea
printed_as rows cols marks = record { rows = rows; cols = cols; marks = printed_marks rows cols marks }

-- the first corner, and the last one
abbrev first_text : Band → Band → Marks → List ℕ
first_text rows cols marks = first_column cols marks.col1 ++ first_row rows marks.row1

abbrev last_text : Band → Band → Marks → List ℕ
last_text rows cols marks = last_column cols marks.col2 ++ last_row rows marks.row2

-- more than one cell has both
both_printed : (rows cols : Band) (marks : Marks) → is_one_cell rows cols ≡ false
    → reference_text rows cols marks ≡ first_text rows cols marks ++ 58 ∷ last_text rows cols marks
both_printed rows cols marks more =
    rw more (append_assoc (first_text rows cols marks) (58 ∷ last_column cols marks.col2) (last_row rows marks.row2))

-- without marks it is the canonical text of its area
pub prints_canonically : PrintsCanonically
prints_canonically rows columns low small =
    elim (cases_Bool (is_one_line rows && is_one_line columns)) [
      | inl one ↦ rw one refl
      | inr more ↦
          let back : rows.1 - 1 + 1 ≡ rows.1 = omega (arith, low.0) in
          both_printed (Span rows.0 rows.1) (Span columns.0 columns.1) no_marks more ∙ rw (more, back) refl
    ]

-- by the laws of A1 notation what is printed is a reference
module _ (a1 : A1Laws) where
  -- the name of a column and that of a row, with their marks
  column_printed : (column : ℕ) (mark : Bool) → column < NAMED_COLUMNS
      → IsMarkedColumn (marked_text mark (column_letters column)) (record { line = column; marked = mark })
  column_printed column mark small = record {
    name = column_letters column;
    spelled = refl;
    name_is = a1.letters_name column small;
  }

  row_printed : (row next : ℕ) (mark : Bool) → row < NUMBERED_ROWS → row + 1 ≡ next
      → IsMarkedRow (marked_text mark (decimal next)) (record { line = row; marked = mark })
  row_printed row next mark small is_next = record {
    name = decimal next;
    spelled = refl;
    name_is = rw (← is_next) (a1.numbers_name row small);
  }

  -- rows and columns
  module _ (start end start' end' : ℕ) (marks : Marks) (rows : AreRows start end) (cols : AreColumns start' end') where
    cell_printed : is_one_cell (Span start end) (Span start' end') ≡ true
        → IsPart (reference_text (Span start end) (Span start' end') marks)
        (printed_as (Span start end) (Span start' end') marks)
    cell_printed one =
        let lines = and_parts (has_one_line (Span start end)) (has_one_line (Span start' end')) one in
        let row_end = eqb-true (start + 1) end lines.0 in
        let column_end = eqb-true (start' + 1) end' lines.1 in
        rw one (cell_part
        (column_printed start' marks.col1 (omega (arith, cols.0, cols.1)))
        (row_printed start (start + 1) marks.row1 (omega (arith, rows.0, rows.1)) refl)
        (ends_of start start end marks.row1 marks.row1 (omega arith) row_end)
        (ends_of start' start' end' marks.col1 marks.col1 (omega arith) column_end))

    area_printed : is_one_cell (Span start end) (Span start' end') ≡ false
        → IsPart (reference_text (Span start end) (Span start' end') marks)
        (printed_as (Span start end) (Span start' end') marks)
    area_printed more =
        rw (both_printed (Span start end) (Span start' end') marks more, more) (area_part
        (column_printed start' marks.col1 (omega (arith, cols.0, cols.1)))
        (row_printed start (start + 1) marks.row1 (omega (arith, rows.0, rows.1)) refl)
        (column_printed (end' - 1) marks.col2 (omega (arith, cols.0, cols.1)))
        (row_printed (end - 1) end marks.row2 (omega (arith, rows.0, rows.1)) (omega (arith, rows.0)))
        (ends_of start (end - 1) end marks.row1 marks.row2 rows.0 (omega (arith, rows.0)))
        (ends_of start' (end' - 1) end' marks.col1 marks.col2 cols.0 (omega (arith, cols.0))))

  -- columns, from the first row on or from another
  columns_printed : (start end : ℕ) (marks : Marks) → AreColumns start end
      → IsPart (reference_text Whole (Span start end) marks) (printed_as Whole (Span start end) marks)
  columns_printed start end marks cols =
      simp append-nil (columns_part
      (column_printed start marks.col1 (omega (arith, cols.0, cols.1)))
      (column_printed (end - 1) marks.col2 (omega (arith, cols.0, cols.1)))
      (ends_of start (end - 1) end marks.col1 marks.col2 cols.0 (omega (arith, cols.0))))

  open_printed : (row start end : ℕ) (marks : Marks) → row < NUMBERED_ROWS → AreColumns start end
      → IsPart (reference_text (From row) (Span start end) marks) (printed_as (From row) (Span start end) marks)
  open_printed row start end marks small cols =
      simp append-nil (open_part
      (column_printed start marks.col1 (omega (arith, cols.0, cols.1)))
      (row_printed row (row + 1) marks.row1 small refl)
      (column_printed (end - 1) marks.col2 (omega (arith, cols.0, cols.1)))
      (ends_of start (end - 1) end marks.col1 marks.col2 cols.0 (omega (arith, cols.0))))

  -- rows
  rows_printed : (start end : ℕ) (marks : Marks) → AreRows start end
      → IsPart (reference_text (Span start end) Whole marks) (printed_as (Span start end) Whole marks)
  rows_printed start end marks rows =
      let more = and-false (has_one_line (Span start end)) in
      rw (both_printed (Span start end) Whole marks more, more) (rows_part
      (row_printed start (start + 1) marks.row1 (omega (arith, rows.0, rows.1)) refl)
      (row_printed (end - 1) end marks.row2 (omega (arith, rows.0, rows.1)) (omega (arith, rows.0)))
      (ends_of start (end - 1) end marks.row1 marks.row2 rows.0 (omega (arith, rows.0))))

  -- the text of a reference
  pub part_printed : (rows cols : Band) (marks : Marks) → HasForm rows cols
      → IsPart (reference_text rows cols marks) (printed_as rows cols marks)
  part_printed (Span start end) (Span start' end') marks form =
      elim (cases_Bool (is_one_cell (Span start end) (Span start' end'))) [
        | inl one ↦ cell_printed start end start' end' marks form.0 form.1 one
        | inr more ↦ area_printed start end start' end' marks form.0 form.1 more
      ]
  part_printed Whole (Span start end) marks form = columns_printed start end marks form.1
  part_printed (Span start end) Whole marks form = rows_printed start end marks form
  part_printed (From row) (Span start end) marks form = open_printed row start end marks form.0 form.1
  part_printed rows cols marks form = absurd form

-- a printed title: a plain one is a word
byte_in_word : (b : ℕ) → (is_ascii_alphanumeric b || b == 95) ≡ true → is_in_word b ≡ true
byte_in_word b h = grind (arith, nat_tests)

begins_a_word : (b : ℕ) → (is_ascii_alphabetic b || b == 95) ≡ true → begins_word b ≡ true
begins_a_word b h = grind (arith, nat_tests)

plain_is_word : (title : List ℕ) → is_plain title ≡ true → IsWordText title
plain_is_word [] plain = absurd (false≢true plain)
plain_is_word (b ∷ bs) plain =
    let parts = and_parts (is_ascii_alphabetic b || b == 95)
    (list_all (λ d. is_ascii_alphanumeric d || d == 95) bs) plain in
    record {
      first = begins_a_word b parts.0;
      all = and_from (is_in_word b) (list_all is_in_word bs) (first_in_word b (begins_a_word b parts.0))
          (passes_weaker (λ d. is_ascii_alphanumeric d || d == 95) is_in_word byte_in_word bs parts.1);
    }
  where
    first_in_word : (b : ℕ) → begins_word b ≡ true → is_in_word b ≡ true
    first_in_word b h = rw h refl

pub title_printed : (title : List ℕ) → 0 < length title → IsTitleText (printed_title title) title
title_printed title some =
    elim (cases_Bool (is_plain title)) [
      | inl plain ↦ rw plain (inr (plain_is_word title plain, refl))
      | inr other ↦ rw other (inl (record { some = some; spelled = refl }))
    ]

-- what is read of a reference
abbrev pub written_again : Ref → MarkedArea
written_again reference = printed_as reference.area.rows reference.area.cols reference.marks

-- the text of a reference to the formula's own sheet, and of one behind its sheet's title
pub own_printed : A1Laws → (sheets : Sheets) (reference : Ref) → reference.named ≡ false
    → HasForm reference.area.rows reference.area.cols
    → IsPart (printed_piece sheets (piece.Ref reference)) (written_again reference)
own_printed a1 sheets reference own form =
    rw own (part_printed a1 reference.area.rows reference.area.cols reference.marks form)

pub titled_printed : A1Laws → (sheets : Sheets) (reference : Ref) (title : List ℕ) → reference.named ≡ true
    → sheets.title reference.area.sheet ≡ Some title → 0 < length title
    → HasForm reference.area.rows reference.area.cols
    → IsTitledText title (printed_piece sheets (piece.Ref reference)) (λ part. IsPart part (written_again reference))
titled_printed a1 sheets reference title named has some form =
    let part = reference_text reference.area.rows reference.area.cols reference.marks in
    record {
      sheet = printed_title title;
      part = part;
      whole = rw (named, has) (append_assoc (printed_title title) (33 ∷ []) part);
      title_is = title_printed title some;
      names = part_printed a1 reference.area.rows reference.area.cols reference.marks form;
    }
