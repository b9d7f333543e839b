-- A formula prints the same text once it is read again as it is printed.
use Rattle.std.proofs.Common.{rules, ◌≡◌, Bool, List, [], ◌∷◌, ◌++◌, map, refl, ap, inl, inr}
use Rattle.std.specs.Prelude.{◌&&◌}
use Rattle.std.proofs.lemmas.Bool.{cases_Bool}
use Rattle.grid_range.specs.declared.band.Band.{Band}
use Rattle.ref_rewrite.specs.declared.reference.Marks.{Marks}
use Rattle.ref_rewrite.specs.declared.pieces.Piece.{Piece}
use Rattle.ref_rewrite.specs.declared.pieces.Piece.TheVariants as piece
use Rattle.formula_reader.specs.Sheets.{Sheets}
use Rattle.formula_reader.specs.ReferenceText.{first_row, last_row, first_column, last_column, is_one_cell, reference_text}
use Rattle.formula_reader.specs.Printed.{title_before, printed_piece, printed}
use Rattle.formula_reader.specs.ReadBack.{has_first, has_last, printed_marks, piece_as_printed}
use Rattle.formula_reader.specs.Changed.{PrintsTheSame}

-- the mark of a line that isn't written prints nothing
first_row_same : (rows : Band) (mark : Bool) → first_row rows (has_first rows && mark) ≡ first_row rows mark
first_row_same rows mark = search rules

last_row_same : (rows : Band) (mark : Bool) → last_row rows (has_last rows && mark) ≡ last_row rows mark
last_row_same rows mark = search rules

first_column_same : (cols : Band) (mark : Bool) → first_column cols (has_first cols && mark) ≡ first_column cols mark
first_column_same cols mark = search rules

last_column_same : (cols : Band) (mark : Bool) → last_column cols (has_last cols && mark) ≡ last_column cols mark
last_column_same cols mark = search rules

-- nor does that of a second corner where one is printed
reference_same : (rows cols : Band) (marks : Marks)
    → reference_text rows cols (printed_marks rows cols marks) ≡ reference_text rows cols marks
reference_same rows cols marks =
    elim (cases_Bool (is_one_cell rows cols)) [
      | inl one ↦ rw (one, first_column_same cols marks.col1, first_row_same rows marks.row1) refl
      | inr both ↦
          rw (
            both,
            first_column_same cols marks.col1,
            first_row_same rows marks.row1,
            last_column_same cols marks.col2,
            last_row_same rows marks.row2,
          )
          refl
    ]

-- so the pieces print the same
piece_same : (sheets : Sheets) (own : Piece) → printed_piece sheets (piece_as_printed own) ≡ printed_piece sheets own
piece_same sheets (piece.Text text) = refl
piece_same sheets (piece.Word word) = refl
piece_same sheets (piece.Ref reference) =
    ap (λ own. title_before sheets reference ++ own)
    (reference_same reference.area.rows reference.area.cols reference.marks)
piece_same sheets piece.Lost = refl

pieces_same : (sheets : Sheets) (pieces : List Piece)
    → printed sheets (map piece_as_printed pieces) ≡ printed sheets pieces
pieces_same sheets [] = refl
pieces_same sheets (own ∷ later) = rw (piece_same sheets own, pieces_same sheets later) refl

pub prints_the_same : PrintsTheSame
prints_the_same sheets formula = pieces_same sheets formula.pieces
