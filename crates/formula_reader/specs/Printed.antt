-- The text of a formula (the `formulaValue` of the Google Sheets API v4).
use Rattle.std.specs.Prelude.{ℕ, ⊤, List, [], ◌∷◌, ◌++◌, Option, Some, None, if◌then◌else◌, codes}
use Rattle.std.specs.List.{All, flat_map}
use Rattle.ref_rewrite.specs.declared.reference.Ref.{Ref}
use Rattle.ref_rewrite.specs.declared.pieces.Piece.{Piece}
use Rattle.ref_rewrite.specs.declared.pieces.Piece.TheVariants as piece
use Rattle.a1_notation.specs.Title.{printed_title}
use Rattle.formula_reader.specs.Sheets.{Sheets, HasTitle}
use Rattle.formula_reader.specs.ReferenceText.{reference_text, HasForm}

-- a sheet's title and ! (33), which stand before a reference
abbrev pub title_and_mark : Option (List ℕ) → List ℕ
title_and_mark (Some title) = printed_title title ++ 33 ∷ []
title_and_mark None = []

-- what stands before a reference that is written with its sheet's title
abbrev pub title_before : Sheets → Ref → List ℕ
title_before sheets reference =
    if reference.named then title_and_mark (sheets.title reference.area.sheet) else []

-- the text of a piece; a lost reference is #REF!
abbrev pub printed_piece : Sheets → Piece → List ℕ
printed_piece sheets (piece.Text text) = text
printed_piece sheets (piece.Word word) = word
printed_piece sheets (piece.Ref reference) =
    title_before sheets reference
    ++ reference_text reference.area.rows reference.area.cols reference.marks
printed_piece sheets piece.Lost = codes "#REF!"

-- the text of the pieces, one behind another
abbrev pub printed : Sheets → List Piece → List ℕ
printed sheets pieces = flat_map (printed_piece sheets) pieces

-- a reference can be printed: its sheet is there, and A1 notation has its area
pub record IsPrintableReference (sheets : Sheets) (reference : Ref) : Type 0 where
  pub titled : HasTitle sheets reference.area.sheet
  pub form : HasForm reference.area.rows reference.area.cols

abbrev pub IsPrintable : Sheets → Piece → Type 0
IsPrintable sheets (piece.Text text) = ⊤
IsPrintable sheets (piece.Word word) = ⊤
IsPrintable sheets (piece.Ref reference) = IsPrintableReference sheets reference
IsPrintable sheets piece.Lost = ⊤

abbrev pub ArePrintable : Sheets → List Piece → Type 0
ArePrintable sheets pieces = All (IsPrintable sheets) pieces
