-- What is stored in a cell, its references by the names of lines: the `userEnteredValue` of a `CellData` of
-- the Google Sheets API v4.
use Rattle.std.specs.Prelude.{ℕ, ℤ, Bool, List, map}
use Rattle.ref_rewrite.specs.declared.cell_content.Content.{Content}
use Rattle.ref_rewrite.specs.declared.cell_content.Content.TheVariants as content
use Rattle.ref_rewrite.specs.declared.pieces.Piece.{Piece}
use Rattle.ref_rewrite.specs.declared.pieces.Piece.TheVariants as piece
use Rattle.ref_rewrite.specs.declared.reference.Marks.{Marks}
use Rattle.ref_rewrite.specs.declared.reference.Ref.{Ref as Reference}
use Rattle.world_model.specs.Area.{NameArea, Orders, area_named}

-- a reference to cells; whether the sheet's title is written, and the coordinates with a `$`
pub record NameRef : Type 0 where
  pub named : Bool
  pub area : NameArea
  pub marks : Marks

-- a piece of a formula's text
pub data NamePiece : Type 0 where
  Text : List ℕ → NamePiece
  Word : List ℕ → NamePiece
  Ref : NameRef → NamePiece
  Lost : NamePiece

-- a whole number, a text, a truth value or a formula
pub data NameContent : Type 0 where
  Number : ℤ → NameContent
  Text : List ℕ → NameContent
  Truth : Bool → NameContent
  Formula : List NamePiece → NameContent

-- the reference to the lines at the places of a reference
abbrev pub reference_named : Orders → Reference → NameRef
reference_named orders reference = record {
  named = reference.named;
  area = area_named orders reference.area;
  marks = reference.marks;
}

abbrev pub piece_named : Orders → Piece → NamePiece
piece_named orders (piece.Text text) = NamePiece.Text text
piece_named orders (piece.Word word) = NamePiece.Word word
piece_named orders (piece.Ref reference) = NamePiece.Ref (reference_named orders reference)
piece_named orders piece.Lost = NamePiece.Lost

-- the content whose references are to the lines at the places of its references
abbrev pub content_named : Orders → Content → NameContent
content_named orders (content.Number number) = NameContent.Number number
content_named orders (content.Text text) = NameContent.Text text
content_named orders (content.Truth truth) = NameContent.Truth truth
content_named orders (content.Formula formula) = NameContent.Formula (map (piece_named orders) formula.pieces)
