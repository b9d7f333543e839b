-- A token's piece is a reference, a lost one or its word.
use Rattle.std.proofs.Common.{ℕ, Bool, true, false, List, Option, Some, None}
use Rattle.std.specs.Prelude.{IfSome}
use Rattle.grid_range.specs.declared.area.Area.{Area}
use Rattle.ref_rewrite.specs.declared.pieces.Piece.{Piece}
use Rattle.ref_rewrite.specs.declared.pieces.Piece.TheVariants as piece
use Rattle.ref_rewrite.specs.declared.reference.Ref.{Ref}
use Rattle.formula_reader.specs.declared.tokens.token.Token.{Token}
use Rattle.formula_reader.specs.declared.tokens.token.Token.TheVariants as token
use Rattle.formula_reader.specs.declared.tokens.token.MarkedArea.{MarkedArea}
use Rattle.formula_reader.specs.Tokens.{FitsFirst, forms}
use Rattle.formula_reader.specs.Sheets.{Sheets, sheet_named}
use Rattle.formula_reader.specs.Pieces.{piece_of, area_on, titled_reference, reference_to}

module _ (P : Piece → Type 0) (reference_has : (reference : Ref) → P (piece.Ref reference))
    (lost_has : P piece.Lost) where
  area_has : (named : Bool) (written : MarkedArea) (area : Option Area) → P (reference_to named written area)
  area_has named written None = lost_has
  area_has named written (Some area) = reference_has (record { named = named; area = area; marks = written.marks })

  titled_reference_has : (sheets : Sheets) (written : MarkedArea) (sheet : Option ℕ)
      → P (titled_reference sheets written sheet)
  titled_reference_has sheets written None = lost_has
  titled_reference_has sheets written (Some sheet) = area_has true written (area_on sheets sheet written)

  -- so what holds of each of these holds of it
  pub token_has : (sheets : Sheets) (here : ℕ) (own : List ℕ) (t : Token) (rest : List ℕ)
      → ((word : List ℕ) → FitsFirst forms own (token.Word word) rest → P (piece.Word word))
      → FitsFirst forms own t rest → IfSome (piece_of sheets here t) P
  token_has sheets here own (token.Reference written) rest word_has fits =
      area_has false written (area_on sheets here written)
  token_has sheets here own (token.TitledReference title written) rest word_has fits =
      titled_reference_has sheets written (sheet_named sheets title)
  token_has sheets here own (token.Word word) rest word_has fits = word_has word fits
  token_has sheets here own token.Lost rest word_has fits = lost_has
  token_has sheets here own _ rest word_has fits = tt
