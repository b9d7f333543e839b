-- The pieces of a formula text (the `formulaValue` of the Google Sheets API v4), from its tokens.
use Rattle.std.specs.Prelude.{◌≡◌, ℕ, ◌+◌, Bool, true, false, ◌&&◌, nat_lt, List, [], ◌∷◌, ◌++◌, drop, slice_range, Option, Some, None, Result, Ok, Err, if◌then◌else◌}
use Rattle.grid_range.specs.declared.area.Area.{Area}
use Rattle.grid_range.specs.Band.{first_line}
use Rattle.grid_range.specs.Area.{cut_area}
use Rattle.ref_rewrite.specs.declared.pieces.Formula.{Formula}
use Rattle.ref_rewrite.specs.declared.pieces.Piece.{Piece}
use Rattle.ref_rewrite.specs.declared.pieces.Piece.TheVariants as piece
use Rattle.formula_reader.specs.declared.tokens.token.MarkedArea.{MarkedArea}
use Rattle.formula_reader.specs.declared.tokens.token.Token.{Token}
use Rattle.formula_reader.specs.declared.tokens.token.Token.TheVariants.{Reference, TitledReference, Function, Word, Truth, Number, Text, Lost, Operator, Open, Close, Comma}
use Rattle.formula_reader.specs.declared.tokens.token.Placed.{Placed}
use Rattle.formula_reader.specs.Tokens.{AreTokens}
use Rattle.formula_reader.specs.declared.fault.FormulaFault.{FormulaFault}
use Rattle.formula_reader.specs.Sheets.{Sheets, sheet_named}
use Rattle.formula_reader.specs.Limits.{passed}

-- a sheet of that size has the area's first row and column
abbrev pub is_inside : Area → ℕ → ℕ → Bool
is_inside area rows cols = nat_lt (first_line area.rows) rows && nat_lt (first_line area.cols) cols

-- the area on a sheet of that size, cut at the grid
abbrev pub clipped : Area → Option (ℕ × ℕ) → Option Area
clipped area None = None
clipped area (Some size) = if is_inside area size.0 size.1 then Some (cut_area area size.0 size.1) else None

abbrev pub area_on : Sheets → ℕ → MarkedArea → Option Area
area_on sheets sheet written =
    clipped (record { sheet = sheet; rows = written.rows; cols = written.cols }) (sheets.size sheet)

-- a reference to an area, or a lost one where there is none
abbrev pub reference_to : Bool → MarkedArea → Option Area → Piece
reference_to named written (Some area) =
    piece.Ref (record { named = named; area = area; marks = written.marks })
reference_to named written None = piece.Lost

-- a reference behind its sheet's title; it is lost where no sheet has the title
abbrev pub titled_reference : Sheets → MarkedArea → Option ℕ → Piece
titled_reference sheets written (Some sheet) = reference_to true written (area_on sheets sheet written)
titled_reference sheets written None = piece.Lost

-- the piece of a token in a formula of the sheet `here`; None for a token that is part of a text
abbrev pub piece_of : Sheets → ℕ → Token → Option Piece
piece_of sheets here (Reference written) = Some (reference_to false written (area_on sheets here written))
piece_of sheets here (TitledReference title written) = Some (titled_reference sheets written (sheet_named sheets title))
piece_of sheets here (Function name) = None
piece_of sheets here (Word word) = Some (piece.Word word)
piece_of sheets here (Truth truth) = None
piece_of sheets here (Number number) = None
piece_of sheets here (Text text) = None
piece_of sheets here Lost = Some piece.Lost
piece_of sheets here (Operator operator) = None
piece_of sheets here Open = None
piece_of sheets here Close = None
piece_of sheets here Comma = None

-- the piece of a text between two others; an empty one is none
abbrev pub text_piece : List ℕ → List Piece
text_piece [] = []
text_piece (byte ∷ bytes) = piece.Text (byte ∷ bytes) ∷ []

-- a piece behind the text before it, or what follows where there is no piece
abbrev pub with_piece : Option Piece → List ℕ → List Piece → List Piece → List Piece
with_piece (Some own) before behind on = text_piece before ++ own ∷ behind
with_piece None before behind on = on

-- The pieces of a text with these tokens from a byte on: the pieces of the tokens, and what stands
-- between them as it is. A token's place is counted behind the text's first byte, its =.
abbrev pub pieces_from : Sheets → ℕ → List ℕ → ℕ → List Placed → List Piece
pieces_from sheets here text from [] = text_piece (drop from text)
pieces_from sheets here text from (placed ∷ later) =
    with_piece (piece_of sheets here placed.token) (slice_range text from (placed.start + 1))
    (pieces_from sheets here text (placed.end + 1) later)
    (pieces_from sheets here text from later)

-- the tokens of a formula text, which begins with = (61): those of what is behind it
abbrev pub AreTokensOf : List ℕ → List Placed → Type 0
AreTokensOf text tokens = (behind : List ℕ) × (text ≡ 61 ∷ behind) × AreTokens behind 0 tokens

-- a text that is one piece
abbrev pub one_text : List ℕ → Formula
one_text text = record { pieces = piece.Text text ∷ [] }

-- a formula with these tokens, unless they pass a limit
abbrev pub within_limits : Option FormulaFault → List Piece → Result Formula FormulaFault
within_limits (Some fault) pieces = Err fault
within_limits None pieces = Ok (record { pieces = pieces })

abbrev pub formula_of : Sheets → ℕ → List ℕ → List Placed → Result Formula FormulaFault
formula_of sheets here text tokens = within_limits (passed tokens) (pieces_from sheets here text 0 tokens)

-- what a text is read as in a formula of the sheet `here`, whatever limits it passes, and the first one that it does:
-- by its tokens, and as one piece where it has none
pub data IsRead (sheets : Sheets) (here : ℕ) (text : List ℕ) (formula : Formula) (limit : Option FormulaFault) :
    Type 0 where
  by_tokens : (tokens : List Placed) → AreTokensOf text tokens
      → formula ≡ record { pieces = pieces_from sheets here text 0 tokens } → limit ≡ passed tokens
      → IsRead sheets here text formula limit
  as_text : ((tokens : List Placed) → ¬ (AreTokensOf text tokens)) → formula ≡ one_text text → limit ≡ None
      → IsRead sheets here text formula limit
