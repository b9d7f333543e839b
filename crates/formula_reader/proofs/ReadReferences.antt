-- References that are read can be printed, and their cells are in the grid.
use Rattle.a1_notation.specs.Laws.{A1Laws}
use Rattle.std.proofs.Common.{◌≡◌, ℕ, Bool, true, false, List, [], ◌∷◌, ◌++◌, Option, Some, None, refl, sym, subst, append-nil}
use Rattle.std.specs.Prelude.{IfSome}
use Rattle.std.specs.List.{All}
use Rattle.std.proofs.lemmas.List.Elements.{All-nil, All-cons}
use Rattle.grid_range.specs.declared.area.Area.{Area}
use Rattle.ref_rewrite.specs.declared.pieces.Piece.{Piece}
use Rattle.ref_rewrite.specs.declared.pieces.Piece.TheVariants as piece
use Rattle.formula_reader.specs.declared.tokens.token.Placed.{Placed}
use Rattle.formula_reader.specs.declared.tokens.token.Token.{Token}
use Rattle.formula_reader.specs.declared.tokens.token.Token.TheVariants as token
use Rattle.formula_reader.specs.declared.tokens.token.MarkedArea.{MarkedArea}
use Rattle.formula_reader.specs.Reference.{IsPart}
use Rattle.formula_reader.specs.Tokens.{FitsFirst, forms, AreTokens}
use Rattle.formula_reader.proofs.PartLines.{part_has}
use Rattle.formula_reader.proofs.Lexemes.{Item, gap, lexeme, spell, AreFit}
use Rattle.formula_reader.proofs.Spelling.{lexeme_of}
use Rattle.formula_reader.specs.Sheets.{Sheets, HasTitle, sheet_named}
use Rattle.formula_reader.specs.ReferenceText.{HasForm}
use Rattle.formula_reader.specs.Pieces.{clipped, piece_of, area_on, titled_reference, reference_to, text_piece, with_piece, pieces_from}
use Rattle.formula_reader.specs.Printed.{IsPrintable}
use Rattle.formula_reader.specs.ReadBack.{AreKnown, IsSheetOf, IsPresent}
use Rattle.formula_reader.proofs.CutAreas.{IsCutTo, area_cut}
use Rattle.formula_reader.proofs.Gathering.{gathered, gathered_has}

-- what holds of texts and of a token's piece holds of all the pieces
module _ (P : Piece → Type 0) (text_has : (text : List ℕ) → P (piece.Text text)) where
  kept_have : (pending : List ℕ) (later : List Piece) → All P later → All P (text_piece pending ++ later)
  kept_have [] later have = have
  kept_have (b ∷ pending) later have = All-cons P (piece.Text (b ∷ pending)) later (text_has (b ∷ pending)) have

  pieces_have : (pending : List ℕ) (found : Option Piece) (later on : List Piece) → IfSome found P → All P later
      → All P on
      → All P (with_piece found pending later on)
  pieces_have pending None later on has have on_have = on_have
  pieces_have pending (Some first) later on has have on_have =
      kept_have pending (first ∷ later) (All-cons P first later has have)

-- a reference that is written has a form of A1 notation
part_form : A1Laws → (own : List ℕ) (written : MarkedArea) → IsPart own written → HasForm written.rows written.cols
part_form a1 own written is =
    part_has HasForm (λ start end start' end' rows cols. (rows, cols)) (λ start end cols. (tt, cols))
    (λ start end rows. rows)
    (λ row start end small cols. (small, cols)) a1 own written is

-- a piece can be printed, and a reference's cells are in the grid
abbrev IsSeen : Sheets → ℕ → Piece → Type 0
IsSeen sheets here own = IsPrintable sheets own × IsPresent sheets here own

module _ (sheets : Sheets) (here : ℕ) where
  -- a reference to cells of a sheet
  cells_seen : (named : Bool) (sheet : ℕ) (written : MarkedArea) (found : Option Area) → HasTitle sheets sheet
      → IsSheetOf sheets here named sheet
      → IfSome found (IsCutTo (record { sheet = sheet; rows = written.rows; cols = written.cols }) (sheets.size sheet))
      → IsSeen sheets here (reference_to named written found)
  cells_seen named sheet written None titled told cut = (tt, tt)
  cells_seen named sheet written (Some area) titled told cut = (
    record { titled = rw cut.sheet titled; form = cut.form },
    record {
      sheet = rw cut.sheet told;
      inside = subst (λ own. clipped area (sheets.size own) ≡ Some area) (sym cut.sheet) cut.again;
    },
  )

  area_seen : (named : Bool) (sheet : ℕ) (written : MarkedArea) → HasTitle sheets sheet
      → IsSheetOf sheets here named sheet
      → HasForm written.rows written.cols → IsSeen sheets here
      (reference_to named written (area_on sheets sheet written))
  area_seen named sheet written titled told form =
      cells_seen named sheet written (area_on sheets sheet written) titled told
      (area_cut (record { sheet = sheet; rows = written.rows; cols = written.cols }) (sheets.size sheet) form)

  module _ (a1 : A1Laws) (known : AreKnown sheets here) where
    -- one behind a title
    titled_reference_seen : (title : List ℕ) (written : MarkedArea) (found : Option ℕ)
        → sheet_named sheets title ≡ found
        → HasForm written.rows written.cols → IsSeen sheets here (titled_reference sheets written found)
    titled_reference_seen title written None is form = (tt, tt)
    titled_reference_seen title written (Some sheet) is form =
        let own = known.others title sheet is in
        area_seen true sheet written own.titled own form

    -- a token's piece
    token_seen : (own : List ℕ) (t : Token) (rest : List ℕ) → FitsFirst forms own t rest
        → IfSome (piece_of sheets here t) (IsSeen sheets here)
    token_seen own (token.Reference written) rest fits =
        area_seen false here written known.own refl
        (part_form a1 own written (lexeme_of own (token.Reference written) rest tt fits))
    token_seen own (token.TitledReference title written) rest fits =
        let titled = lexeme_of own (token.TitledReference title written) rest tt fits in
        titled_reference_seen title written (sheet_named sheets title) refl
        (part_form a1 titled.part written titled.names)
    token_seen own (token.Word word) rest fits = (tt, tt)
    token_seen own token.Lost rest fits = (tt, tt)
    token_seen own _ rest fits = tt

    -- and so each of the pieces
    gathered_seen : (pending : List ℕ) (items : List Item) → AreFit items
        → All (IsSeen sheets here) (gathered sheets here pending items)
    gathered_seen pending [] fit =
        rw (append-nil (text_piece pending)) at (kept_have (IsSeen sheets here) (λ text. (tt, tt)) pending []
        (All-nil (IsSeen sheets here)))
    gathered_seen pending (gap blanks ∷ later) fit = gathered_seen (pending ++ blanks) later fit.1
    gathered_seen pending (lexeme own token ∷ later) fit =
        pieces_have (IsSeen sheets here) (λ text. (tt, tt)) pending (piece_of sheets here token)
        (gathered sheets here [] later)
        (gathered sheets here (pending ++ own) later) (token_seen own token (spell later) fit.0)
        (gathered_seen [] later fit.1) (gathered_seen (pending ++ own) later fit.1)

    -- those of a text with tokens behind its =
    pub pieces_seen : (behind : List ℕ) (tokens : List Placed) → AreTokens behind 0 tokens
        → All (IsSeen sheets here) (pieces_from sheets here (61 ∷ behind) 0 tokens)
    pieces_seen behind tokens are =
        gathered_has (λ text pieces. All (IsSeen sheets here) pieces) sheets here behind tokens
        (gathered_seen (61 ∷ [])) are
