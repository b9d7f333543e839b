-- The text of a printed formula as the lexemes of its pieces.
use Rattle.a1_notation.specs.Laws.{A1Laws}
use Rattle.std.proofs.Common.{◌≡◌, false, true, Bool, ℕ, List, [], ◌∷◌, ◌++◌, map, refl, sym, ap, ◌∙◌, subst}
use Rattle.std.specs.Prelude.{Some}
use Rattle.std.specs.List.{All}
use Rattle.std.proofs.lemmas.List.{map-append}
use Rattle.std.proofs.lemmas.List.Elements.{All-head, All-tail}
use Rattle.formula_reader.specs.declared.tokens.token.Token.{Token}
use Rattle.formula_reader.specs.declared.tokens.token.Token.TheVariants as token
use Rattle.formula_reader.proofs.Lexemes.{Item, lexeme, IsLexeme}
use Rattle.ref_rewrite.specs.declared.pieces.Piece.{Piece}
use Rattle.ref_rewrite.specs.declared.pieces.Piece.TheVariants as piece
use Rattle.formula_reader.specs.declared.symbols.Symbol.{Symbol}
use Rattle.formula_reader.specs.declared.symbols.Symbol.TheVariants as symbol
use Rattle.formula_reader.specs.Sheets.{Sheets}
use Rattle.formula_reader.specs.Pieces.{piece_of, text_piece}
use Rattle.formula_reader.specs.Printed.{printed_piece, printed, IsPrintable, ArePrintable}
use Rattle.formula_reader.specs.Symbols.{AreOfPiece, AreOfPieces}
use Rattle.formula_reader.specs.ReadBack.{piece_as_printed, IsWellFormed, IsPresent}
use Rattle.formula_reader.proofs.Neighbours.{operand, kind_of_token, kind_of_symbol}
use Rattle.formula_reader.proofs.TextItems.{AreOf, both_are, operand_is, text_items}
use Rattle.formula_reader.proofs.Gathering.{gathered}
use Rattle.formula_reader.proofs.ReferencesAgain.{reference_again}

-- the pieces again, with a text that stands before them
abbrev pub assembled : List ℕ → List Piece → List Piece
assembled pending [] = text_piece pending
assembled pending (piece.Text own ∷ later) = assembled (pending ++ own) later
assembled pending (piece.Word word ∷ later) = text_piece pending ++ piece.Word word ∷ assembled [] later
assembled pending (piece.Ref reference ∷ later) =
    text_piece pending ++ piece_as_printed (piece.Ref reference) ∷ assembled [] later
assembled pending (piece.Lost ∷ later) = text_piece pending ++ piece.Lost ∷ assembled [] later

-- the items spell the printed pieces, are of their symbols' kinds, and have the pieces again
pub record Prints (sheets : Sheets) (here : ℕ) (pieces : List Piece) (symbols : List Symbol)
    (items : List Item) : Type 0 where
  pub of : AreOf (printed sheets pieces) (map kind_of_symbol symbols) items
  pub again : (pending : List ℕ) → gathered sheets here pending items ≡ assembled pending pieces

module _ (sheets : Sheets) (here : ℕ) (later : List Piece) (back : List Symbol) (more : List Item)
    (rest : Prints sheets here later back more) where
  -- a text before other pieces
  pub behind_text : (text : List ℕ) (front : List Symbol) → AreOfPiece (piece.Text text) front
      → (items : List Item) × Prints sheets here (piece.Text text ∷ later) (front ++ back) items
  behind_text text front is =
      let own = text_items text front is in (
        own.0 ++ more,
        record {
          of = rw (map-append kind_of_symbol front back) (both_are _ _ _ _ own.0 more own.1.of rest.of);
          again = λ pending. own.1.pending_grows sheets here pending more ∙ rest.again (pending ++ text);
        },
      )

  -- another piece before them, which is one token
  behind_piece : (own : Piece) (t : Token) (front : List Symbol) (one : Symbol) (names : Bool) → front ≡ one ∷ []
      → IsLexeme t (printed_piece sheets own) → kind_of_token t ≡ operand names → kind_of_symbol one ≡ operand names
      → piece_of sheets here t ≡ Some (piece_as_printed own)
      → ((pending : List ℕ)
      → assembled pending (own ∷ later) ≡ text_piece pending ++ piece_as_printed own ∷ assembled [] later)
      → (items : List Item) × Prints sheets here (own ∷ later) (front ++ back) items
  behind_piece own t front one names front_is is kind one_kind piece_is parts = (
    lexeme (printed_piece sheets own) t ∷ more,
    record {
      of =
          rw (front_is, one_kind)
          (both_are _ _ _ _ _ more (operand_is (printed_piece sheets own) t names is kind) rest.of);
      again = λ pending. rw (piece_is, parts pending, rest.again []) refl;
    },
  )

-- a printed formula spells the lexemes of its pieces
module _ (a1 : A1Laws) (sheets : Sheets) (here : ℕ) where
  pub items_printed : (pieces : List Piece) (symbols : List Symbol) → AreOfPieces pieces symbols
      → ArePrintable sheets pieces
      → All IsWellFormed pieces → All (IsPresent sheets here) pieces
      → (items : List Item) × Prints sheets here pieces symbols items
  items_printed [] symbols are printable formed present = (
    [],
    record {
      of = record { spells = refl; are = tt; kinds_are = ap (map kind_of_symbol) (sym are) };
      again = λ pending. refl;
    },
  )
  items_printed (own ∷ later) symbols are printable formed present =
      let rest = items_printed later are.1 are.3 (All-tail (IsPrintable sheets) own later printable)
      (All-tail IsWellFormed own later formed) (All-tail (IsPresent sheets here) own later present) in
      subst (λ all. (items : List Item) × Prints sheets here (own ∷ later) all items) (sym are.4)
      (with_first own are.0 are.1 later rest.0 rest.1 are.2
      (All-head (IsPrintable sheets) own later printable) (All-head IsWellFormed own later formed)
      (All-head (IsPresent sheets here) own later present))
    where
      with_first : (own : Piece) (front back : List Symbol) (later : List Piece) (more : List Item)
          → Prints sheets here later back more → AreOfPiece own front → IsPrintable sheets own → IsWellFormed own
          → IsPresent sheets here own
          → (items : List Item) × Prints sheets here (own ∷ later) (front ++ back) items
      with_first (piece.Text text) front back later more rest is printable formed present =
          behind_text sheets here later back more rest text front is
      with_first (piece.Word word) front back later more rest is printable formed present =
          behind_piece sheets here later back more rest (piece.Word word) (token.Word word) front
          (symbol.Word word) true is
          (refl, formed) refl refl refl (λ pending. refl)
      with_first (piece.Ref reference) front back later more rest is printable formed present =
          let again = reference_again a1 sheets here reference printable present in
          behind_piece sheets here later back more rest (piece.Ref reference) again.0 front
          (symbol.Ref reference.area) true is
          again.1.lexeme_is again.1.kind_is refl again.1.piece_is (λ pending. refl)
      with_first piece.Lost front back later more rest is printable formed present =
          behind_piece sheets here later back more rest piece.Lost token.Lost front symbol.Lost false is
          refl refl refl refl (λ pending. refl)
