-- Reading and printing keep each byte outside references, and only a reference's text stands for one.
use Rattle.a1_notation.specs.Laws.{A1Laws}
use Rattle.std.proofs.Common.{◌≡◌, ℕ, Bool, true, false, List, [], ◌∷◌, ◌++◌, Option, Some, None, Result, Err, inl, inr, refl, ap, append_assoc, append-nil}
use Rattle.std.specs.Prelude.{◌⊎◌, IfSome, IfOk}
use Rattle.std.proofs.lemmas.Bool.{cases_Bool}
use Rattle.std.proofs.lemmas.List.Elements.{All-head, All-tail}
use Rattle.grid_range.specs.declared.area.Area.{Area}
use Rattle.ref_rewrite.specs.declared.pieces.Formula.{Formula}
use Rattle.ref_rewrite.specs.declared.pieces.Piece.{Piece}
use Rattle.ref_rewrite.specs.declared.pieces.Piece.TheVariants as piece
use Rattle.formula_reader.specs.declared.tokens.token.Placed.{Placed}
use Rattle.formula_reader.specs.declared.tokens.token.Token.{Token}
use Rattle.formula_reader.specs.declared.tokens.token.Token.TheVariants as token
use Rattle.formula_reader.specs.declared.tokens.token.MarkedArea.{MarkedArea}
use Rattle.formula_reader.specs.Tokens.{FitsFirst, forms, AreTokens}
use Rattle.formula_reader.proofs.Lexemes.{Item, gap, lexeme, spell, AreFit, IsLexeme}
use Rattle.formula_reader.proofs.LexemesAgain.{fits_again}
use Rattle.formula_reader.proofs.Spelling.{lexeme_of, word_is}
use Rattle.formula_reader.specs.declared.fault.FormulaFault.{FormulaFault}
use Rattle.formula_reader.specs.declared.fault.FormulaFault.TheVariants as fault
use Rattle.formula_reader.specs.Sheets.{Sheets, sheet_named}
use Rattle.formula_reader.specs.Pieces.{piece_of, area_on, titled_reference, reference_to, text_piece, with_piece, pieces_from, formula_of}
use Rattle.formula_reader.specs.Printed.{printed, printed_piece, IsPrintable, ArePrintable}
use Rattle.formula_reader.specs.Bytes.{IsReferenceText, IsLostText, Spells}
use Rattle.formula_reader.proofs.Gathering.{gathered, gathered_has}
use Rattle.formula_reader.proofs.Within.{read_has}
use Rattle.formula_reader.proofs.PrintedReferences.{written_again, own_printed, titled_printed}

-- the text may stand for the piece: a text and a word for themselves, and a reference's for a reference
abbrev IsTextOf : List ℕ → Piece → Type 0
IsTextOf own (piece.Text text) = own ≡ text
IsTextOf own (piece.Word word) = own ≡ word
IsTextOf own (piece.Ref reference) = IsReferenceText own
IsTextOf own piece.Lost = IsLostText own

-- a piece, and a text that may stand for it, before others
spells_piece : (own rest : List ℕ) (first : Piece) (behind : List Piece) → IsTextOf own first → Spells rest behind
    → Spells (own ++ rest) (first ∷ behind)
spells_piece own rest (piece.Text text) behind is spells = (rest, ap (λ t. t ++ rest) is, spells)
spells_piece own rest (piece.Word word) behind is spells = (rest, ap (λ t. t ++ rest) is, spells)
spells_piece own rest (piece.Ref reference) behind is spells = (own, rest, refl, is, spells)
spells_piece own rest piece.Lost behind is spells = (own, rest, refl, is, spells)

-- a text between two pieces, before others
spells_kept : (pending rest : List ℕ) (behind : List Piece) → Spells rest behind
    → Spells (pending ++ rest) (text_piece pending ++ behind)
spells_kept [] rest behind spells = spells
spells_kept (b ∷ pending) rest behind spells =
    spells_piece (b ∷ pending) rest (piece.Text (b ∷ pending)) behind refl spells

-- a lexeme and the text before it, which go to a piece or on to the next one
spells_with : (pending own rest : List ℕ) (found : Option Piece) (behind on : List Piece) → IfSome found (IsTextOf own)
    → Spells rest behind → Spells (pending ++ (own ++ rest)) on → Spells (pending ++ (own ++ rest))
    (with_piece found pending behind on)
spells_with pending own rest None behind on is spells spells_on = spells_on
spells_with pending own rest (Some first) behind on is spells spells_on =
    spells_kept pending (own ++ rest) (first ∷ behind) (spells_piece own rest first behind is spells)

-- the lexeme of a reference is its text
reference_alone : (own : List ℕ) (written : MarkedArea) → IsLexeme (token.Reference written) own → IsReferenceText own
reference_alone own written is = inl (written, fits_again (token.Reference written) own [] is refl)

titled_alone : (own title : List ℕ) (written : MarkedArea) → IsLexeme (token.TitledReference title written) own
    → IsReferenceText own
titled_alone own title written is =
    inr (title, written, fits_again (token.TitledReference title written) own [] is refl)

-- and stands for what is read of it, lost or not
area_text : (own : List ℕ) (named : Bool) (written : MarkedArea) (area : Option Area) → IsReferenceText own
    → IsTextOf own (reference_to named written area)
area_text own named written None is = inl is
area_text own named written (Some area) is = is

titled_reference_text : (own : List ℕ) (sheets : Sheets) (written : MarkedArea) (sheet : Option ℕ) → IsReferenceText own
    → IsTextOf own (titled_reference sheets written sheet)
titled_reference_text own sheets written None is = inl is
titled_reference_text own sheets written (Some sheet) is = area_text own true written (area_on sheets sheet written) is

-- a lexeme stands for its token's piece
token_text : (sheets : Sheets) (here : ℕ) (own : List ℕ) (token : Token) (rest : List ℕ)
    → FitsFirst forms own token rest
    → IfSome (piece_of sheets here token) (IsTextOf own)
token_text sheets here own (token.Reference written) rest fits =
    area_text own false written (area_on sheets here written)
    (reference_alone own written (lexeme_of own (token.Reference written) rest tt fits))
token_text sheets here own (token.TitledReference title written) rest fits =
    titled_reference_text own sheets written (sheet_named sheets title)
    (titled_alone own title written (lexeme_of own (token.TitledReference title written) rest tt fits))
token_text sheets here own (token.Word word) rest fits = word_is own word rest fits
token_text sheets here own token.Lost rest fits = inr (lexeme_of own token.Lost rest tt fits)
token_text sheets here own _ rest fits = tt

-- items spell the text of their pieces
pub gathered_spells : (sheets : Sheets) (here : ℕ) (pending : List ℕ) (items : List Item) → AreFit items
    → Spells (pending ++ spell items) (gathered sheets here pending items)
gathered_spells sheets here pending [] fit = rw (append-nil (text_piece pending)) at (spells_kept pending [] [] refl)
gathered_spells sheets here pending (gap blanks ∷ later) fit =
    rw (append_assoc pending blanks (spell later)) at (gathered_spells sheets here (pending ++ blanks) later fit.1)
gathered_spells sheets here pending (lexeme own token ∷ later) fit =
    spells_with pending own (spell later) (piece_of sheets here token) (gathered sheets here [] later)
    (gathered sheets here (pending ++ own) later)
    (token_text sheets here own token (spell later) fit.0)
    (gathered_spells sheets here [] later fit.1)
    (rw (append_assoc pending own (spell later)) at (gathered_spells sheets here (pending ++ own) later fit.1))

-- a text with tokens behind its = spells its pieces
pub pieces_spell : (sheets : Sheets) (here : ℕ) (behind : List ℕ) (tokens : List Placed) → AreTokens behind 0 tokens
    → Spells (61 ∷ behind) (pieces_from sheets here (61 ∷ behind) 0 tokens)
pieces_spell sheets here behind tokens are =
    gathered_has (λ text pieces. Spells (61 ∷ text) pieces) sheets here behind tokens
    (gathered_spells sheets here (61 ∷ [])) are

-- and so it does what is read of it
pub read_spells : (sheets : Sheets) (here : ℕ) (text behind : List ℕ) (tokens : List Placed)
    (result : Result Formula FormulaFault)
    → text ≡ 61 ∷ behind → AreTokens behind 0 tokens
    → (result ≡ formula_of sheets here text tokens) ⊎ (result ≡ Err fault.NoMemory)
    → IfOk result (λ formula. Spells text formula.pieces)
read_spells sheets here text behind tokens result begins are is =
    read_has (λ formula. Spells text formula.pieces) sheets here text tokens result
    (λ within. rw begins (pieces_spell sheets here behind tokens are)) is

-- what is printed for a piece may stand for it
printed_text : A1Laws → (sheets : Sheets) (first : Piece) → IsPrintable sheets first
    → IsTextOf (printed_piece sheets first) first
printed_text a1 sheets (piece.Text text) printable = refl
printed_text a1 sheets (piece.Word word) printable = refl
printed_text a1 sheets (piece.Ref reference) printable =
    elim (cases_Bool reference.named) [
      | inl named ↦
          titled_alone (printed_piece sheets (piece.Ref reference)) printable.titled.title (written_again reference)
          (titled_printed a1 sheets reference printable.titled.title named printable.titled.has printable.titled.some
          printable.form)
      | inr own ↦
          reference_alone (printed_piece sheets (piece.Ref reference)) (written_again reference)
          (own_printed a1 sheets reference own printable.form)
    ]
printed_text a1 sheets piece.Lost printable = inr refl

-- and so what is printed spells the pieces
pub printed_spells : A1Laws → (sheets : Sheets) (pieces : List Piece) → ArePrintable sheets pieces
    → Spells (printed sheets pieces) pieces
printed_spells a1 sheets [] printable = refl
printed_spells a1 sheets (first ∷ later) printable =
    spells_piece (printed_piece sheets first) (printed sheets later) first later
    (printed_text a1 sheets first (All-head (IsPrintable sheets) first later printable))
    (printed_spells a1 sheets later (All-tail (IsPrintable sheets) first later printable))
