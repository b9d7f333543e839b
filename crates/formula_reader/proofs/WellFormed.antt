-- What is read is well formed if it has a tree.
use Rattle.std.proofs.Common.{◌≡◌, ℕ, false, List, [], ◌∷◌, ◌++◌, Option, Some, None, refl, arith, subst, append_assoc, append-nil}
use Rattle.std.specs.Prelude.{⊤, IfSome}
use Rattle.std.specs.List.{All}
use Rattle.std.proofs.lemmas.List.Elements.{All-nil, All-cons}
use Rattle.ref_rewrite.specs.declared.pieces.Formula.{Formula}
use Rattle.ref_rewrite.specs.declared.pieces.Piece.{Piece}
use Rattle.ref_rewrite.specs.declared.pieces.Piece.TheVariants as piece
use Rattle.formula_reader.specs.declared.tokens.token.Placed.{Placed}
use Rattle.formula_reader.specs.declared.tokens.token.Token.{Token}
use Rattle.formula_reader.specs.declared.tokens.token.Token.TheVariants as token
use Rattle.a1_notation.specs.Run.{begins}
use Rattle.formula_reader.specs.Tokens.{FitsFirst, forms, AreTokens}
use Rattle.formula_reader.proofs.Lexemes.{Item, gap, lexeme, spell, AreFit, goes_on}
use Rattle.formula_reader.proofs.Spelling.{word_is}
use Rattle.formula_reader.proofs.WordsAgain.{word_alone}
use Rattle.formula_reader.specs.Sheets.{Sheets}
use Rattle.formula_reader.specs.Pieces.{piece_of, text_piece, with_piece, pieces_from}
use Rattle.formula_reader.specs.Symbols.{IsTreeOf}
use Rattle.formula_reader.specs.Tree.{Expression}
use Rattle.formula_reader.specs.ReadBack.{IsWellFormed, NoTextFirst, AreApart, AreWellFormed}
use Rattle.formula_reader.proofs.Gathering.{gathered, gathered_has}
use Rattle.formula_reader.proofs.TokenPieces.{token_has}
use Rattle.formula_reader.proofs.WordsEnd.{EndsOperand, WordsEnd, tree_words_end}

-- a formula is well formed if it has a tree
abbrev pub IsFormed : Formula → Type 0
IsFormed formula = (tree : Expression) → IsTreeOf formula tree → AreWellFormed formula.pieces

-- the pieces of a text: they are well formed, and the text ends an operand where they do
record AreFormed (text : List ℕ) (pieces : List Piece) : Type 0 where
  pub formed : AreWellFormed pieces
  pub ends : EndsOperand pieces → begins goes_on text ≡ false

-- a token's piece before the rest of the text: no text, and a word is one there
abbrev IsRead : List ℕ → Piece → Type 0
IsRead rest (piece.Text text) = ⊥
IsRead rest (piece.Word word) = FitsFirst forms word (token.Word word) rest
IsRead rest (piece.Ref reference) = ⊤
IsRead rest piece.Lost = ⊤

token_read : (sheets : Sheets) (here : ℕ) (own : List ℕ) (t : Token) (rest : List ℕ) → FitsFirst forms own t rest
    → IfSome (piece_of sheets here t) (IsRead rest)
token_read sheets here own t rest fits =
    token_has (IsRead rest) (λ reference. tt) tt sheets here own t rest word_read fits
  where
    word_read : (word : List ℕ) → FitsFirst forms own (token.Word word) rest → IsRead rest (piece.Word word)
    word_read word fits = subst (λ text. FitsFirst forms text (token.Word word) rest) (word_is own word rest fits) fits

no_text_first : (rest : List ℕ) (first : Piece) (later : List Piece) → IsRead rest first → NoTextFirst (first ∷ later)
no_text_first rest (piece.Text text) later is = absurd is
no_text_first rest _ later is = tt

-- a piece before others
before_others : (text : List ℕ) (first : Piece) (later : List Piece) → AreApart (first ∷ later) → IsWellFormed first
    → All IsWellFormed later → (EndsOperand (first ∷ later) → begins goes_on text ≡ false) → AreFormed text
    (first ∷ later)
before_others text first later apart is each ends =
    record { formed = record { apart = apart; each = All-cons IsWellFormed first later is each }; ends = ends }

-- a token's piece
formed_piece : (own rest : List ℕ) (first : Piece) (later : List Piece) → IsRead rest first → WordsEnd (first ∷ later)
    → AreFormed rest later → AreFormed (own ++ rest) (first ∷ later)
formed_piece own rest (piece.Text text) later is words are = absurd is
formed_piece own rest (piece.Word word) later is words are =
    before_others (own ++ rest) (piece.Word word) later are.formed.apart (word_alone word rest is (are.ends words.0))
    are.formed.each (λ none. absurd none)
formed_piece own rest (piece.Ref reference) later is words are =
    before_others (own ++ rest) (piece.Ref reference) later are.formed.apart tt are.formed.each (λ none. absurd none)
formed_piece own rest piece.Lost later is words are =
    before_others (own ++ rest) piece.Lost later are.formed.apart tt are.formed.each (λ none. absurd none)

-- the text before it
formed_kept : (pending rest : List ℕ) (later : List Piece) → NoTextFirst later → AreFormed rest later
    → AreFormed (pending ++ rest) (text_piece pending ++ later)
formed_kept [] rest later none are = are
formed_kept (b ∷ pending) rest later none are =
    before_others (b ∷ pending ++ rest) (piece.Text (b ∷ pending)) later (none, are.formed.apart) (omega arith)
    are.formed.each (λ is. is)

words_behind : (pending : List ℕ) (later : List Piece) → WordsEnd (text_piece pending ++ later) → WordsEnd later
words_behind [] later words = words
words_behind (b ∷ pending) later words = words.1

-- a lexeme and the text before it, which go to a piece or on to the next one
formed_with : (pending own rest : List ℕ) (found : Option Piece) (later on : List Piece) → IfSome found (IsRead rest)
    → (WordsEnd later → AreFormed rest later) → (WordsEnd on → AreFormed (pending ++ (own ++ rest)) on)
    → WordsEnd (with_piece found pending later on) → AreFormed (pending ++ (own ++ rest))
    (with_piece found pending later on)
formed_with pending own rest None later on is formed formed_on words = formed_on words
formed_with pending own rest (Some first) later on is formed formed_on words =
    let end = words_behind pending (first ∷ later) words in
    formed_kept pending (own ++ rest) (first ∷ later) (no_text_first rest first later is)
    (formed_piece own rest first later is end (formed end.1))

-- no pieces
none_formed : AreFormed [] []
none_formed = record { formed = record { apart = tt; each = All-nil IsWellFormed }; ends = λ none. refl }

module _ (sheets : Sheets) (here : ℕ) where
  -- the pieces of items are well formed where each word ends
  gathered_formed : (pending : List ℕ) (items : List Item) → AreFit items
      → WordsEnd (gathered sheets here pending items)
      → AreFormed (pending ++ spell items) (gathered sheets here pending items)
  gathered_formed pending [] fit words =
      rw (append-nil (text_piece pending)) at (formed_kept pending [] [] tt none_formed)
  gathered_formed pending (gap blanks ∷ later) fit words =
      rw (append_assoc pending blanks (spell later)) at (gathered_formed (pending ++ blanks) later fit.1 words)
  gathered_formed pending (lexeme own token ∷ later) fit words =
      formed_with pending own (spell later) (piece_of sheets here token) (gathered sheets here [] later)
      (gathered sheets here (pending ++ own) later) (token_read sheets here own token (spell later) fit.0)
      (gathered_formed [] later fit.1)
      (λ end. rw (append_assoc pending own (spell later)) at (gathered_formed (pending ++ own) later fit.1 end))
      words

  -- so they are where the formula has a tree
  items_formed : (items : List Item) → AreFit items → IsFormed
      (record { pieces = gathered sheets here (61 ∷ []) items })
  items_formed items fit tree is =
      let pieces = gathered sheets here (61 ∷ []) items in
      (gathered_formed (61 ∷ []) items fit (tree_words_end pieces is.0 tree is.1 is.2)).formed

  -- and those of a text with tokens behind its =
  pub pieces_formed : (behind : List ℕ) (tokens : List Placed) → AreTokens behind 0 tokens
      → IsFormed (record { pieces = pieces_from sheets here (61 ∷ behind) 0 tokens })
  pieces_formed behind tokens are =
      gathered_has (λ text pieces. IsFormed (record { pieces = pieces })) sheets here behind tokens items_formed are
