-- Lexemes that spell a text, and what they are of: a piece that is a text, and pieces one behind another.
use Rattle.std.proofs.Common.{◌≡◌, ℕ, Bool, ◌+◌, List, [], ◌∷◌, ◌++◌, length, map, refl, sym, ap, ◌∙◌, subst, append_assoc, append-nil}
use Rattle.std.specs.Prelude.{Option, Some, None, ◌==◌, option_map, option_and_then}
use Rattle.std.proofs.lemmas.Grind.{flat_map-append}
use Rattle.std.proofs.lemmas.List.{map-append}
use Rattle.std.proofs.lemmas.Option.{none-some}
use Rattle.ref_rewrite.specs.declared.pieces.Piece.TheVariants as piece
use Rattle.formula_reader.specs.declared.tokens.token.Placed.{Placed}
use Rattle.formula_reader.specs.declared.tokens.token.Token.{Token}
use Rattle.formula_reader.specs.declared.tokens.token.Token.TheVariants as token
use Rattle.formula_reader.specs.Tokens.{FitsFirst, forms}
use Rattle.formula_reader.proofs.Starts.{begins-front}
use Rattle.formula_reader.proofs.Spelling.{IsNoWord, lexeme_of, bracket_behind}
use Rattle.formula_reader.proofs.Placing.{items_of}
use Rattle.formula_reader.proofs.Lexemes.{Item, gap, lexeme, spelled, spell, AreFit, placed, tokens_in, IsLexeme}
use Rattle.formula_reader.specs.declared.symbols.Symbol.{Symbol}
use Rattle.formula_reader.specs.Sheets.{Sheets}
use Rattle.formula_reader.specs.Pieces.{piece_of}
use Rattle.formula_reader.specs.Symbols.{symbol_of, symbols_of, AreOfPiece}
use Rattle.formula_reader.proofs.Neighbours.{Kind, operand, naming, kind_of_token, kind_of_symbol}
use Rattle.formula_reader.proofs.Apart.{OpensBehind, AreLexemes}
use Rattle.formula_reader.proofs.Gathering.{gathered}

-- the items are lexemes that spell the text, of tokens of these kinds
pub record AreOf (text : List ℕ) (kinds : List Kind) (items : List Item) : Type 0 where
  pub spells : spell items ≡ text
  pub are : AreLexemes items
  pub kinds_are : map kind_of_token (tokens_in items) ≡ kinds

-- items behind others
lexemes_both : (items more : List Item) → AreLexemes items → AreLexemes more → AreLexemes (items ++ more)
lexemes_both [] more one other = other
lexemes_both (gap blanks ∷ later) more one other = (one.0, lexemes_both later more one.1 other)
lexemes_both (lexeme own token ∷ later) more one other = (
  one.0,
  λ name is. rw (flat_map-append spelled later more) (begins-front (λ byte. byte == 40) (spell later) (spell more)
      (one.1 name is)),
  lexemes_both later more one.2 other,
)

pub tokens_both : (items more : List Item) → tokens_in (items ++ more) ≡ tokens_in items ++ tokens_in more
tokens_both [] more = refl
tokens_both (gap blanks ∷ later) more = tokens_both later more
tokens_both (lexeme own token ∷ later) more = ap (λ tokens. token ∷ tokens) (tokens_both later more)

pub both_are : (text rest : List ℕ) (kinds others : List Kind) (items more : List Item) → AreOf text kinds items
    → AreOf rest others more → AreOf (text ++ rest) (kinds ++ others) (items ++ more)
both_are text rest kinds others items more one other = record {
  spells = flat_map-append spelled items more ∙ rw (one.spells, other.spells) refl;
  are = lexemes_both items more one.are other.are;
  kinds_are = ap (map kind_of_token) (tokens_both items more)
      ∙ map-append kind_of_token (tokens_in items) (tokens_in more) ∙ rw (one.kinds_are, other.kinds_are) refl;
}

-- an operand, which needs no bracket behind it
no_bracket : (t : Token) (text : List ℕ) (names : Bool) → kind_of_token t ≡ operand names → OpensBehind t text
no_bracket t text names kind = λ name is. absurd (naming≢operand (sym (ap kind_of_token is) ∙ kind))
  where
    naming≢operand : naming ≡ operand names → ⊥
    naming≢operand same = cc

pub operand_is : (own : List ℕ) (t : Token) (names : Bool) → IsLexeme t own → kind_of_token t ≡ operand names
    → AreOf own (operand names ∷ []) (lexeme own t ∷ [])
operand_is own t names is kind =
    record { spells = append-nil own; are = (is, no_bracket t [] names kind, tt); kinds_are = rw kind refl }

-- the symbols of tokens, one by one
record AreFirst (token : Token) (later : List Placed) (symbols : List Symbol) : Type 0 where
  pub first : Symbol
  pub others : List Symbol
  pub first_is : symbol_of token ≡ Some first
  pub others_are : symbols_of later ≡ Some others
  pub whole : symbols ≡ first ∷ others

first_symbol : (token : Token) (later : List Placed) (symbols : List Symbol)
    → option_and_then (λ first. option_map (λ others. first ∷ others) (symbols_of later))
    (symbol_of token) ≡ Some symbols
    → AreFirst token later symbols
first_symbol token later symbols is = go (symbol_of token) (symbols_of later) refl refl is
  where
    go : (a : Option Symbol) (b : Option (List Symbol)) → symbol_of token ≡ a → symbols_of later ≡ b
        → option_and_then
        (λ first. option_map (λ others. first ∷ others) b) a ≡ Some symbols → AreFirst token later symbols
    go None b first later is = absurd (none-some symbols is)
    go (Some s) None first later is = absurd (none-some symbols is)
    go (Some s) (Some z) first later is =
        record { first = s; others = z; first_is = first; others_are = later; whole = cc }

-- a token with a symbol is part of a text
record IsInText (token : Token) (symbol : Symbol) : Type 0 where
  pub no_word : IsNoWord token
  pub kind : kind_of_token token ≡ kind_of_symbol symbol
  pub no_piece : (sheets : Sheets) (here : ℕ) → piece_of sheets here token ≡ None

in_text_as : (token : Token) (one own : Symbol) → Some one ≡ Some own → IsNoWord token
    → kind_of_token token ≡ kind_of_symbol one → ((sheets : Sheets) (here : ℕ) → piece_of sheets here token ≡ None)
    → IsInText token own
in_text_as token one own is no_word kind no_piece =
    let same : one ≡ own = cc in
    record { no_word = no_word; kind = kind ∙ ap kind_of_symbol same; no_piece = no_piece }

in_text : (token : Token) (own : Symbol) → symbol_of token ≡ Some own → IsInText token own
in_text (token.Reference written) own is = absurd (none-some own is)
in_text (token.TitledReference title written) own is = absurd (none-some own is)
in_text (token.Function name) own is = in_text_as _ _ own is tt refl (λ sheets here. refl)
in_text (token.Word word) own is = absurd (none-some own is)
in_text (token.Truth truth) own is = in_text_as _ _ own is tt refl (λ sheets here. refl)
in_text (token.Number number) own is = in_text_as _ _ own is tt refl (λ sheets here. refl)
in_text (token.Text text) own is = in_text_as _ _ own is tt refl (λ sheets here. refl)
in_text token.Lost own is = absurd (none-some own is)
in_text (token.Operator operator) own is = in_text_as _ _ own is tt refl (λ sheets here. refl)
in_text token.Open own is = in_text_as _ _ own is tt refl (λ sheets here. refl)
in_text token.Close own is = in_text_as _ _ own is tt refl (λ sheets here. refl)
in_text token.Comma own is = in_text_as _ _ own is tt refl (λ sheets here. refl)

opens_behind : (own : List ℕ) (token : Token) (rest : List ℕ) → FitsFirst forms own token rest → OpensBehind token rest
opens_behind own token rest fits = λ name is.
    bracket_behind own name rest (subst (λ t. FitsFirst forms own t rest) is fits)

-- the items of a text without references, words and #REF!
pub record AreOfText (text : List ℕ) (symbols : List Symbol) (items : List Item) : Type 0 where
  pub of : AreOf text (map kind_of_symbol symbols) items
  pub pending_grows : (sheets : Sheets) (here : ℕ) (pending : List ℕ) (more : List Item)
      → gathered sheets here pending (items ++ more) ≡ gathered sheets here (pending ++ text) more

items_of_text : (at : ℕ) (items : List Item) (symbols : List Symbol) → AreFit items
    → symbols_of (placed at items) ≡ Some symbols
    → AreOfText (spell items) symbols items
items_of_text at [] symbols fit is = record {
  of = record { spells = refl; are = tt; kinds_are = let same : [] ≡ symbols = cc in ap (map kind_of_symbol) same };
  pending_grows = λ sheets here pending more. ap (λ text. gathered sheets here text more) (sym (append-nil pending));
}
items_of_text at (gap blanks ∷ later) symbols fit is =
    let rest = items_of_text (at + length blanks) later symbols fit.1 is in
    record {
      of = record { spells = refl; are = (fit.0, rest.of.are); kinds_are = rest.of.kinds_are };
      pending_grows = λ sheets here pending more.
          rest.pending_grows sheets here (pending ++ blanks) more
          ∙ ap (λ text. gathered sheets here text more) (append_assoc pending blanks (spell later));
    }
items_of_text at (lexeme own token ∷ later) symbols fit is =
    let parts = first_symbol token (placed (at + length own) later) symbols is in
    let it = in_text token parts.first parts.first_is in
    let rest = items_of_text (at + length own) later parts.others fit.1 parts.others_are in
    record {
      of = record {
        spells = refl;
        are = (
          lexeme_of own token (spell later) it.no_word fit.0,
          opens_behind own token (spell later) fit.0,
          rest.of.are,
        );
        kinds_are = rw (parts.whole, it.kind, rest.of.kinds_are) refl;
      };
      pending_grows = λ sheets here pending more.
          rw (it.no_piece sheets here)
          (rest.pending_grows sheets here (pending ++ own) more
          ∙ ap (λ text. gathered sheets here text more) (append_assoc pending own (spell later)));
    }

pub text_items : (text : List ℕ) (symbols : List Symbol) → AreOfPiece (piece.Text text) symbols
    → (items : List Item) × AreOfText text symbols items
text_items text symbols is =
    let found = items_of text is.0 is.1 in
    (found.0, rw found.1 at (items_of_text 0 found.0 symbols found.2 (ap symbols_of found.3 ∙ is.2)))
