-- The symbols of a formula that is read are those of its tokens.
use Rattle.std.proofs.Common.{◌≡◌, ℕ, ◌+◌, Bool, true, false, List, [], ◌∷◌, ◌++◌, length, map, refl, sym, ap, ◌∙◌, subst, inl, inr, append_assoc, append-nil}
use Rattle.std.specs.Prelude.{◌==◌, Option, Some, None, option_and_then}
use Rattle.std.proofs.lemmas.Bool.{eqb-true}
use Rattle.std.proofs.lemmas.Grind.{flat_map-append}
use Rattle.std.proofs.lemmas.List.{map-append}
use Rattle.std.proofs.lemmas.Option.{none-some}
use Rattle.a1_notation.specs.Laws.{QuotesEndOnce}
use Rattle.a1_notation.specs.Run.{begins}
use Rattle.grid_range.specs.declared.area.Area.{Area}
use Rattle.ref_rewrite.specs.declared.pieces.Piece.{Piece}
use Rattle.ref_rewrite.specs.declared.pieces.Piece.TheVariants as piece
use Rattle.formula_reader.specs.declared.symbols.Symbol.{Symbol}
use Rattle.formula_reader.specs.declared.tokens.token.MarkedArea.{MarkedArea}
use Rattle.formula_reader.specs.declared.tokens.token.Placed.{Placed}
use Rattle.formula_reader.specs.declared.tokens.token.Token.{Token}
use Rattle.formula_reader.specs.declared.tokens.token.Token.TheVariants as token
use Rattle.formula_reader.specs.Limits.{passed, passed_by_symbols}
use Rattle.formula_reader.specs.Pieces.{area_on, reference_to, titled_reference, piece_of, text_piece, with_piece, pieces_from}
use Rattle.formula_reader.specs.Sheets.{Sheets, sheet_named}
use Rattle.formula_reader.specs.Symbols.{symbol_of, symbols_of, cells_or_lost, symbol_read, symbols_read, AreOfPiece, AreOfPieces, AreSymbolsOf}
use Rattle.formula_reader.specs.Tokens.{FitsFirst, forms, AreTokens}
use Rattle.formula_reader.proofs.Fewer.{StandsFor, StandFor, symbols_passed}
use Rattle.formula_reader.proofs.FitsAgain.{open_fits}
use Rattle.formula_reader.proofs.Gathering.{gathered, read_gathered}
use Rattle.formula_reader.proofs.Lexemes.{Item, gap, lexeme, spelled, spell, AreFit, placed, tokens_in}
use Rattle.formula_reader.proofs.Neighbours.{operand, kind_of_token, kind_of_symbol}
use Rattle.formula_reader.proofs.OneToken.{first_once, tokens_once}
use Rattle.formula_reader.proofs.Placing.{are_placed, items_of, tokens_placed}
use Rattle.formula_reader.proofs.TextAlone.{AreInText, items_alone}
use Rattle.formula_reader.proofs.TextItems.{tokens_both}

-- items behind one more
in_text_both : (items more : List Item) → AreInText items → AreInText more → AreInText (items ++ more)
in_text_both [] more one other = other
in_text_both (gap blanks ∷ later) more one other = in_text_both later more one other
in_text_both (lexeme own t ∷ later) more one other = (one.0, in_text_both later more one.1 other)

fit_behind : (items more : List Item) → AreFit (items ++ more) → AreFit more
fit_behind [] more fit = fit
fit_behind (gap blanks ∷ later) more fit = fit_behind later more fit.1
fit_behind (lexeme own t ∷ later) more fit = fit_behind later more fit.1

module _ (sheets : Sheets) (here : ℕ) where
  -- the symbols of tokens as they are read
  abbrev read : List Token → List Symbol
  read tokens = map (symbol_read sheets here) tokens

  same_symbol : (t : Token) (own : Symbol) → symbol_of t ≡ Some own → symbol_read sheets here t ≡ own
  same_symbol (token.Reference written) own is = absurd (none-some own is)
  same_symbol (token.TitledReference title written) own is = absurd (none-some own is)
  same_symbol (token.Word word) own is = absurd (none-some own is)
  same_symbol token.Lost own is = absurd (none-some own is)
  same_symbol (token.Function name) own is = cc
  same_symbol (token.Truth truth) own is = cc
  same_symbol (token.Number number) own is = cc
  same_symbol (token.Text text) own is = cc
  same_symbol (token.Operator operator) own is = cc
  same_symbol token.Open own is = cc
  same_symbol token.Close own is = cc
  same_symbol token.Comma own is = cc

  text_symbols : (at : ℕ) (items : List Item) → AreInText items
      → symbols_of (placed at items) ≡ Some (read (tokens_in items))
  text_symbols at [] inside = refl
  text_symbols at (gap blanks ∷ later) inside = text_symbols (at + length blanks) later inside
  text_symbols at (lexeme own t ∷ later) inside =
      rw (inside.0.1, same_symbol t inside.0.0 inside.0.1, text_symbols (at + length own) later inside.1) refl

  -- a token that is a piece of its own has that piece's symbol
  area_symbol : (named : Bool) (written : MarkedArea) (area : Option Area)
      → AreOfPiece (reference_to named written area) (cells_or_lost area ∷ [])
  area_symbol named written None = refl
  area_symbol named written (Some area) = refl

  titled_reference_symbol : (written : MarkedArea) (sheet : Option ℕ)
      → AreOfPiece (titled_reference sheets written sheet)
      (cells_or_lost (option_and_then (λ sheet. area_on sheets sheet written) sheet) ∷ [])
  titled_reference_symbol written None = refl
  titled_reference_symbol written (Some sheet) = area_symbol true written (area_on sheets sheet written)

  -- a token is a piece, or part of a text
  abbrev IsOwnOrInText : Token → Option Piece → Type 0
  IsOwnOrInText t None = (own : Symbol) × (symbol_of t ≡ Some own)
  IsOwnOrInText t (Some own) = AreOfPiece own (symbol_read sheets here t ∷ []) × (t ≡ token.Open → ⊥)

  own_or_in_text : (t : Token) → IsOwnOrInText t (piece_of sheets here t)
  own_or_in_text (token.Reference written) = (area_symbol false written (area_on sheets here written), λ e. cc)
  own_or_in_text (token.TitledReference title written) =
      (titled_reference_symbol written (sheet_named sheets title), λ e. cc)
  own_or_in_text (token.Word word) = (refl, λ e. cc)
  own_or_in_text token.Lost = (refl, λ e. cc)
  own_or_in_text (token.Function name) = (_, refl)
  own_or_in_text (token.Truth truth) = (_, refl)
  own_or_in_text (token.Number number) = (_, refl)
  own_or_in_text (token.Text text) = (_, refl)
  own_or_in_text (token.Operator operator) = (_, refl)
  own_or_in_text token.Open = (_, refl)
  own_or_in_text token.Close = (_, refl)
  own_or_in_text token.Comma = (_, refl)

  -- it is of the symbol's kind, or the symbol is lost
  area_stands : (area : Option Area) → StandsFor (operand true) (kind_of_symbol (cells_or_lost area))
  area_stands None = inr (refl, refl)
  area_stands (Some area) = inl refl

  token_stands : (t : Token) → StandsFor (kind_of_token t) (kind_of_symbol (symbol_read sheets here t))
  token_stands (token.Reference written) = area_stands (area_on sheets here written)
  token_stands (token.TitledReference title written) =
      area_stands (option_and_then (λ sheet. area_on sheets sheet written) (sheet_named sheets title))
  token_stands (token.Word word) = inl refl
  token_stands token.Lost = inl refl
  token_stands (token.Function name) = inl refl
  token_stands (token.Truth truth) = inl refl
  token_stands (token.Number number) = inl refl
  token_stands (token.Text text) = inl refl
  token_stands (token.Operator operator) = inl refl
  token_stands token.Open = inl refl
  token_stands token.Close = inl refl
  token_stands token.Comma = inl refl

  tokens_stand : (tokens : List Token) → StandFor (map kind_of_token tokens) (map kind_of_symbol (read tokens))
  tokens_stand [] = tt
  tokens_stand (first ∷ later) = (token_stands first, tokens_stand later)

  module _ (quotes : QuotesEndOnce) where
    no_open : (t : Token) (own rest : List ℕ) → (t ≡ token.Open → ⊥) → FitsFirst forms own t rest
        → begins (λ byte. byte == 40) (own ++ rest) ≡ false
    no_open t own rest other fits = go (own ++ rest) refl
      where
        bracket : (b : ℕ) (text : List ℕ) → own ++ rest ≡ b ∷ text → (v : Bool) → (b == 40) ≡ v → v ≡ false
        bracket b text e false is = refl
        bracket b text e true is =
            absurd
            (other
            (first_once quotes forms own (40 ∷ []) t token.Open rest text fits (open_fits text)
            (e ∙ ap (λ byte. byte ∷ text) (eqb-true b 40 is))).1)

        go : (text : List ℕ) → own ++ rest ≡ text → begins (λ byte. byte == 40) text ≡ false
        go [] e = refl
        go (b ∷ text) e = bracket b text e (b == 40) refl

    -- a text of such tokens before other pieces, behind the = of a formula or behind another piece
    abbrev AreBehind : Bool → List Piece → List Symbol → Type 0
    AreBehind true pieces symbols = AreSymbolsOf pieces symbols
    AreBehind false pieces symbols = AreOfPieces pieces symbols

    abbrev front : Bool → List ℕ
    front true = 61 ∷ []
    front false = []

    text_are : (items : List Item) → AreFit items → AreInText items
        → AreOfPiece (piece.Text (spell items)) (read (tokens_in items))
    text_are items fit inside = (placed 0 items, are_placed [] items fit, text_symbols 0 items inside)

    no_tokens : (items : List Item) → AreFit items → spell items ≡ [] → tokens_in items ≡ []
    no_tokens items fit none =
        sym (tokens_placed 0 items)
        ∙ ap (map (λ (p : Placed). p.token))
        (tokens_once quotes [] 0 (placed 0 items) [] (rw none at (are_placed [] items fit)) refl)

    stretch_are : (first : Bool) (items : List Item) (pieces : List Piece) (symbols : List Symbol) → AreFit items
        → AreInText items → AreOfPieces pieces symbols
        → AreBehind first (text_piece (front first ++ spell items) ++ pieces) (read (tokens_in items) ++ symbols)
    stretch_are true items pieces symbols fit inside are =
        (spell items, refl, (read (tokens_in items), symbols, text_are items fit inside, are, refl))
    stretch_are false items pieces symbols fit inside are =
        go (spell items) refl
      where
        go : (text : List ℕ) → spell items ≡ text
            → AreOfPieces (text_piece text ++ pieces) (read (tokens_in items) ++ symbols)
        go [] e = rw (no_tokens items fit e) are
        go (b ∷ text) e =
            (read (tokens_in items), symbols, rw e at (text_are items fit inside), are, refl)

    lexeme_are : (first : Bool) (done : List Item) (own : List ℕ) (t : Token) (later : List Item)
        → AreFit (done ++ lexeme own t ∷ later) → AreInText done → (found : Option Piece) → IsOwnOrInText t found
        → (AreInText (done ++ lexeme own t ∷ [])
        → AreBehind first (gathered sheets here (front first ++ spell (done ++ lexeme own t ∷ [])) later)
        (read (tokens_in (done ++ lexeme own t ∷ later))))
        → AreOfPieces (gathered sheets here [] later) (read (tokens_in later))
        → AreBehind first
        (with_piece found (front first ++ spell done) (gathered sheets here [] later)
        (gathered sheets here ((front first ++ spell done) ++ own) later))
        (read (tokens_in (done ++ lexeme own t ∷ later)))
    lexeme_are first done own t later fit inside None is on behind =
        rw (
          flat_map-append spelled done (lexeme own t ∷ []),
          append-nil own,
          ← append_assoc (front first) (spell done) own,
        )
        at (on (in_text_both done (lexeme own t ∷ []) inside (is, tt)))
    lexeme_are first done own t later fit inside (Some piece) is on behind =
        let rest = fit_behind done (lexeme own t ∷ later) fit in
        rw (
          tokens_both done (lexeme own t ∷ later),
          map-append (symbol_read sheets here) (tokens_in done) (t ∷ tokens_in later),
        )
        (stretch_are first done (piece ∷ gathered sheets here [] later)
        (symbol_read sheets here t ∷ read (tokens_in later))
        (items_alone quotes done (lexeme own t ∷ later) fit inside (no_open t own (spell later) is.1 rest.0)) inside
        (symbol_read sheets here t ∷ [], read (tokens_in later), is.0, behind, refl))

    gathered_are : (first : Bool) (done items : List Item) → AreFit (done ++ items) → AreInText done
        → AreBehind first (gathered sheets here (front first ++ spell done) items) (read (tokens_in (done ++ items)))
    gathered_are first done [] fit inside =
        rw (append-nil done)
        (rw (append-nil (text_piece (front first ++ spell done)), append-nil (read (tokens_in done)))
        at (stretch_are first done [] [] (rw (append-nil done) at fit) inside refl))
    gathered_are first done (gap blanks ∷ later) fit inside =
        rw (
          flat_map-append spelled done (gap blanks ∷ []),
          append-nil blanks,
          ← append_assoc (front first) (spell done) blanks,
          append_assoc done (gap blanks ∷ []) later,
        ) at
        (gathered_are first (done ++ gap blanks ∷ []) later (rw (append_assoc done (gap blanks ∷ []) later) fit)
        (in_text_both done (gap blanks ∷ []) inside tt))
    gathered_are first done (lexeme own t ∷ later) fit inside =
        lexeme_are first done own t later fit inside (piece_of sheets here t) (own_or_in_text t)
        (λ inside. rw (append_assoc done (lexeme own t ∷ []) later) at
        (gathered_are first (done ++ lexeme own t ∷ []) later (rw (append_assoc done (lexeme own t ∷ []) later) fit)
        inside))
        (gathered_are false [] later (fit_behind done (lexeme own t ∷ later) fit).1 tt)

    -- so they are the symbols of the formula
    pub read_symbols : (behind : List ℕ) (tokens : List Placed) → AreTokens behind 0 tokens
        → AreSymbolsOf (pieces_from sheets here (61 ∷ behind) 0 tokens) (symbols_read sheets here tokens)
    read_symbols behind tokens are =
        let found = items_of behind tokens are in
        let items = found.0 in
        subst (λ ts. AreSymbolsOf (pieces_from sheets here (61 ∷ behind) 0 ts) (symbols_read sheets here ts)) found.3
        (subst
        (λ text. AreSymbolsOf (pieces_from sheets here (61 ∷ text) 0 (placed 0 items))
        (symbols_read sheets here (placed 0 items)))
        found.1
        (rw (read_gathered sheets here items, tokens_placed 0 items) (gathered_are true [] items found.2 tt)))

    -- and pass no limit that the tokens don't pass
    pub symbols_within : (behind : List ℕ) (tokens : List Placed) → AreTokens behind 0 tokens → passed tokens ≡ None
        → passed_by_symbols (symbols_read sheets here tokens) ≡ None
    symbols_within behind tokens are none =
        let found = items_of behind tokens are in
        let items = found.0 in
        subst (λ ts. passed ts ≡ None → passed_by_symbols (symbols_read sheets here ts) ≡ None) found.3
        (λ none. rw (tokens_placed 0 items)
        (symbols_passed items (read (tokens_in items)) (tokens_stand (tokens_in items)) none)) none
