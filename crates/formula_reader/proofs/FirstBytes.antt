-- Tokens that begin with a quote, and those that begin with no word and no quote.
use Rattle.std.proofs.Common.{◌≡◌, ℕ, ◌<◌, true, false, List, [], ◌∷◌, ◌++◌, length, refl, sym, ap, ◌∙◌, arith, inl, inr, subst, append_assoc}
use Rattle.std.specs.Prelude.{Option, Some, None}
use Rattle.std.proofs.lemmas.Bool.{false≢true}
use Rattle.a1_notation.specs.Quoted.{quoted, IsUpToQuote}
use Rattle.formula_reader.specs.declared.tokens.token.Token.{Token}
use Rattle.formula_reader.specs.declared.tokens.token.Token.TheVariants.{TitledReference, Reference, Text}
use Rattle.formula_reader.specs.declared.tokens.token.MarkedArea.{MarkedArea}
use Rattle.a1_notation.specs.Run.{begins}
use Rattle.a1_notation.specs.Word.{begins_word}
use Rattle.formula_reader.specs.Parts.{is_quote, is_double_quote}
use Rattle.formula_reader.specs.Reference.{IsReference}
use Rattle.formula_reader.specs.Form.{IsBehindTitle, IsTitleBefore, Fits, Titled, FunctionName, OwnReference, AnyWord, Digits, Quoted}
use Rattle.formula_reader.specs.Tokens.{FitsNowhere, FitsFirst, signs, forms}
use Rattle.formula_reader.specs.Reading.{Stands, Reads}
use Rattle.formula_reader.proofs.Read.{one_read, none_read}
use Rattle.formula_reader.proofs.Firsts.{pass_over, fits_here, nothing_fits, behind_titled, behind_function, behind_reference, behind_word, behind_digits}
use Rattle.formula_reader.proofs.Starts.{starts_titled, cannot_start, none_starts}
use Rattle.formula_reader.proofs.Titles.{own_reference, no_own_reference}

-- a title in quotes, from behind the first quote
module _ (inside : List ℕ) where
  abbrev pub QuotedParts : Token → List ℕ → Type 0
  QuotedParts token rest = (title : List ℕ) × (behind : List ℕ) × (w : MarkedArea)
      × IsUpToQuote 39 inside title behind × (0 < length title)
      × Stands IsBehindTitle behind w rest × (token ≡ TitledReference title w)

  quoted_title : (sheet title behind rest : List ℕ) (w : MarkedArea) (token : Token)
      → IsTitleBefore sheet title (behind ++ rest) → 39 ∷ inside ≡ sheet ++ behind ++ rest
      → IsBehindTitle behind w rest → token ≡ TitledReference title w → QuotedParts token rest
  quoted_title sheet title behind rest w token (inl in_quotes) e is token_is = (
    title,
    behind ++ rest,
    w,
    record {
      parts = e ∙ ap (λ t. t ++ behind ++ rest) in_quotes.spelled ∙ append_assoc (quoted 39 title) behind rest;
      closed = rw is.spelled (λ e. absurd (omega arith));
    },
    in_quotes.some,
    record { lexeme = behind; spelled = refl; is = is },
    token_is,
  )
  quoted_title sheet title behind rest w token (inr named) e is token_is = absurd (no_word sheet named.0.first e)
    where
      no_word : (sheet : List ℕ) → begins begins_word sheet ≡ true → 39 ∷ inside ≡ sheet ++ behind ++ rest → ⊥
      no_word [] first e = false≢true first
      no_word (x ∷ xs) first e =
          let same : 39 ≡ x = cc in
          false≢true (ap begins_word same ∙ first)

  quoted_parts : (token : Token) (rest : List ℕ) → Stands (Fits Titled) (39 ∷ inside) token rest
      → QuotedParts token rest
  quoted_parts token rest stands =
      let is = stands.is in
      quoted_title is.sheet is.title is.behind rest is.written token is.title_is
      (stands.spelled ∙ ap (λ t. t ++ rest) is.spelled) is.reference is.token_is

  -- behind a quote nothing else stands
  no_other : FitsNowhere Titled (39 ∷ inside) → Reads (FitsFirst forms) (39 ∷ inside) None
  no_other none =
      pass_over Titled behind_titled (39 ∷ inside) None none
      (none_starts behind_titled (39 ∷ inside) refl)

  -- where no title is closed, no reference to another sheet stands there
  pub untitled_unclosed : ((title behind : List ℕ) → ¬ (IsUpToQuote 39 inside title behind))
      → FitsNowhere Titled (39 ∷ inside)
  untitled_unclosed none lexeme token rest e is =
      let parts = quoted_parts token rest (record { lexeme = lexeme; spelled = e; is = is }) in
      none parts.0 parts.1 parts.3

  pub unclosed_title : ((title behind : List ℕ) → ¬ (IsUpToQuote 39 inside title behind))
      → Reads (FitsFirst forms) (39 ∷ inside) None
  unclosed_title none = no_other (untitled_unclosed none)

  module _ (title behind : List ℕ) (title_is : IsUpToQuote 39 inside title behind)
      (only : (other rest : List ℕ) → IsUpToQuote 39 inside other rest → (other ≡ title) × (rest ≡ behind)) where
    -- the title and what stands behind it are the ones that were read
    same_title : (token : Token) (rest : List ℕ) (parts : QuotedParts token rest)
        → (title ≡ parts.0) × (behind ≡ parts.1)
    same_title token rest parts = let same = only parts.0 parts.1 parts.3 in (sym same.0, sym same.1)

    -- nor where it is empty, and where no reference stands behind it
    pub untitled_empty : length title ≡ 0 → FitsNowhere Titled (39 ∷ inside)
    untitled_empty empty lexeme token rest e is =
        let parts = quoted_parts token rest (record { lexeme = lexeme; spelled = e; is = is }) in
        absurd (omega (arith, ap length (same_title token rest parts).0, parts.4))

    pub untitled_behind : Reads IsBehindTitle behind None → FitsNowhere Titled (39 ∷ inside)
    untitled_behind none lexeme token rest e is =
        let parts = quoted_parts token rest (record { lexeme = lexeme; spelled = e; is = is }) in
        let same = same_title token rest parts in
        none_read none (subst (λ (t : List ℕ). Stands IsBehindTitle t parts.2 rest) (sym same.1) parts.5)

    pub empty_title : length title ≡ 0 → Reads (FitsFirst forms) (39 ∷ inside) None
    empty_title empty = no_other (untitled_empty empty)

    pub no_reference_behind : Reads IsBehindTitle behind None → Reads (FitsFirst forms) (39 ∷ inside) None
    no_reference_behind none = no_other (untitled_behind none)

    -- else one does
    pub quoted_title_here : 0 < length title → (w : MarkedArea) (rest : List ℕ)
        → Reads IsBehindTitle behind (Some (w, rest)) → Reads (Fits Titled) (39 ∷ inside)
        (Some (TitledReference title w, rest))
    quoted_title_here some w rest reference = record {
      found = record {
        lexeme = quoted 39 title ++ reference.found.lexeme;
        spelled = title_is.parts
            ∙ ap (λ t. quoted 39 title ++ t) reference.found.spelled
            ∙ sym (append_assoc (quoted 39 title) reference.found.lexeme rest);
        is = record {
          sheet = quoted 39 title;
          title = title;
          behind = reference.found.lexeme;
          written = w;
          spelled = refl;
          title_is = inl (record { some = some; spelled = refl });
          reference = reference.found.is;
          token_is = refl;
        };
      };
      only = λ token rest' stands.
          let parts = quoted_parts token rest' stands in
          let same = same_title token rest' parts in
          let two = one_read reference
          (subst (λ (t : List ℕ). Stands IsBehindTitle t parts.2 rest') (sym same.1) parts.5) in
          rw (parts.6, same.0, two.0, two.1) refl;
    }

    pub quoted_title_read : 0 < length title → (w : MarkedArea) (rest : List ℕ)
        → Reads IsBehindTitle behind (Some (w, rest)) → Reads (FitsFirst forms) (39 ∷ inside)
        (Some (TitledReference title w, rest))
    quoted_title_read some w rest reference =
        fits_here Titled behind_titled (39 ∷ inside) (TitledReference title w, rest)
        (quoted_title_here some w rest reference)

  -- a text, from behind its first "
  no_text_before : (answer : Option (Token × List ℕ))
      → Reads (FitsFirst (Quoted ∷ signs)) (34 ∷ inside) answer → Reads (FitsFirst forms) (34 ∷ inside) answer
  no_text_before answer reads =
      pass_over Titled behind_titled _ _ (cannot_start Titled (34 ∷ inside) refl)
      (pass_over FunctionName behind_function _ _ (cannot_start FunctionName (34 ∷ inside) refl)
      (pass_over OwnReference behind_reference _ _ (cannot_start OwnReference (34 ∷ inside) refl)
      (pass_over AnyWord behind_word _ _ (cannot_start AnyWord (34 ∷ inside) refl)
      (pass_over Digits behind_digits _ _ (cannot_start Digits (34 ∷ inside) refl) reads))))

  text_inside : (token : Token) (rest : List ℕ) → Stands (Fits Quoted) (34 ∷ inside) token rest
      → (text : List ℕ) × IsUpToQuote 34 inside text rest × (token ≡ Text text)
  text_inside token rest stands =
      let is = stands.is in
      (is.text, record { parts = stands.spelled ∙ ap (λ t. t ++ rest) is.spelled; closed = is.closed }, is.token_is)

  -- a text stands there where it is closed
  pub no_text_here : ((text rest : List ℕ) → ¬ (IsUpToQuote 34 inside text rest)) → FitsNowhere Quoted (34 ∷ inside)
  no_text_here none lexeme token rest e is =
      let parts = text_inside token rest (record { lexeme = lexeme; spelled = e; is = is }) in
      none parts.0 rest parts.1

  pub unclosed_text : ((text rest : List ℕ) → ¬ (IsUpToQuote 34 inside text rest))
      → Reads (FitsFirst forms) (34 ∷ inside) None
  unclosed_text none = no_text_before None
      (pass_over Quoted signs (34 ∷ inside) None (no_text_here none)
      (none_starts signs (34 ∷ inside) refl))

  module _ (text rest : List ℕ) (text_is : IsUpToQuote 34 inside text rest)
      (only : (other behind : List ℕ) → IsUpToQuote 34 inside other behind → (other ≡ text) × (behind ≡ rest)) where
    pub text_here : Reads (Fits Quoted) (34 ∷ inside) (Some (Text text, rest))
    text_here = record {
      found = record {
        lexeme = quoted 34 text;
        spelled = text_is.parts;
        is = record { text = text; spelled = refl; closed = text_is.closed; token_is = refl };
      };
      only = λ token rest' stands.
          let parts = text_inside token rest' stands in
          let same = only parts.0 rest' parts.1 in
          rw (parts.2, same.0, same.1) refl;
    }

    pub text_read : Reads (FitsFirst forms) (34 ∷ inside) (Some (Text text, rest))
    text_read = no_text_before (Some (Text text, rest))
        (fits_here Quoted signs (34 ∷ inside) (Text text, rest) text_here)

-- what begins with no word and no quote
titled_needs : (b : ℕ) → begins_word b ≡ false → is_quote b ≡ false → starts_titled b ≡ false
titled_needs b word quote = rw (word, quote) refl

titled_needs_first : (text : List ℕ) → begins begins_word text ≡ false → begins is_quote text ≡ false
    → begins starts_titled text ≡ false
titled_needs_first [] word quote = refl
titled_needs_first (b ∷ text) word quote = titled_needs b word quote

module _ (text : List ℕ) (word : begins begins_word text ≡ false) (quote : begins is_quote text ≡ false)
    (double : begins is_double_quote text ≡ false) where
  pub plain_reference : (w : MarkedArea) (rest : List ℕ) → Reads IsReference text (Some (w, rest))
      → Reads (FitsFirst forms) text (Some (Reference w, rest))
  plain_reference w rest reads =
      pass_over Titled behind_titled _ _ (cannot_start Titled text (titled_needs_first text word quote))
      (pass_over FunctionName behind_function _ _ (cannot_start FunctionName text word)
      (fits_here OwnReference behind_reference text (Reference w, rest) (own_reference text w rest reads)))

  plain_other : Reads IsReference text None → (answer : Option (Token × List ℕ))
      → Reads (FitsFirst (Digits ∷ Quoted ∷ signs)) text answer → Reads (FitsFirst forms) text answer
  plain_other none answer reads =
      pass_over Titled behind_titled _ _ (cannot_start Titled text (titled_needs_first text word quote))
      (pass_over FunctionName behind_function _ _ (cannot_start FunctionName text word)
      (pass_over OwnReference behind_reference _ _ (no_own_reference text none)
      (pass_over AnyWord behind_word _ _ (cannot_start AnyWord text word) reads)))

  pub plain_number : Reads IsReference text None → (token : Token) (rest : List ℕ)
      → Reads (Fits Digits) text (Some (token, rest)) → Reads (FitsFirst forms) text (Some (token, rest))
  plain_number none token rest reads =
      plain_other none (Some (token, rest)) (fits_here Digits behind_digits text (token, rest) reads)

  pub plain_sign : Reads IsReference text None → Reads (Fits Digits) text None → (answer : Option (Token × List ℕ))
      → Reads (FitsFirst signs) text answer → Reads (FitsFirst forms) text answer
  plain_sign none number answer reads =
      plain_other none answer
      (pass_over Digits behind_digits text answer (nothing_fits Digits text number)
      (pass_over Quoted signs text answer (cannot_start Quoted text double) reads))
