-- A text begins with one token at most, and has one list of tokens at most.
use Rattle.a1_notation.specs.Laws.{QuotesEndOnce}
use Rattle.a1_notation.specs.OneRun.{run_is_one}
use Rattle.std.proofs.Common.{◌≡◌, ℕ, ◌-◌, ◌≤◌, true, List, [], ◌∷◌, ◌++◌, length, drop, refl, sym, ap, ◌∙◌, inl, inr, arith, subst, append_assoc}
use Rattle.std.specs.Prelude.{◌≢◌, pos, slice_index, slice_range}
use Rattle.std.specs.Char.{is_ascii_digit}
use Rattle.std.specs.List.{list_all, flat_map}
use Rattle.std.specs.Str.Parse.{digits_value}
use Rattle.std.proofs.lemmas.Bool.{and_parts, false≢true, cases_lt}
use Rattle.std.proofs.lemmas.List.{length-drop}
use Rattle.a1_notation.specs.Class.{is_blank}
use Rattle.a1_notation.specs.Quoted.{doubled, quoted, IsUpToQuote}
use Rattle.a1_notation.specs.Run.{begins}
use Rattle.a1_notation.specs.Word.{begins_word, is_in_word}
use Rattle.formula_reader.specs.declared.tokens.token.Placed.{Placed}
use Rattle.formula_reader.specs.declared.tokens.token.Token.{Token}
use Rattle.formula_reader.specs.declared.tokens.token.Token.TheVariants.{Reference, Function, Number, Text}
use Rattle.formula_reader.specs.declared.tokens.token.MarkedArea.{MarkedArea}
use Rattle.formula_reader.specs.Form.{IsTitleBefore, IsBehindTitle, Form, Fits, Titled, FunctionName, OwnReference, AnyWord, Digits, Quoted, Sign, word_token}
use Rattle.formula_reader.specs.Reference.{IsReference}
use Rattle.formula_reader.specs.Tokens.{FitsFirst, forms, StandsFrom, AreTokens}
use Rattle.formula_reader.specs.Reading.{Stands}
use Rattle.formula_reader.proofs.OneReference.{one_part}
use Rattle.formula_reader.proofs.Places.{token_begins, some_at, stands_at, cut, cut_rest, blanks_behind, not_behind_blank}

-- at most one token has a form at the front of a text
abbrev IsOnce : (List ℕ → Token → List ℕ → Type 0) → Type 0
IsOnce grammar =
    (own other : List ℕ) (t u : Token) (rest behind : List ℕ) → grammar own t rest → grammar other u behind
    → own ++ rest ≡ other ++ behind → (own ≡ other) × (t ≡ u) × (rest ≡ behind)

same_front : (xs ys zs ws : List ℕ) → xs ++ ys ≡ zs ++ ws → length xs ≡ length zs → (xs ≡ zs) × (ys ≡ ws)
same_front [] ys [] ws e long = (refl, e)
same_front [] ys (z ∷ zs) ws e long = absurd (omega (arith, long))
same_front (x ∷ xs) ys [] ws e long = absurd (omega (arith, long))
same_front (x ∷ xs) ys (z ∷ zs) ws e long =
    let head : x ≡ z = cc in
    let tail : xs ++ ys ≡ zs ++ ws = cc in
    let later = same_front xs ys zs ws tail (omega (arith, long)) in
    (rw (head, later.0) refl, later.1)

-- references
one_reference : (part other : List ℕ) (w v : MarkedArea) (rest behind : List ℕ) → IsReference part w rest
    → IsReference other v behind → part ++ rest ≡ other ++ behind → (part ≡ other) × (w ≡ v) × (rest ≡ behind)
one_reference part other w v rest behind is is' e =
    let shorter = is.longest other v behind e is'.stands in
    let longer = is'.longest part w rest (sym e) is.stands in
    let same = same_front part rest other behind e (omega (arith, shorter, longer)) in
    (same.0, one_part other w v (rw same.0 at is.stands.part_is) is'.stands.part_is, same.1)

one_behind : (lexeme other : List ℕ) (w v : MarkedArea) (rest behind : List ℕ) → IsBehindTitle lexeme w rest
    → IsBehindTitle other v behind → lexeme ++ rest ≡ other ++ behind → (lexeme ≡ other) × (w ≡ v) × (rest ≡ behind)
one_behind lexeme other w v rest behind is is' e =
    let whole : 33 ∷ (is.part ++ rest) ≡ 33 ∷ (is'.part ++ behind) =
    ap (λ text. text ++ rest) (sym is.spelled) ∙ e ∙ ap (λ text. text ++ behind) is'.spelled in
    let tail : is.part ++ rest ≡ is'.part ++ behind = cc in
    let same = one_reference is.part is'.part w v rest behind is.reference is'.reference tail in
    (is.spelled ∙ ap (λ part. 33 ∷ part) same.0 ∙ sym is'.spelled, same.1, same.2)

-- texts in quotes
one_quoted : QuotesEndOnce → (quote : ℕ) (own other text content rest behind : List ℕ) → own ≡ quoted quote text
    → other ≡ quoted quote content
    → slice_index rest 0 ≢ quote → slice_index behind 0 ≢ quote → own ++ rest ≡ other ++ behind
    → (text ≡ content) × (rest ≡ behind)
one_quoted quotes quote own other text content rest behind own_is other_is closed closed' e =
    let inside = (flat_map (doubled quote) text ++ quote ∷ []) ++ rest in
    let one : IsUpToQuote quote inside text rest = record { parts = refl; closed = closed } in
    let two : IsUpToQuote quote inside content behind = record {
      parts = ap (λ t. t ++ rest) (sym own_is) ∙ e ∙ ap (λ t. t ++ behind) other_is;
      closed = closed';
    } in
    quotes quote inside text rest content behind one two

-- titles
no_quote : (title word rest behind : List ℕ) → begins begins_word word ≡ true
    → quoted 39 title ++ rest ≡ word ++ behind → ⊥
no_quote title [] rest behind first e = false≢true first
no_quote title (b ∷ word) rest behind first e =
    let same : 39 ≡ b = cc in
    false≢true (ap begins_word same ∙ first)

one_title : QuotesEndOnce → (sheet other title name rest behind : List ℕ) → slice_index rest 0 ≢ 39
    → slice_index behind 0 ≢ 39
    → IsTitleBefore sheet title rest → IsTitleBefore other name behind → sheet ++ rest ≡ other ++ behind
    → (sheet ≡ other) × (title ≡ name) × (rest ≡ behind)
one_title quotes sheet other title name rest behind closed closed' (inl is) (inl is') e =
    let same = one_quoted quotes 39 sheet other title name rest behind is.spelled is'.spelled closed closed' e in
    (is.spelled ∙ ap (quoted 39) same.0 ∙ sym is'.spelled, same.0, same.1)
one_title quotes sheet other title name rest behind closed closed' (inl is) (inr is') e =
    absurd (no_quote title other rest behind is'.0.first (ap (λ t. t ++ rest) (sym is.spelled) ∙ e))
one_title quotes sheet other title name rest behind closed closed' (inr is) (inl is') e =
    absurd (no_quote name sheet behind rest is.0.first (ap (λ t. t ++ behind) (sym is'.spelled) ∙ sym e))
one_title quotes sheet other title name rest behind closed closed' (inr is) (inr is') e =
    let same = run_is_one is_in_word sheet rest other behind is.0.run is'.0.run e in
    (same.0, is.1 ∙ same.0 ∙ sym is'.1, same.1)

no_quote_behind : (lexeme rest : List ℕ) (w : MarkedArea) → IsBehindTitle lexeme w rest
    → slice_index (lexeme ++ rest) 0 ≢ 39
no_quote_behind lexeme rest w is = rw is.spelled (λ e. absurd (omega arith))

titled_once : QuotesEndOnce → IsOnce (Fits Titled)
titled_once quotes own other t u rest behind is is' e =
    let whole = sym (append_assoc is.sheet is.behind rest) ∙ ap (λ l. l ++ rest) (sym is.spelled) ∙ e
    ∙ ap (λ l. l ++ behind) is'.spelled ∙ append_assoc is'.sheet is'.behind behind in
    let title = one_title quotes is.sheet is'.sheet is.title is'.title (is.behind ++ rest) (is'.behind ++ behind)
    (no_quote_behind is.behind rest is.written is.reference)
    (no_quote_behind is'.behind behind is'.written is'.reference)
    is.title_is is'.title_is whole in
    let part =
    one_behind is.behind is'.behind is.written is'.written rest behind is.reference is'.reference title.2 in (
      is.spelled ∙ rw (title.0, part.0) refl ∙ sym is'.spelled,
      is.token_is ∙ rw (title.1, part.1) refl ∙ sym is'.token_is,
      part.2,
    )

-- each form
form_once : QuotesEndOnce → (form : Form) → IsOnce (Fits form)
form_once quotes Titled own other t u rest behind is is' e = titled_once quotes own other t u rest behind is is' e
form_once quotes FunctionName own other t u rest behind is is' e =
    let same = run_is_one is_in_word own rest other behind is.word.run is'.word.run e in
    (same.0, is.token_is ∙ ap Function same.0 ∙ sym is'.token_is, same.1)
form_once quotes OwnReference own other t u rest behind is is' e =
    let same = one_reference own other is.written is'.written rest behind is.reference is'.reference e in
    (same.0, is.token_is ∙ ap Reference same.1 ∙ sym is'.token_is, same.2)
form_once quotes AnyWord own other t u rest behind is is' e =
    let same = run_is_one is_in_word own rest other behind is.word.run is'.word.run e in
    (same.0, is.token_is ∙ ap word_token same.0 ∙ sym is'.token_is, same.1)
form_once quotes Digits own other t u rest behind is is' e =
    let same = run_is_one is_ascii_digit own rest other behind is.run is'.run e in
    (same.0, is.token_is ∙ ap (λ digits. Number (pos (digits_value 10 digits))) same.0 ∙ sym is'.token_is, same.1)
form_once quotes Quoted own other t u rest behind is is' e =
    let same =
    one_quoted quotes 34 own other is.text is'.text rest behind is.spelled is'.spelled is.closed is'.closed e in
    (is.spelled ∙ ap (quoted 34) same.0 ∙ sym is'.spelled, is.token_is ∙ ap Text same.0 ∙ sym is'.token_is, same.1)
form_once quotes (Sign spelling sign) own other t u rest behind is is' e =
    let own_is : own ≡ other = is.0 ∙ sym is'.0 in
    (own_is, is.1 ∙ sym is'.1, (same_front own rest other behind e (ap length own_is)).1)

-- and so the first one that fits
pub first_once : QuotesEndOnce → (tried : List Form) → IsOnce (FitsFirst tried)
first_once quotes [] own other t u rest behind is is' e = absurd is
first_once quotes (form ∷ later) own other t u rest behind (inl is) (inl is') e =
    form_once quotes form own other t u rest behind is is' e
first_once quotes (form ∷ later) own other t u rest behind (inl is) (inr is') e = absurd (is'.0 own t rest (sym e) is)
first_once quotes (form ∷ later) own other t u rest behind (inr is) (inl is') e = absurd (is.0 other u behind e is')
first_once quotes (form ∷ later) own other t u rest behind (inr is) (inr is') e =
    first_once quotes later own other t u rest behind is.1 is'.1 e

-- no token stands where blanks alone do
no_blanks : (bytes : List ℕ) (t : Token) (rest : List ℕ) → Stands (FitsFirst forms) bytes t rest
    → list_all is_blank bytes ≡ true → ⊥
no_blanks [] t rest stands all = absurd (omega (arith, some_at [] t rest stands))
no_blanks (b ∷ bytes) t rest stands all =
    false≢true (sym (token_begins (b ∷ bytes) t rest stands) ∙ (and_parts (is_blank b) (list_all is_blank bytes) all).0)

module _ (quotes : QuotesEndOnce) (text : List ℕ) where
  none_behind : (from : ℕ) (placed : Placed) → StandsFrom text from placed → list_all is_blank (drop from text) ≡ true
      → ⊥
  none_behind from placed stands all =
      no_blanks (drop placed.start text) placed.token (drop placed.end text) (stands_at text from placed stands)
      (blanks_behind (slice_range text from placed.start) (drop placed.start text)
      (rw (cut_rest text from placed.start stands.before) at all))

  -- of two first tokens each stands where the other does
  no_later : (from : ℕ) (one other : Placed) → StandsFrom text from one → StandsFrom text from other
      → other.start ≤ one.start
  no_later from one other stands stands' =
      elim (cases_lt one.start other.start) [
        | inl short ↦
            let all = blanks_behind (slice_range text from one.start) (slice_range text one.start other.start)
            (rw (cut text from one.start other.start stands.before (omega arith)) at stands'.blanks) in
            let none = not_behind_blank (drop one.start text) one.token (drop one.end text) (other.start - one.start)
            (stands_at text from one stands) all in
            omega arith
        | inr le ↦ le
      ]

  placed_is : (s e s' e' : ℕ) (t t' : Token) → s ≡ s' → e ≡ e' → t ≡ t'
      → ◌≡◌ {A = Placed} (record { start = s; end = e; token = t }) (record { start = s'; end = e'; token = t' })
  placed_is s e s' e' t t' start end' token = rw (start, end', token) refl

  one_placed : (from : ℕ) (one other : Placed) → StandsFrom text from one → StandsFrom text from other → one ≡ other
  one_placed from one other stands stands' =
      let here : one.start ≡ other.start =
      omega (arith, no_later from one other stands stands', no_later from other one stands' stands) in
      let first = stands_at text from one stands in
      let second = stands_at text from other stands' in
      let whole = sym first.spelled ∙ ap (λ n. drop n text) here ∙ second.spelled in
      let same = first_once quotes forms first.lexeme second.lexeme one.token other.token (drop one.end text)
      (drop other.end text)
      first.is second.is whole in
      let there : one.end ≡ other.end =
      omega
      (arith, ap length same.2, length-drop one.end text, length-drop other.end text, stands.within, stands'.within) in
      placed_is one.start one.end other.start other.end one.token other.token here there same.1

  -- a text has one list of tokens from a byte on
  pub tokens_once : (from : ℕ) (one other : List Placed) → AreTokens text from one → AreTokens text from other
      → one ≡ other
  tokens_once from [] [] are are' = refl
  tokens_once from [] (placed ∷ later) are are' = absurd (none_behind from placed are'.0 are)
  tokens_once from (placed ∷ later) [] are are' = absurd (none_behind from placed are.0 are')
  tokens_once from (placed ∷ later) (other ∷ others) are are' =
      let same = one_placed from placed other are.0 are'.0 in
      let more = tokens_once other.end later others
      (subst (λ (p : Placed). AreTokens text p.end later) same are.1) are'.1 in
      rw (same, more) refl
