-- A text between references has alone the tokens that it has within the formula.
use Rattle.std.proofs.Common.{◌≡◌, ◌≢◌, ℕ, ◌≤◌, Bool, true, false, List, [], ◌∷◌, ◌++◌, length, refl, sym, ap, ◌∙◌, subst, arith, inl, inr, append_assoc}
use Rattle.std.specs.Prelude.{⊤, ◌==◌, ◌||◌, Some, None, slice_index, codes}
use Rattle.std.specs.Char.{is_ascii_alphabetic, is_ascii_digit, to_ascii_lowercase}
use Rattle.std.specs.List.{list_all}
use Rattle.std.specs.Str.{str_eq_ignore_ascii_case, str_to_ascii_lowercase}
use Rattle.std.proofs.lemmas.Bool.{and_parts, false≢true, or_cases, or_parts, eqb-true, cases_Bool}
use Rattle.std.proofs.lemmas.Bool.Decides.{nat_tests}
use Rattle.std.proofs.lemmas.Grind.{flat_map-append}
use Rattle.std.proofs.lemmas.List.{length-map}
use Rattle.std.proofs.lemmas.Option.{none-some}
use Rattle.std.proofs.lemmas.Slice.Eq.{bytes_eq-Decides}
use Rattle.a1_notation.specs.Laws.{QuotesEndOnce}
use Rattle.a1_notation.specs.Class.{is_blank}
use Rattle.a1_notation.specs.Column.{IsColumn}
use Rattle.a1_notation.specs.Run.{begins}
use Rattle.a1_notation.specs.Word.{is_in_word, IsWord}
use Rattle.formula_reader.specs.declared.symbols.Symbol.{Symbol}
use Rattle.formula_reader.specs.declared.tokens.corner.Coordinate.{Coordinate}
use Rattle.formula_reader.specs.declared.tokens.corner.MarkedCorner.{MarkedCorner}
use Rattle.formula_reader.specs.declared.tokens.corner.MarkedCorner.TheVariants.{Cell, Column, Row}
use Rattle.formula_reader.specs.declared.tokens.token.MarkedArea.{MarkedArea}
use Rattle.formula_reader.specs.declared.tokens.token.Operator.{Operator}
use Rattle.formula_reader.specs.declared.tokens.token.Operator.TheVariants.{NotEqual, Less, AtMost, Greater, AtLeast}
use Rattle.formula_reader.specs.declared.tokens.token.Token.{Token}
use Rattle.formula_reader.specs.declared.tokens.token.Token.TheVariants as token
use Rattle.formula_reader.specs.Corner.{marked_text, IsMarkedColumn, IsMarkedCorner}
use Rattle.formula_reader.specs.Form.{IsBehindTitle, OwnReference, word_token}
use Rattle.formula_reader.specs.Reading.{Stands, Reads}
use Rattle.formula_reader.specs.Reference.{IsPart, is_joined}
use Rattle.formula_reader.specs.Symbols.{symbol_of}
use Rattle.formula_reader.specs.Tokens.{FitsNowhere, FitsFirst, forms}
use Rattle.formula_reader.proofs.Corners.{row_begins}
use Rattle.formula_reader.proofs.FitsAgain.{open_fits, close_fits, comma_fits, widens_sign, sign_fits, closed_fits, function_fits, digits_fit}
use Rattle.formula_reader.proofs.Lexemes.{Item, gap, lexeme, spelled, spell, AreFit, IsWordText, operator_text}
use Rattle.formula_reader.proofs.Marks.{letters_all}
use Rattle.formula_reader.proofs.OneToken.{first_once}
use Rattle.formula_reader.proofs.Read.{none_read}
use Rattle.a1_notation.specs.OneRun.{run_is_one}
use Rattle.formula_reader.proofs.Spelling.{lexeme_of, bracket_behind, word_ends, digits_end, quotes_end}
use Rattle.formula_reader.proofs.Starts.{begins-front, none_starts}
use Rattle.formula_reader.proofs.Titles.{no_title_mark, word_no_title, no_function}
use Rattle.formula_reader.proofs.WordsAgain.{truth_letters}

-- the first byte of a text before another
front_begins : (class : ℕ → Bool) (xs ys : List ℕ) → begins class (xs ++ ys) ≡ false → begins class xs ≡ false
front_begins class [] ys none = refl
front_begins class (x ∷ xs) ys none = none

-- no token begins with : (58) or ! (33)
abbrev is_joint : ℕ → Bool
is_joint byte = byte == 58 || byte == 33

no_joint : (b : ℕ) (text : List ℕ) → is_joint b ≡ true → Reads (FitsFirst forms) (b ∷ text) None
no_joint b text joint =
    elim (or_cases (b == 58) (b == 33) joint) [
      | inl colon ↦ rw (eqb-true b 58 colon) (none_starts forms (58 ∷ text) refl)
      | inr mark ↦ rw (eqb-true b 33 mark) (none_starts forms (33 ∷ text) refl)
    ]

token_begins : (text : List ℕ) (t : Token) (rest : List ℕ) → Stands (FitsFirst forms) text t rest
    → begins is_joint text ≡ false
token_begins [] t rest stands = refl
token_begins (b ∷ text) t rest stands = other (is_joint b) refl
  where
    other : (v : Bool) → is_joint b ≡ v → is_joint b ≡ false
    other true joint = absurd (none_read (no_joint b text joint) stands)
    other false joint = joint

blank_no_joint : (b : ℕ) → is_blank b ≡ true → is_joint b ≡ false
blank_no_joint b blank = grind (arith, nat_tests)

items_begin : (items : List Item) → AreFit items → begins is_joint (spell items) ≡ false
items_begin [] fit = refl
items_begin (gap [] ∷ later) fit = items_begin later fit.1
items_begin (gap (b ∷ blanks) ∷ later) fit =
    blank_no_joint b (and_parts (is_blank b) (list_all is_blank blanks) fit.0).0
items_begin (lexeme own t ∷ later) fit =
    token_begins (own ++ spell later) t (spell later) (record { lexeme = own; spelled = refl; is = fit.0 })

-- < and > stand before no byte that makes another sign of them
never : (text : List ℕ) → begins (λ byte. false) text ≡ false
never [] = refl
never (b ∷ text) = refl

module _ (quotes : QuotesEndOnce) where
  not_both : (one other : Operator) (rest behind : List ℕ)
      → operator_text one ++ rest ≡ operator_text other ++ behind
      → length (operator_text one) ≢ length (operator_text other) → begins (widens_sign other) behind ≡ false
      → FitsFirst forms (operator_text one) (token.Operator one) rest → ⊥
  not_both one other rest behind e differ ends fits =
      differ
      (ap length
      (first_once quotes forms (operator_text one) (operator_text other) (token.Operator one) (token.Operator other)
      rest
      behind fits (sign_fits other behind ends) e).0)

  ends_sign : (operator : Operator) (b : ℕ) (rest : List ℕ)
      → FitsFirst forms (operator_text operator) (token.Operator operator) (b ∷ rest)
      → (v : Bool) → widens_sign operator b ≡ v → v ≡ false
  ends_sign operator b rest fits false is = refl
  ends_sign Less b rest fits true is =
      absurd (elim (or_cases (b == 61) (b == 62) is) [
        | inl equal ↦
            not_both Less AtMost (b ∷ rest) rest (rw (eqb-true b 61 equal) refl) (λ e. omega (arith, e)) (never rest)
            fits
        | inr greater ↦
            not_both Less NotEqual (b ∷ rest) rest (rw (eqb-true b 62 greater) refl) (λ e. omega (arith, e))
            (never rest) fits
      ])
  ends_sign Greater b rest fits true is =
      absurd (not_both Greater AtLeast (b ∷ rest) rest (rw (eqb-true b 61 is) refl) (λ e. omega (arith, e)) (never rest)
      fits)
  ends_sign other b rest fits true is = absurd (false≢true is)

  sign_ends : (operator : Operator) (rest : List ℕ)
      → FitsFirst forms (operator_text operator) (token.Operator operator) rest
      → begins (widens_sign operator) rest ≡ false
  sign_ends operator [] fits = refl
  sign_ends operator (b ∷ rest) fits =
      let is = ends_sign operator b rest fits (widens_sign operator b) refl in is

-- a column's letters are three at most, so none stands at a truth value
no_letter : (b : ℕ) → is_in_word b ≡ false → is_ascii_alphabetic b ≡ false
no_letter b h = grind (arith, nat_tests)

no_letter_behind : (rest : List ℕ) → begins is_in_word rest ≡ false → begins is_ascii_alphabetic rest ≡ false
no_letter_behind [] ends = refl
no_letter_behind (b ∷ rest) ends = no_letter b ends

module _ (own rest : List ℕ) (first : begins is_ascii_alphabetic own ≡ true)
    (all : list_all is_ascii_alphabetic own ≡ true) (ends : begins is_ascii_alphabetic rest ≡ false) where
  own_begins : begins is_ascii_alphabetic (own ++ rest) ≡ true
  own_begins = begins-front is_ascii_alphabetic own rest first

  short_name : (m : Bool) (name behind : List ℕ) (n : ℕ) → IsColumn 3 name n
      → begins is_ascii_alphabetic behind ≡ false → own ++ rest ≡ marked_text m name ++ behind → length own ≤ 3
  short_name true name behind n is ends' e =
      absurd (false≢true (ap (begins is_ascii_alphabetic) (sym e) ∙ own_begins))
  short_name false name behind n is ends' e =
      let same = run_is_one is_ascii_alphabetic own rest name behind (record { all = all; ends = ends })
      (record { all = letters_all name n is; ends = ends' }) e in
      omega (arith, ap length same.0, is.letters.few)

  short_column : (text behind : List ℕ) (column : Coordinate) → IsMarkedColumn text column
      → begins is_ascii_alphabetic behind ≡ false → own ++ rest ≡ text ++ behind → length own ≤ 3
  short_column text behind column is ends' e =
      short_name column.marked is.name behind column.line is.name_is ends' (e ∙ ap (λ t. t ++ behind) is.spelled)

  short_corner : (corner : MarkedCorner) (text behind : List ℕ) → IsMarkedCorner text corner
      → begins is_ascii_alphabetic behind ≡ false → own ++ rest ≡ text ++ behind → length own ≤ 3
  short_corner (Cell row column) text behind is ends' e =
      short_column is.first (is.second ++ behind) column is.column_is (row_begins is.second row behind is.row_is).0
      (e ∙ ap (λ t. t ++ behind) is.spelled ∙ append_assoc is.first is.second behind)
  short_corner (Column column) text behind is ends' e = short_column text behind column is ends' e
  short_corner (Row row) text behind is ends' e =
      absurd
      (false≢true (sym (row_begins text row behind is).0 ∙ ap (begins is_ascii_alphabetic) (sym e) ∙ own_begins))

  short_part : (text : List ℕ) (w : MarkedArea) (behind : List ℕ) → IsPart text w
      → begins is_ascii_alphabetic behind ≡ false → own ++ rest ≡ text ++ behind → length own ≤ 3
  short_part text w behind (inl cell) ends' e =
      short_corner (Cell cell.row cell.column) text behind cell.cell ends' e
  short_part text w behind (inr two) ends' e =
      short_corner two.one two.first (58 ∷ two.second ++ behind) two.one_is refl
      (e ∙ ap (λ t. t ++ behind) two.spelled ∙ append_assoc two.first (58 ∷ two.second) behind)

long_name : (own name : List ℕ) → str_eq_ignore_ascii_case own name ≡ true → length own ≡ length name
long_name own name same =
    sym (length-map own to_ascii_lowercase)
    ∙ ap length ((bytes_eq-Decides (str_to_ascii_lowercase own) (str_to_ascii_lowercase name)).0 same)
    ∙ length-map name to_ascii_lowercase

truth_long : (own : List ℕ) (truth : Bool) → word_token own ≡ token.Truth truth → 4 ≤ length own
truth_long own truth is =
    elim (cases_Bool (str_eq_ignore_ascii_case own (codes "TRUE"))) [
      | inl same ↦ omega (arith, long_name own (codes "TRUE") same)
      | inr other ↦ elim (cases_Bool (str_eq_ignore_ascii_case own (codes "FALSE"))) [
        | inl same ↦ omega (arith, long_name own (codes "FALSE") same)
        | inr other' ↦
            let word : token.Word own ≡ token.Truth truth = rw (other, other') at is in
            let none : ⊥ = cc in
            absurd none
      ]
    ]

word_first_letter : (own : List ℕ) → list_all is_ascii_alphabetic own ≡ true → 4 ≤ length own
    → begins is_ascii_alphabetic own ≡ true
word_first_letter [] all long = absurd (omega (arith, long))
word_first_letter (b ∷ own) all long = (and_parts (is_ascii_alphabetic b) (list_all is_ascii_alphabetic own) all).0

-- a byte of a word isn't joined to a reference, and neither is a letter
joined_no_letter : (rest : List ℕ) → begins is_joined rest ≡ false → begins is_ascii_alphabetic rest ≡ false
joined_no_letter [] alone = refl
joined_no_letter (b ∷ rest) alone = unjoined b alone
  where
    unjoined : (b : ℕ) → is_joined b ≡ false → is_ascii_alphabetic b ≡ false
    unjoined b h = grind (arith, nat_tests)

no_reference : (own rest : List ℕ) (truth : Bool) → word_token own ≡ token.Truth truth
    → begins is_in_word rest ≡ false → FitsNowhere OwnReference (own ++ rest)
no_reference own rest truth is ends text t behind e fits =
    let all = truth_letters own truth is in
    let long = truth_long own truth is in
    let stands = fits.reference.stands in
    let short = short_part own rest (word_first_letter own all long) all (no_letter_behind rest ends) text
    fits.written behind stands.part_is (joined_no_letter behind stands.alone) e in
    omega (arith, long, short)

-- a truth value
no_bracket : (own rest : List ℕ) (truth : Bool) → IsWord own rest → FitsFirst forms own (token.Truth truth) rest
    → slice_index rest 0 ≢ 40
no_bracket own rest truth word (inl titled) bracket = let same = titled.token_is in cc
no_bracket own rest truth word (inr (_, inl function)) bracket = let same = function.token_is in cc
no_bracket own rest truth word (inr (_, inr (none, later))) bracket =
    none own (token.Function own) rest refl (record { word = word; bracket = bracket; token_is = refl })

truth_fits_alone : (own rest : List ℕ) (truth : Bool) → IsWordText own → word_token own ≡ token.Truth truth
    → begins is_in_word rest ≡ false → slice_index rest 0 ≢ 40 → begins is_joint rest ≡ false
    → FitsFirst forms own (token.Truth truth) rest
truth_fits_alone own rest truth text is ends bracket joint =
    let word : IsWord own rest = record { first = text.first; run = record { all = text.all; ends = ends } } in
    let untitled : Reads IsBehindTitle rest None =
    no_title_mark rest (λ other e. false≢true (sym joint ∙ ap (begins is_joint) e)) in
    subst (λ (t : Token). FitsFirst forms own t rest) is
    (inr (
      word_no_title (own ++ rest) own rest refl word untitled,
      inr (
        no_function (own ++ rest) own rest refl word bracket,
        inr (no_reference own rest truth is ends, inl (record { word = word; token_is = refl })),
      ),
    ))

-- the first byte of a text before another, once more
front_index : (n : ℕ) (rest more : List ℕ) → (0 ≡ n → ⊥) → slice_index (rest ++ more) 0 ≢ n
    → slice_index rest 0 ≢ n
front_index n [] more none other is = none is
front_index n (b ∷ rest) more none other is = other is

front_bracket : (rest more : List ℕ) → begins (λ byte. byte == 40) (rest ++ more) ≡ true
    → begins (λ byte. byte == 40) more ≡ false → begins (λ byte. byte == 40) rest ≡ true
front_bracket [] more first none = absurd (false≢true (sym none ∙ first))
front_bracket (b ∷ rest) more first none = first

no_colon : (rest : List ℕ) → begins is_joint rest ≡ false → begins (λ byte. byte == 58) rest ≡ false
no_colon [] joint = refl
no_colon (b ∷ rest) joint = (or_parts (b == 58) (b == 33) joint).0

-- what is part of a text has a symbol
abbrev pub AreInText : List Item → Type 0
AreInText [] = ⊤
AreInText (gap blanks ∷ later) = AreInText later
AreInText (lexeme own t ∷ later) = ((own : Symbol) × (symbol_of t ≡ Some own)) × AreInText later

module _ (quotes : QuotesEndOnce) where
  -- such a token is read without what stands behind its text, if that isn't a bracket
  token_alone : (t : Token) (s : Symbol) (own rest more : List ℕ) → symbol_of t ≡ Some s
      → FitsFirst forms own t (rest ++ more) → begins is_joint rest ≡ false
      → begins (λ byte. byte == 40) more ≡ false → FitsFirst forms own t rest
  token_alone (token.Number number) s own rest more is fits joint none =
      let own_is = lexeme_of own (token.Number number) (rest ++ more) tt fits in
      rw own_is.1
      (digits_fit own own_is.0 rest own_is.2
      (front_begins is_ascii_digit rest more (digits_end own (rest ++ more) number fits)) (no_colon rest joint))
  token_alone (token.Text text) s own rest more is fits joint none =
      rw (lexeme_of own (token.Text text) (rest ++ more) tt fits)
      (closed_fits text rest
      (front_index 34 rest more (λ e. absurd (omega (arith, e))) (quotes_end own (rest ++ more) text fits)))
  token_alone (token.Truth truth) s own rest more is fits joint none =
      let own_is = lexeme_of own (token.Truth truth) (rest ++ more) tt fits in
      let ends = word_ends own (rest ++ more) truth fits in
      let word : IsWord own (rest ++ more) =
      record { first = own_is.0.first; run = record { all = own_is.0.all; ends = ends } } in
      truth_fits_alone own rest truth own_is.0 own_is.1 (front_begins is_in_word rest more ends)
      (front_index 40 rest more (λ e. absurd (omega (arith, e))) (no_bracket own (rest ++ more) truth word fits)) joint
  token_alone (token.Function name) s own rest more is fits joint none =
      let own_is = lexeme_of own (token.Function name) (rest ++ more) tt fits in
      rw own_is.0
      (function_fits name rest own_is.1 (front_bracket rest more (bracket_behind own name (rest ++ more) fits) none))
  token_alone (token.Operator operator) s own rest more is fits joint none =
      let own_is : own ≡ operator_text operator = lexeme_of own (token.Operator operator) (rest ++ more) tt fits in
      rw own_is
      (sign_fits operator rest
      (front_begins (widens_sign operator) rest more (sign_ends quotes operator (rest ++ more) (rw own_is at fits))))
  token_alone token.Open s own rest more is fits joint none =
      rw (lexeme_of own token.Open (rest ++ more) tt fits) (open_fits rest)
  token_alone token.Close s own rest more is fits joint none =
      rw (lexeme_of own token.Close (rest ++ more) tt fits) (close_fits rest)
  token_alone token.Comma s own rest more is fits joint none =
      rw (lexeme_of own token.Comma (rest ++ more) tt fits) (comma_fits rest)
  token_alone (token.Reference written) s own rest more is fits joint none = absurd (none-some s is)
  token_alone (token.TitledReference title written) s own rest more is fits joint none = absurd (none-some s is)
  token_alone (token.Word word) s own rest more is fits joint none = absurd (none-some s is)
  token_alone token.Lost s own rest more is fits joint none = absurd (none-some s is)

  -- and so are all of its text
  pub items_alone : (items more : List Item) → AreFit (items ++ more) → AreInText items
      → begins (λ byte. byte == 40) (spell more) ≡ false → AreFit items
  items_alone [] more fit inside none = tt
  items_alone (gap blanks ∷ later) more fit inside none = (fit.0, items_alone later more fit.1 inside none)
  items_alone (lexeme own t ∷ later) more fit inside none =
      let both = flat_map-append spelled later more in
      let joint = front_begins is_joint (spell later) (spell more) (rw both at (items_begin (later ++ more) fit.1)) in (
        token_alone t inside.0.0 own (spell later) (spell more) inside.0.1 (rw both at fit.0) joint none,
        items_alone later more fit.1 inside.1 none,
      )
