-- The tokens from a place on, as blanks are passed over and one more token is read.
use Rattle.std.proofs.Common.{◌≡◌, ℕ, suc, ◌+◌, ◌-◌, ◌<◌, ◌≤◌, Bool, true, false, List, [], ◌∷◌, ◌++◌, length, take, drop, refl, sym, ap, ◌∙◌, arith, inl, inr, subst, append-nil}
use Rattle.std.specs.Prelude.{◌||◌, ◌==◌, Some, None, slice_range}
use Rattle.std.specs.List.{list_all}
use Rattle.std.proofs.lemmas.Bool.{and_parts, and_from, false≢true, cases_lt, or_cases, eqb-true}
use Rattle.std.proofs.lemmas.List.{drop-drop, take-append-drop, length-append, length-drop, take_at, drop_at}
use Rattle.std.proofs.lemmas.List.Folds.{list_all-append}
use Rattle.std.proofs.Math.Seq.{take-add}
use Rattle.formula_reader.specs.declared.tokens.token.Placed.{Placed}
use Rattle.formula_reader.specs.declared.tokens.token.Token.{Token}
use Rattle.formula_reader.specs.declared.tokens.token.MarkedArea.{MarkedArea}
use Rattle.a1_notation.specs.Run.{begins}
use Rattle.a1_notation.specs.Word.{begins_word}
use Rattle.formula_reader.specs.Reference.{IsPart}
use Rattle.formula_reader.specs.Form.{Form, Fits, Titled, FunctionName, OwnReference, AnyWord, Digits, Quoted, Sign}
use Rattle.a1_notation.specs.Class.{is_blank}
use Rattle.formula_reader.specs.Tokens.{FitsFirst, forms, StandsFrom, AreTokens}
use Rattle.formula_reader.specs.Reading.{Stands, Reads}
use Rattle.formula_reader.proofs.Read.{one_read, none_read}
use Rattle.formula_reader.proofs.Starts.{starts_reference, part_starts, none_starts}

-- no token begins with a blank, and none has no byte
no_blank : (b : ℕ) (text : List ℕ) → is_blank b ≡ true → Reads (FitsFirst forms) (b ∷ text) None
no_blank b text blank =
    elim (or_cases (b == 32 || b == 9) (b == 10) blank) [
      | inl other ↦ elim (or_cases (b == 32) (b == 9) other) [
        | inl space ↦ rw (eqb-true b 32 space) (none_starts forms (32 ∷ text) refl)
        | inr tab ↦ rw (eqb-true b 9 tab) (none_starts forms (9 ∷ text) refl)
      ]
      | inr feed ↦ rw (eqb-true b 10 feed) (none_starts forms (10 ∷ text) refl)
    ]

-- so a token begins with another byte
pub token_begins : (text : List ℕ) (token : Token) (rest : List ℕ) → Stands (FitsFirst forms) text token rest
    → begins is_blank text ≡ false
token_begins [] token rest stands = refl
token_begins (b ∷ text) token rest stands = other (is_blank b) refl
  where
    other : (v : Bool) → is_blank b ≡ v → is_blank b ≡ false
    other true blank = absurd (none_read (no_blank b text blank) stands)
    other false blank = blank

begins_some : (class : ℕ → Bool) (text : List ℕ) → begins class text ≡ true → 0 < length text
begins_some class [] is = absurd (false≢true is)
begins_some class (b ∷ text) is = omega arith

part_some : (part : List ℕ) (w : MarkedArea) → IsPart part w → 0 < length part
part_some part w is = begins_some starts_reference part (rw (append-nil part) at (part_starts part w [] is))

-- a form whose sign has a spelling
abbrev pub is_spelled : Form → Bool
is_spelled Titled = true
is_spelled FunctionName = true
is_spelled OwnReference = true
is_spelled AnyWord = true
is_spelled Digits = true
is_spelled Quoted = true
is_spelled (Sign [] token) = false
is_spelled (Sign (first ∷ spelling) token) = true

fits_some : (form : Form) (lexeme : List ℕ) (token : Token) (rest : List ℕ) → is_spelled form ≡ true
    → Fits form lexeme token rest → 0 < length lexeme
fits_some Titled lexeme token rest spelled is =
    omega (arith, ap length is.spelled, length-append is.sheet is.behind, ap length is.reference.spelled)
fits_some FunctionName lexeme token rest spelled is = begins_some begins_word lexeme is.word.first
fits_some OwnReference lexeme token rest spelled is = part_some lexeme is.written is.reference.stands.part_is
fits_some AnyWord lexeme token rest spelled is = begins_some begins_word lexeme is.word.first
fits_some Digits lexeme token rest spelled is = begins_some _ lexeme is.some
fits_some Quoted lexeme token rest spelled is = omega (arith, ap length is.spelled)
fits_some (Sign [] sign) lexeme token rest spelled is = absurd (false≢true spelled)
fits_some (Sign (first ∷ spelling) sign) lexeme token rest spelled is = omega (arith, ap length is.0)

first_some : (later : List Form) (lexeme : List ℕ) (token : Token) (rest : List ℕ) → list_all is_spelled later ≡ true
    → FitsFirst later lexeme token rest → 0 < length lexeme
first_some [] lexeme token rest spelled is = absurd is
first_some (form ∷ later) lexeme token rest spelled (inl is) =
    fits_some form lexeme token rest (and_parts (is_spelled form) (list_all is_spelled later) spelled).0 is
first_some (form ∷ later) lexeme token rest spelled (inr is) =
    first_some later lexeme token rest (and_parts (is_spelled form) (list_all is_spelled later) spelled).1 is.1

pub token_some : (lexeme : List ℕ) (token : Token) (rest : List ℕ) → FitsFirst forms lexeme token rest
    → 0 < length lexeme
token_some lexeme token rest is = first_some forms lexeme token rest refl is

-- a text from one place to a later one, and on from there
pub cut : (text : List ℕ) (a b c : ℕ) → a ≤ b → b ≤ c
    → slice_range text a c ≡ slice_range text a b ++ slice_range text b c
cut text a b c ab bc =
    let sum : c - a ≡ b - a + (c - b) = omega arith in
    let back : a + (b - a) ≡ b = omega arith in
    let there : drop (b - a) (drop a text) ≡ drop b text = drop-drop (b - a) a text ∙ ap (λ n. drop n text) back in
    ap (λ n. take n (drop a text)) sum ∙ take-add (b - a) (c - b) (drop a text)
    ∙ ap (λ rest. take (b - a) (drop a text) ++ take (c - b) rest) there

pub cut_rest : (text : List ℕ) (a b : ℕ) → a ≤ b → drop a text ≡ slice_range text a b ++ drop b text
cut_rest text a b ab =
    let back : a + (b - a) ≡ b = omega arith in
    sym (take-append-drop (b - a) (drop a text))
    ∙ ap (λ rest. take (b - a) (drop a text) ++ rest) (drop-drop (b - a) a text ∙ ap (λ n. drop n text) back)

blanks_join : (xs ys : List ℕ) → list_all is_blank xs ≡ true → list_all is_blank ys ≡ true
    → list_all is_blank (xs ++ ys) ≡ true
blanks_join xs ys a b = list_all-append is_blank xs ys ∙ and_from (list_all is_blank xs) (list_all is_blank ys) a b

pub blanks_behind : (xs ys : List ℕ) → list_all is_blank (xs ++ ys) ≡ true → list_all is_blank ys ≡ true
blanks_behind xs ys both =
    (and_parts (list_all is_blank xs) (list_all is_blank ys) (sym (list_all-append is_blank xs ys) ∙ both)).1

-- a token at its place
pub stands_at : (text : List ℕ) (from : ℕ) (placed : Placed) → StandsFrom text from placed
    → Stands (FitsFirst forms) (drop placed.start text) placed.token (drop placed.end text)
stands_at text from placed stands = record {
  lexeme = slice_range text placed.start placed.end;
  spelled = cut_rest text placed.start placed.end stands.ordered;
  is = stands.fits;
}

-- it begins with no blank
begins_blank : (bytes : List ℕ) (n : ℕ) → 0 < n → 0 < length bytes → list_all is_blank (take n bytes) ≡ true
    → begins is_blank bytes ≡ true
begins_blank [] n some long all = absurd (omega arith)
begins_blank (b ∷ bytes) n some long all =
    let more : n ≡ suc (n - 1) = omega arith in
    (and_parts (is_blank b) (list_all is_blank (take (n - 1) bytes)) (rw more at all)).0

pub some_at : (text : List ℕ) (token : Token) (rest : List ℕ) → Stands (FitsFirst forms) text token rest
    → 0 < length text
some_at text token rest stands =
    omega
    (arith, ap length stands.spelled, length-append stands.lexeme rest, token_some stands.lexeme token rest stands.is)

pub not_behind_blank : (text : List ℕ) (token : Token) (rest : List ℕ) (n : ℕ)
    → Stands (FitsFirst forms) text token rest
    → list_all is_blank (take n text) ≡ true → n ≡ 0
not_behind_blank text token rest n stands all =
    elim (cases_lt 0 n) [
      | inl some ↦ absurd (false≢true (sym (token_begins text token rest stands)
          ∙ begins_blank text n some (some_at text token rest stands) all))
      | inr none ↦ omega arith
    ]

-- where no blank stands at a place, the token from there on stands there
same_start : (text rest : List ℕ) (start : ℕ) (placed : Placed) → rest ≡ drop start text → begins is_blank rest ≡ false
    → StandsFrom text start placed → placed.start ≡ start
same_start text rest start placed rest_is ends stands =
    elim (cases_lt 0 (placed.start - start)) [
      | inl some ↦
          let whole = ap length rest_is ∙ ap length (cut_rest text start placed.start stands.before)
          ∙ length-append (slice_range text start placed.start) (drop placed.start text) in
          let there = some_at (drop placed.start text) placed.token (drop placed.end text)
          (stands_at text start placed stands) in
          let long : 0 < length rest = omega (arith, whole, there) in
          let all = rw (← rest_is) at stands.blanks in
          absurd (false≢true (sym ends ∙ begins_blank rest (placed.start - start) some long all))
      | inr none ↦ omega (arith, stands.before)
    ]

-- and so it is what a reader finds there
pub read_there : (text rest : List ℕ) (start : ℕ) (placed : Placed) → rest ≡ drop start text
    → begins is_blank rest ≡ false
    → StandsFrom text start placed → Stands (FitsFirst forms) rest placed.token (drop placed.end text)
read_there text rest start placed rest_is ends stands =
    let same = same_start text rest start placed rest_is ends stands in
    let there : drop placed.start text ≡ rest = ap (λ n. drop n text) same ∙ sym rest_is in
    subst (λ (t : List ℕ). Stands (FitsFirst forms) t placed.token (drop placed.end text)) there
    (stands_at text start placed stands)

-- blanks from one place to a later one are passed over
module _ (text : List ℕ) (from at : ℕ) (order : from ≤ at)
    (blanks : list_all is_blank (slice_range text from at) ≡ true) where
  pub pass_blanks : (later : List Placed) → AreTokens text at later → AreTokens text from later
  pass_blanks [] none =
      rw (cut_rest text from at order) (blanks_join (slice_range text from at) (drop at text) blanks none)
  pass_blanks (placed ∷ later) are = (
    record {
      before = omega (arith, are.0.before);
      within = are.0.within;
      ordered = are.0.ordered;
      blanks = rw (cut text from at placed.start order are.0.before)
          (blanks_join (slice_range text from at) (slice_range text at placed.start) blanks are.0.blanks);
      fits = are.0.fits;
    },
    are.1,
  )

  -- and back, where no further blank stands there
  pub behind_blanks : begins is_blank (drop at text) ≡ false → (later : List Placed)
      → AreTokens text from later → AreTokens text at later
  behind_blanks ends [] none =
      blanks_behind (slice_range text from at) (drop at text) (rw (cut_rest text from at order) at none)
  behind_blanks ends (placed ∷ later) are =
      let there = reaches placed are.0 in (
        record {
          before = there;
          within = are.0.within;
          ordered = are.0.ordered;
          blanks = blanks_behind (slice_range text from at) (slice_range text at placed.start)
              (rw (cut text from at placed.start order there) at are.0.blanks);
          fits = are.0.fits;
        },
        are.1,
      )
    where
      reaches : (placed : Placed) → StandsFrom text from placed → at ≤ placed.start
      reaches placed stands =
          elim (cases_lt placed.start at) [
            | inl short ↦
                let all = blanks_behind (slice_range text from placed.start) (slice_range text placed.start at)
                (rw (cut text from placed.start at stands.before (omega arith)) at blanks) in
                let none = not_behind_blank (drop placed.start text) placed.token (drop placed.end text)
                (at - placed.start)
                (stands_at text from placed stands) all in
                omega arith
            | inr long ↦ long
          ]

-- what stands behind a token and the blanks there: the tokens so far and this one
module _ (text rest behind : List ℕ) (token : Token) (start end : ℕ) (start_is : start + length rest ≡ length text)
    (end_is : end + length behind ≡ length text) (rest_is : rest ≡ drop start text)
    (reads : Reads (FitsFirst forms) rest (Some (token, behind))) where
  placed : Placed
  placed = record { start = start; end = end; token = token }

  pub length_is : length rest ≡ length reads.found.lexeme + length behind
  length_is = ap length reads.found.spelled ∙ length-append reads.found.lexeme behind

  pub behind_is : behind ≡ drop end text
  behind_is =
      let long : start + length reads.found.lexeme ≡ end = omega (arith, length_is) in
      sym (drop_at reads.found.lexeme behind (length reads.found.lexeme) refl)
      ∙ ap (drop (length reads.found.lexeme)) (sym reads.found.spelled ∙ rest_is)
      ∙ drop-drop (length reads.found.lexeme) start text ∙ ap (λ n. drop n text) long

  lexeme_is : slice_range text start end ≡ reads.found.lexeme
  lexeme_is =
      let long : end - start ≡ length reads.found.lexeme = omega (arith, length_is) in
      ap (λ n. take n (drop start text)) long
      ∙ ap (take (length reads.found.lexeme)) (sym rest_is ∙ reads.found.spelled)
      ∙ take_at reads.found.lexeme behind (length reads.found.lexeme) refl

  pub stands_there : StandsFrom text start (record { start = start; end = end; token = token })
  stands_there = record {
    before = omega arith;
    within = omega arith;
    ordered = omega (arith, length_is);
    blanks = let none : start - start ≡ 0 = omega arith in rw none refl;
    fits = rw (lexeme_is, ← behind_is) reads.found.is;
  }

  -- it is the only one
  pub only_token : begins is_blank rest ≡ false → (other : Placed) → StandsFrom text start other
      → record { start = start; end = end; token = token } ≡ other
  only_token ends other stands =
      let same = one_read reads (read_there text rest start other rest_is ends stands) in
      let at : start ≡ other.start = sym (same_start text rest start other rest_is ends stands) in
      let to : end ≡ other.end = omega (arith, ap length same.1, length-drop other.end text, stands.within) in
      rw (at, to, same.0) refl
