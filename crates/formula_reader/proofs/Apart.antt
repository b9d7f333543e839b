-- In a formula with a tree each lexeme is read as it is alone, since what follows leaves it so.
use Rattle.std.proofs.Common.{◌≡◌, ℕ, Bool, true, false, List, [], ◌∷◌, ◌++◌, map, refl, arith, subst, append_assoc, inl, inr}
use Rattle.std.specs.Prelude.{⊤, Some, ◌==◌}
use Rattle.std.specs.Char.{is_ascii_digit}
use Rattle.std.specs.List.{list_all}
use Rattle.std.proofs.lemmas.Bool.{and_parts}
use Rattle.std.proofs.lemmas.Bool.Decides.{nat_tests}
use Rattle.std.proofs.lemmas.Option.{none-some}
use Rattle.formula_reader.specs.declared.tokens.token.Operator.{Operator}
use Rattle.formula_reader.specs.declared.tokens.token.Operator.TheVariants.{Equal, NotEqual, Less, AtMost, Greater, AtLeast, Join, Add, Subtract, Multiply, Divide}
use Rattle.formula_reader.specs.declared.tokens.token.Token.{Token}
use Rattle.formula_reader.specs.declared.tokens.token.Token.TheVariants as token
use Rattle.formula_reader.specs.declared.tokens.token.MarkedArea.{MarkedArea}
use Rattle.a1_notation.specs.Run.{begins}
use Rattle.a1_notation.specs.Word.{begins_word}
use Rattle.formula_reader.specs.Reference.{IsPart}
use Rattle.a1_notation.specs.Class.{is_blank}
use Rattle.formula_reader.proofs.Starts.{starts_reference, begins-front, part_starts}
use Rattle.formula_reader.proofs.WordsAgain.{own_word}
use Rattle.formula_reader.proofs.LexemesAgain.{fits_again}
use Rattle.formula_reader.proofs.Lexemes.{Item, gap, lexeme, spell, AreFit, tokens_in, IsWordText, IsTitleText, IsTitledText, operator_text, IsLexeme, goes_on, widens, IsBefore}
use Rattle.formula_reader.proofs.Neighbours.{Kind, operand, sign, kind_of_token, State, before_operand, behind_operand, behind_name, behind_sign, step, Leads, leads_behind}

-- the bracket of a function stands right behind its name
abbrev pub OpensBehind : Token → List ℕ → Type 0
OpensBehind own text = (name : List ℕ) → own ≡ token.Function name → begins (λ byte. byte == 40) text ≡ true

-- gaps are blank, and lexemes are those of their tokens
abbrev pub AreLexemes : List Item → Type 0
AreLexemes [] = ⊤
AreLexemes (gap blanks ∷ later) = (list_all is_blank blanks ≡ true) × AreLexemes later
AreLexemes (lexeme own token ∷ later) = IsLexeme token own × OpensBehind token (spell later) × AreLexemes later

-- a text that may stand in that state: behind an operand one that ends it, and before one nothing that
-- makes another sign of the one before
abbrev pub StandsIn : State → List ℕ → Type 0
StandsIn before_operand text = begins widens text ≡ false
StandsIn behind_operand text = begins goes_on text ≡ false
StandsIn behind_name text = ⊤

-- blanks may stand everywhere
blank_ends : (b : ℕ) → is_blank b ≡ true → goes_on b ≡ false
blank_ends b blank = grind (arith, nat_tests)

blank_no_sign : (b : ℕ) → is_blank b ≡ true → widens b ≡ false
blank_no_sign b blank = grind (arith, nat_tests)

blank_stands : (a : State) (b : ℕ) (text : List ℕ) → is_blank b ≡ true → StandsIn a (b ∷ text)
blank_stands before_operand b text blank = blank_no_sign b blank
blank_stands behind_operand b text blank = blank_ends b blank
blank_stands behind_name b text blank = tt

-- no operand begins with = or >
begins_no_sign : (class : ℕ → Bool) → ((b : ℕ) → class b ≡ true → widens b ≡ false) → (text : List ℕ)
    → begins class text ≡ true → begins widens text ≡ false
begins_no_sign class none [] is = refl
begins_no_sign class none (b ∷ text) is = none b is

reference_no_sign : (b : ℕ) → starts_reference b ≡ true → widens b ≡ false
reference_no_sign b is = grind (arith, nat_tests)

word_no_sign : (b : ℕ) → begins_word b ≡ true → widens b ≡ false
word_no_sign b is = grind (arith, nat_tests)

digit_no_sign : (b : ℕ) → is_ascii_digit b ≡ true → widens b ≡ false
digit_no_sign b is = grind (arith, nat_tests)

part_no_sign : (own rest : List ℕ) (written : MarkedArea) → IsPart own written → begins widens (own ++ rest) ≡ false
part_no_sign own rest written is =
    begins_no_sign starts_reference reference_no_sign (own ++ rest) (part_starts own written rest is)

word_text_no_sign : (own rest : List ℕ) → IsWordText own → begins widens (own ++ rest) ≡ false
word_text_no_sign own rest is =
    begins_no_sign begins_word word_no_sign (own ++ rest) (begins-front begins_word own rest is.first)

title_no_sign : (sheet title rest : List ℕ) → IsTitleText sheet title → begins widens (sheet ++ rest) ≡ false
title_no_sign sheet title rest (inl quoted) = rw quoted.spelled refl
title_no_sign sheet title rest (inr word) = word_text_no_sign sheet rest word.0

titled_no_sign : (title own rest : List ℕ) (written : MarkedArea) → IsTitledText title own (λ part. IsPart part written)
    → begins widens (own ++ rest) ≡ false
titled_no_sign title own rest written is =
    rw (is.whole, append_assoc is.sheet (33 ∷ is.part) rest)
    (title_no_sign is.sheet title (33 ∷ is.part ++ rest) is.title_is)

-- a sign before an operand is + or -
sign_before : (c : State) (operator : Operator) → behind_sign operator ≡ Some c
    → (c ≡ before_operand) × ((rest : List ℕ) → begins widens (operator_text operator ++ rest) ≡ false)
sign_before c Equal goes = absurd (none-some c goes)
sign_before c NotEqual goes = absurd (none-some c goes)
sign_before c Less goes = absurd (none-some c goes)
sign_before c AtMost goes = absurd (none-some c goes)
sign_before c Greater goes = absurd (none-some c goes)
sign_before c AtLeast goes = absurd (none-some c goes)
sign_before c Join goes = absurd (none-some c goes)
sign_before c Add goes = (cc, λ rest. refl)
sign_before c Subtract goes = (cc, λ rest. refl)
sign_before c Multiply goes = absurd (none-some c goes)
sign_before c Divide goes = absurd (none-some c goes)

-- a lexeme that stands before an operand
lexeme_before : (c : State) (token : Token) (own rest : List ℕ) → IsLexeme token own
    → step before_operand (kind_of_token token) ≡ Some c → begins widens (own ++ rest) ≡ false
lexeme_before c (token.Reference written) own rest is goes = part_no_sign own rest written is
lexeme_before c (token.TitledReference title written) own rest is goes = titled_no_sign title own rest written is
lexeme_before c (token.Function name) own rest is goes = rw is.0 (word_text_no_sign name rest is.1)
lexeme_before c (token.Word word) own rest is goes = rw is.0 (word_text_no_sign word rest (own_word word [] is.1))
lexeme_before c (token.Truth truth) own rest is goes = word_text_no_sign own rest is.0
lexeme_before c (token.Number number) own rest is goes =
    begins_no_sign is_ascii_digit digit_no_sign (own ++ rest) (begins-front is_ascii_digit own rest is.2.some)
lexeme_before c (token.Text text) own rest is goes = rw is refl
lexeme_before c token.Lost own rest is goes = rw is refl
lexeme_before c (token.Operator operator) own rest is goes = rw is ((sign_before c operator goes).1 rest)
lexeme_before c token.Open own rest is goes = rw is refl
lexeme_before c token.Close own rest is goes = rw is refl
lexeme_before c token.Comma own rest is goes = absurd (none-some c goes)

operator_behind : (operator : Operator) (rest : List ℕ) → begins goes_on (operator_text operator ++ rest) ≡ false
operator_behind Equal rest = refl
operator_behind NotEqual rest = refl
operator_behind Less rest = refl
operator_behind AtMost rest = refl
operator_behind Greater rest = refl
operator_behind AtLeast rest = refl
operator_behind Join rest = refl
operator_behind Add rest = refl
operator_behind Subtract rest = refl
operator_behind Multiply rest = refl
operator_behind Divide rest = refl

-- a lexeme that stands behind an operand
lexeme_behind : (c : State) (token : Token) (own rest : List ℕ) → IsLexeme token own
    → step behind_operand (kind_of_token token) ≡ Some c → begins goes_on (own ++ rest) ≡ false
lexeme_behind c (token.Reference written) own rest is goes = absurd (none-some c goes)
lexeme_behind c (token.TitledReference title written) own rest is goes = absurd (none-some c goes)
lexeme_behind c (token.Function name) own rest is goes = absurd (none-some c goes)
lexeme_behind c (token.Word word) own rest is goes = absurd (none-some c goes)
lexeme_behind c (token.Truth truth) own rest is goes = absurd (none-some c goes)
lexeme_behind c (token.Number number) own rest is goes = absurd (none-some c goes)
lexeme_behind c (token.Text text) own rest is goes = absurd (none-some c goes)
lexeme_behind c token.Lost own rest is goes = absurd (none-some c goes)
lexeme_behind c (token.Operator operator) own rest is goes = rw is (operator_behind operator rest)
lexeme_behind c token.Open own rest is goes = absurd (none-some c goes)
lexeme_behind c token.Close own rest is goes = rw is refl
lexeme_behind c token.Comma own rest is goes = rw is refl

lexeme_stands : (a c : State) (token : Token) (own rest : List ℕ) → IsLexeme token own
    → step a (kind_of_token token) ≡ Some c → StandsIn a (own ++ rest)
lexeme_stands before_operand c token own rest is goes = lexeme_before c token own rest is goes
lexeme_stands behind_operand c token own rest is goes = lexeme_behind c token own rest is goes
lexeme_stands behind_name c token own rest is goes = tt

abbrev kinds_in : List Item → List Kind
kinds_in items = map kind_of_token (tokens_in items)

nothing_stands : (a : State) → StandsIn a []
nothing_stands before_operand = refl
nothing_stands behind_operand = refl
nothing_stands behind_name = tt

-- so the text of items that lead on from a state may stand there
pub items_stand : (items : List Item) (a b : State) → AreLexemes items → Leads a (kinds_in items) b
    → StandsIn a (spell items)
items_stand [] a b are leads = nothing_stands a
items_stand (gap [] ∷ later) a b are leads = items_stand later a b are.1 leads
items_stand (gap (blank ∷ blanks) ∷ later) a b are leads =
    blank_stands a blank (blanks ++ spell later) (and_parts (is_blank blank) (list_all is_blank blanks) are.0).0
items_stand (lexeme own token ∷ later) a b are leads =
    lexeme_stands a leads.0 token own (spell later) are.0 leads.1

-- what may stand behind a lexeme leaves it as it is
operand_ends : (a c : State) (names : Bool) (rest : List ℕ) → step a (operand names) ≡ Some c → StandsIn c rest
    → begins goes_on rest ≡ false
operand_ends a c names rest goes stands =
    subst (λ (b : State). StandsIn b rest) (leads_behind a c names goes) stands

sign_ends : (a c : State) (operator : Operator) (rest : List ℕ) → step a (sign operator) ≡ Some c → StandsIn c rest
    → begins widens rest ≡ false
sign_ends before_operand c operator rest goes stands =
    subst (λ s. StandsIn s rest) (sign_before c operator goes).0 stands
sign_ends behind_operand c operator rest goes stands =
    let same : c ≡ before_operand = cc in
    subst (λ s. StandsIn s rest) same stands
sign_ends behind_name c operator rest goes stands = absurd (none-some c goes)

left_alone : (a c : State) (token : Token) (rest : List ℕ) → step a (kind_of_token token) ≡ Some c
    → OpensBehind token rest → StandsIn c rest → IsBefore token rest
left_alone a c (token.Reference written) rest goes opens stands = operand_ends a c _ rest goes stands
left_alone a c (token.TitledReference title written) rest goes opens stands = operand_ends a c _ rest goes stands
left_alone a c (token.Function name) rest goes opens stands = opens name refl
left_alone a c (token.Word word) rest goes opens stands = operand_ends a c _ rest goes stands
left_alone a c (token.Truth truth) rest goes opens stands = operand_ends a c _ rest goes stands
left_alone a c (token.Number number) rest goes opens stands = operand_ends a c _ rest goes stands
left_alone a c (token.Text text) rest goes opens stands = operand_ends a c _ rest goes stands
left_alone a c token.Lost rest goes opens stands = tt
left_alone a c (token.Operator operator) rest goes opens stands = sign_ends a c operator rest goes stands
left_alone a c token.Open rest goes opens stands = tt
left_alone a c token.Close rest goes opens stands = tt
left_alone a c token.Comma rest goes opens stands = tt

pub items_fit : (items : List Item) (a b : State) → AreLexemes items → Leads a (kinds_in items) b → AreFit items
items_fit [] a b are leads = tt
items_fit (gap blanks ∷ later) a b are leads = (are.0, items_fit later a b are.1 leads)
items_fit (lexeme own token ∷ later) a b are leads = (
  fits_again token own (spell later) are.0
      (left_alone a leads.0 token (spell later) leads.1 are.1 (items_stand later leads.0 b are.2 leads.2)),
  items_fit later leads.0 b are.2 leads.2,
)
