-- What a token that fits tells of its lexeme.
use Rattle.std.proofs.Common.{rules, ◌≡◌, ◌≢◌, ℕ, ℤ, Bool, true, false, List, [], ◌∷◌, ◌++◌, refl, ap, inl, inr, ◌∙◌}
use Rattle.std.specs.Prelude.{⊤, ◌==◌, slice_index, if◌then◌else◌, codes}
use Rattle.std.specs.Char.{is_ascii_digit}
use Rattle.std.specs.Str.{str_eq_ignore_ascii_case}
use Rattle.std.proofs.lemmas.Bool.{eq-eqb}
use Rattle.formula_reader.specs.declared.tokens.token.Token.{Token}
use Rattle.formula_reader.specs.declared.tokens.token.Token.TheVariants as token
use Rattle.a1_notation.specs.Run.{begins}
use Rattle.a1_notation.specs.Word.{is_in_word, IsWord}
use Rattle.formula_reader.specs.Reference.{IsPart}
use Rattle.formula_reader.specs.Form.{IsTitleBefore, IsTitled, Form, Fits, Titled, FunctionName, OwnReference, AnyWord, Digits, Quoted, Sign, word_token}
use Rattle.formula_reader.specs.Tokens.{FitsFirst, forms}
use Rattle.formula_reader.proofs.Lexemes.{IsLexeme, IsWordText, IsTitleText, IsTitledText}

-- a token other than a word
abbrev pub IsNoWord : Token → Type 0
IsNoWord (token.Word word) = ⊥
IsNoWord other = ⊤

-- what its form tells of a token's lexeme and of the rest
abbrev IsSpelled : Token → List ℕ → List ℕ → Type 0
IsSpelled (token.Function name) own rest =
    IsLexeme (token.Function name) own × (begins (λ byte. byte == 40) rest ≡ true)
IsSpelled (token.Word word) own rest = own ≡ word
IsSpelled (token.Truth truth) own rest = IsLexeme (token.Truth truth) own × (begins is_in_word rest ≡ false)
IsSpelled (token.Number number) own rest = IsLexeme (token.Number number) own × (begins is_ascii_digit rest ≡ false)
IsSpelled (token.Text text) own rest = IsLexeme (token.Text text) own × (slice_index rest 0 ≢ 34)
IsSpelled other own rest = IsLexeme other own

word_text : (own rest : List ℕ) → IsWord own rest → IsWordText own
word_text own rest word = record { first = word.first; all = word.run.all }

bracket_first : (rest : List ℕ) → slice_index rest 0 ≡ 40 → begins (λ byte. byte == 40) rest ≡ true
bracket_first [] is = absurd cc
bracket_first (b ∷ rest) is = eq-eqb b 40 is

-- a word is a truth value or itself
word_spelled : (own rest : List ℕ) → IsWordText own → begins is_in_word rest ≡ false
    → IsSpelled (word_token own) own rest
word_spelled own rest word ends =
    either (str_eq_ignore_ascii_case own (codes "TRUE"))
    (str_eq_ignore_ascii_case own (codes "FALSE")) refl
  where
    either : (a b : Bool)
        → word_token own ≡ (if a then token.Truth true else if b then token.Truth false else token.Word own)
        → IsSpelled (if a then token.Truth true else if b then token.Truth false else token.Word own) own rest
    either true b is = ((word, is), ends)
    either false true is = ((word, is), ends)
    either false false is = refl

-- a title, and a reference behind it
title_text : (sheet title behind : List ℕ) → IsTitleBefore sheet title behind → IsTitleText sheet title
title_text sheet title behind (inl quoted) = inl quoted
title_text sheet title behind (inr named) = inr (word_text sheet behind named.0, named.1)

titled_text : (own : List ℕ) (token : Token) (rest : List ℕ) (fits : IsTitled own token rest)
    → IsTitledText fits.title own (λ part. IsPart part fits.written)
titled_text own token rest fits = record {
  sheet = fits.sheet;
  part = fits.reference.part;
  whole = fits.spelled ∙ ap (λ t. fits.sheet ++ t) fits.reference.spelled;
  title_is = title_text fits.sheet fits.title (fits.behind ++ rest) fits.title_is;
  names = fits.reference.reference.stands.part_is;
}

-- a sign's token has its spelling
abbrev IsSpelledSign : Form → List ℕ → Type 0
IsSpelledSign (Sign spelling sign) rest = IsSpelled sign spelling rest
IsSpelledSign other rest = ⊤

fits_spelled : (form : Form) (own : List ℕ) (token : Token) (rest : List ℕ) → IsSpelledSign form rest
    → Fits form own token rest → IsSpelled token own rest
fits_spelled Titled own token rest sign fits = rw fits.token_is (titled_text own token rest fits)
fits_spelled FunctionName own token rest sign fits =
    rw fits.token_is ((refl, word_text own rest fits.word), bracket_first rest fits.bracket)
fits_spelled OwnReference own token rest sign fits = rw fits.token_is fits.reference.stands.part_is
fits_spelled AnyWord own token rest sign fits =
    rw fits.token_is (word_spelled own rest (word_text own rest fits.word) fits.word.run.ends)
fits_spelled Digits own token rest sign fits =
    rw fits.token_is
    ((_, refl, record { some = fits.some; all = fits.run.all; value_is = refl; exact = fits.exact }), fits.run.ends)
fits_spelled Quoted own token rest sign fits = rw fits.token_is (fits.spelled, fits.closed)
fits_spelled (Sign spelling sign) own token rest spelled fits = rw (fits.0, fits.1) spelled

-- and so has each of these forms
abbrev AreSpelledSigns : List Form → List ℕ → Type 0
AreSpelledSigns [] rest = ⊤
AreSpelledSigns (form ∷ later) rest = IsSpelledSign form rest × AreSpelledSigns later rest

first_spelled : (tried : List Form) (own : List ℕ) (token : Token) (rest : List ℕ) → AreSpelledSigns tried rest
    → FitsFirst tried own token rest → IsSpelled token own rest
first_spelled [] own token rest signs fits = absurd fits
first_spelled (form ∷ later) own token rest signs (inl fits) = fits_spelled form own token rest signs.0 fits
first_spelled (form ∷ later) own token rest signs (inr fits) = first_spelled later own token rest signs.1 fits.1

token_spelled : (own : List ℕ) (token : Token) (rest : List ℕ) → FitsFirst forms own token rest
    → IsSpelled token own rest
token_spelled own token rest fits = first_spelled forms own token rest (search rules) fits

own_lexeme : (token : Token) (own rest : List ℕ) → IsNoWord token → IsSpelled token own rest → IsLexeme token own
own_lexeme (token.Function name) own rest no_word spelled = spelled.0
own_lexeme (token.Word word) own rest no_word spelled = absurd no_word
own_lexeme (token.Truth truth) own rest no_word spelled = spelled.0
own_lexeme (token.Number number) own rest no_word spelled = spelled.0
own_lexeme (token.Text text) own rest no_word spelled = spelled.0
own_lexeme other own rest no_word spelled = spelled

-- a token other than a word has its lexeme, whatever follows
pub lexeme_of : (own : List ℕ) (token : Token) (rest : List ℕ) → IsNoWord token → FitsFirst forms own token rest
    → IsLexeme token own
lexeme_of own token rest no_word fits = own_lexeme token own rest no_word (token_spelled own token rest fits)

-- ( (40) stands behind the name of a function
pub bracket_behind : (own name rest : List ℕ) → FitsFirst forms own (token.Function name) rest
    → begins (λ byte. byte == 40) rest ≡ true
bracket_behind own name rest fits = (token_spelled own (token.Function name) rest fits).1

-- a word is its own lexeme
pub word_is : (own word rest : List ℕ) → FitsFirst forms own (token.Word word) rest → own ≡ word
word_is own word rest fits = token_spelled own (token.Word word) rest fits

-- no further byte of a word stands behind a truth value, no further digit behind a number, and no quote behind a text
pub word_ends : (own rest : List ℕ) (truth : Bool) → FitsFirst forms own (token.Truth truth) rest
    → begins is_in_word rest ≡ false
word_ends own rest truth fits = (token_spelled own (token.Truth truth) rest fits).1

pub digits_end : (own rest : List ℕ) (number : ℤ) → FitsFirst forms own (token.Number number) rest
    → begins is_ascii_digit rest ≡ false
digits_end own rest number fits = (token_spelled own (token.Number number) rest fits).1

pub quotes_end : (own rest text : List ℕ) → FitsFirst forms own (token.Text text) rest → slice_index rest 0 ≢ 34
quotes_end own rest text fits = (token_spelled own (token.Text text) rest fits).1
