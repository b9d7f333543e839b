-- The forms of tokens in a formula (Google Sheets API v4, `formulaValue`; Google Docs Editors Help, "Add
-- formulas & functions to a spreadsheet"). A text is the list of its UTF-8 bytes.
use Rattle.std.specs.Prelude.{◌≡◌, ◌≢◌, ℕ, ◌≤◌, true, false, List, ◌∷◌, ◌++◌, ◌⊎◌, pos, slice_index, if◌then◌else◌, codes}
use Rattle.std.specs.Char.{is_ascii_digit}
use Rattle.std.specs.Str.{str_eq_ignore_ascii_case}
use Rattle.std.specs.Str.Parse.{digits_value}
use Rattle.cell_value.specs.Limits.{largest}
use Rattle.a1_notation.specs.Quoted.{quoted}
use Rattle.a1_notation.specs.Title.{IsQuoted}
use Rattle.formula_reader.specs.declared.tokens.token.Token.{Token}
use Rattle.formula_reader.specs.declared.tokens.token.Token.TheVariants.{Reference, TitledReference, Function, Word, Truth, Number, Text}
use Rattle.formula_reader.specs.declared.tokens.token.MarkedArea.{MarkedArea}
use Rattle.a1_notation.specs.Run.{begins, IsRun}
use Rattle.formula_reader.specs.Reference.{IsReference}
use Rattle.a1_notation.specs.Word.{IsWord}

-- a sheet's title before a reference: in quotes, or a word as it is
abbrev pub IsTitleBefore : List ℕ → List ℕ → List ℕ → Type 0
IsTitleBefore text title rest = IsQuoted text title ⊎ (IsWord text rest × (title ≡ text))

-- ! (33) and a reference
pub record IsBehindTitle (lexeme : List ℕ) (written : MarkedArea) (rest : List ℕ) : Type 0 where
  pub part : List ℕ
  pub spelled : lexeme ≡ 33 ∷ part
  pub reference : IsReference part written rest

-- a title and such a reference
pub record IsTitled (lexeme : List ℕ) (token : Token) (rest : List ℕ) : Type 0 where
  pub sheet : List ℕ
  pub title : List ℕ
  pub behind : List ℕ
  pub written : MarkedArea
  pub spelled : lexeme ≡ sheet ++ behind
  pub title_is : IsTitleBefore sheet title (behind ++ rest)
  pub reference : IsBehindTitle behind written rest
  pub token_is : token ≡ TitledReference title written

-- a word right before ( (40)
pub record IsFunction (lexeme : List ℕ) (token : Token) (rest : List ℕ) : Type 0 where
  pub word : IsWord lexeme rest
  pub bracket : slice_index rest 0 ≡ 40
  pub token_is : token ≡ Function lexeme

-- a reference to the formula's own sheet
pub record IsOwnReference (lexeme : List ℕ) (token : Token) (rest : List ℕ) : Type 0 where
  pub written : MarkedArea
  pub reference : IsReference lexeme written rest
  pub token_is : token ≡ Reference written

-- TRUE and FALSE are truth values in any ASCII case, and another word is itself
abbrev pub word_token : List ℕ → Token
word_token word =
    if str_eq_ignore_ascii_case word (codes "TRUE") then Truth true
    else if str_eq_ignore_ascii_case word (codes "FALSE") then Truth false
    else Word word

pub record IsAnyWord (lexeme : List ℕ) (token : Token) (rest : List ℕ) : Type 0 where
  pub word : IsWord lexeme rest
  pub token_is : token ≡ word_token lexeme

-- a number: all the digits that stand there, with a value of at most 2^53
pub record IsNumber (lexeme : List ℕ) (token : Token) (rest : List ℕ) : Type 0 where
  pub some : begins is_ascii_digit lexeme ≡ true
  pub run : IsRun is_ascii_digit lexeme rest
  pub exact : digits_value 10 lexeme ≤ largest
  pub token_is : token ≡ Number (pos (digits_value 10 lexeme))

-- a text between two " (34), where a " inside is written twice, and no further " behind
pub record IsText (lexeme : List ℕ) (token : Token) (rest : List ℕ) : Type 0 where
  pub text : List ℕ
  pub spelled : lexeme ≡ quoted 34 text
  pub closed : slice_index rest 0 ≢ 34
  pub token_is : token ≡ Text text

-- the forms; a sign has one spelling
pub data Form : Type 0 where
  Titled : Form
  FunctionName : Form
  OwnReference : Form
  AnyWord : Form
  Digits : Form
  Quoted : Form
  Sign : List ℕ → Token → Form

-- the lexeme before the rest has the form, and this is its token
abbrev pub Fits : Form → List ℕ → Token → List ℕ → Type 0
Fits Titled lexeme token rest = IsTitled lexeme token rest
Fits FunctionName lexeme token rest = IsFunction lexeme token rest
Fits OwnReference lexeme token rest = IsOwnReference lexeme token rest
Fits AnyWord lexeme token rest = IsAnyWord lexeme token rest
Fits Digits lexeme token rest = IsNumber lexeme token rest
Fits Quoted lexeme token rest = IsText lexeme token rest
Fits (Sign spelling sign) lexeme token rest = (lexeme ≡ spelling) × (token ≡ sign)
