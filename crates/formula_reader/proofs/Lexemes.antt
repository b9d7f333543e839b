-- A text as lexemes and the blanks between them, without places.
use Rattle.std.specs.Prelude.{◌≡◌, ℕ, ⊤, ◌+◌, ◌≤◌, true, false, Bool, List, [], ◌∷◌, ◌++◌, ◌==◌, ◌||◌, ◌⊎◌, not, length, pos, codes}
use Rattle.std.specs.List.{list_all, flat_map}
use Rattle.std.specs.Char.{is_ascii_digit}
use Rattle.std.specs.Str.Parse.{digits_value}
use Rattle.cell_value.specs.Limits.{largest}
use Rattle.a1_notation.specs.Quoted.{quoted}
use Rattle.a1_notation.specs.Title.{IsQuoted}
use Rattle.formula_reader.specs.declared.tokens.token.Operator.{Operator}
use Rattle.formula_reader.specs.declared.tokens.token.Operator.TheVariants.{Equal, NotEqual, Less, AtMost, Greater, AtLeast, Join, Add, Subtract, Multiply, Divide}
use Rattle.formula_reader.specs.declared.tokens.token.Placed.{Placed}
use Rattle.formula_reader.specs.declared.tokens.token.Token.{Token}
use Rattle.formula_reader.specs.declared.tokens.token.Token.TheVariants as token
use Rattle.a1_notation.specs.Run.{begins}
use Rattle.a1_notation.specs.Word.{begins_word, is_in_word}
use Rattle.formula_reader.specs.Reference.{IsPart}
use Rattle.formula_reader.specs.Form.{word_token}
use Rattle.a1_notation.specs.Class.{is_blank}
use Rattle.formula_reader.specs.Tokens.{FitsFirst, forms}

-- blanks, or the lexeme of a token
pub data Item : Type 0 where
  gap : List ℕ → Item
  lexeme : List ℕ → Token → Item

abbrev pub spelled : Item → List ℕ
spelled (gap blanks) = blanks
spelled (lexeme own token) = own

-- the text that items spell
abbrev pub spell : List Item → List ℕ
spell items = flat_map spelled items

-- each lexeme is the token that fits first before what follows, and gaps are blank
abbrev pub AreFit : List Item → Type 0
AreFit [] = ⊤
AreFit (gap blanks ∷ later) = (list_all is_blank blanks ≡ true) × AreFit later
AreFit (lexeme own token ∷ later) = FitsFirst forms own token (spell later) × AreFit later

-- the tokens, where the first item stands at a place
abbrev pub placed : ℕ → List Item → List Placed
placed at [] = []
placed at (gap blanks ∷ later) = placed (at + length blanks) later
placed at (lexeme own token ∷ later) =
    record { start = at; end = at + length own; token = token } ∷ placed (at + length own) later

-- the tokens without their places
abbrev pub tokens_in : List Item → List Token
tokens_in [] = []
tokens_in (gap blanks ∷ later) = tokens_in later
tokens_in (lexeme own token ∷ later) = token ∷ tokens_in later

-- a word: all its bytes, without what follows
pub record IsWordText (word : List ℕ) : Type 0 where
  pub first : begins begins_word word ≡ true
  pub all : list_all is_in_word word ≡ true

-- a title before a reference: in quotes, or a word as it is
abbrev pub IsTitleText : List ℕ → List ℕ → Type 0
IsTitleText text title = IsQuoted text title ⊎ (IsWordText text × (title ≡ text))

-- a title, ! (33) and a reference
pub record IsTitledText (title own : List ℕ) (Names : List ℕ → Type 0) : Type 0 where
  pub sheet : List ℕ
  pub part : List ℕ
  pub whole : own ≡ sheet ++ 33 ∷ part
  pub title_is : IsTitleText sheet title
  pub names : Names part

-- digits, and their value
pub record IsNumberText (own : List ℕ) (value : ℕ) : Type 0 where
  pub some : begins is_ascii_digit own ≡ true
  pub all : list_all is_ascii_digit own ≡ true
  pub value_is : digits_value 10 own ≡ value
  pub exact : value ≤ largest

-- the bytes of an operator
abbrev pub operator_text : Operator → List ℕ
operator_text Equal = 61 ∷ []
operator_text NotEqual = 60 ∷ 62 ∷ []
operator_text Less = 60 ∷ []
operator_text AtMost = 60 ∷ 61 ∷ []
operator_text Greater = 62 ∷ []
operator_text AtLeast = 62 ∷ 61 ∷ []
operator_text Join = 38 ∷ []
operator_text Add = 43 ∷ []
operator_text Subtract = 45 ∷ []
operator_text Multiply = 42 ∷ []
operator_text Divide = 47 ∷ []

-- the text is a lexeme of the token, whatever follows
abbrev pub IsLexeme : Token → List ℕ → Type 0
IsLexeme (token.Reference written) own = IsPart own written
IsLexeme (token.TitledReference title written) own = IsTitledText title own (λ part. IsPart part written)
IsLexeme (token.Function name) own = (own ≡ name) × IsWordText name
IsLexeme (token.Word word) own = (own ≡ word) × FitsFirst forms word (token.Word word) []
IsLexeme (token.Truth truth) own = IsWordText own × (word_token own ≡ token.Truth truth)
IsLexeme (token.Number number) own = (value : ℕ) × (number ≡ pos value) × IsNumberText own value
IsLexeme (token.Text text) own = own ≡ quoted 34 text
IsLexeme token.Lost own = own ≡ codes "#REF!"
IsLexeme (token.Operator operator) own = own ≡ operator_text operator
IsLexeme token.Open own = own ≡ 40 ∷ []
IsLexeme token.Close own = own ≡ 41 ∷ []
IsLexeme token.Comma own = own ≡ 44 ∷ []

-- a byte that ends an operand: a blank, or one of < > = + - * / & ) and ,
abbrev pub ends_operand : ℕ → Bool
ends_operand byte =
    is_blank byte || byte == 60 || byte == 62 || byte == 61 || byte == 43 || byte == 45
    || byte == 42 || byte == 47 || byte == 38 || byte == 41 || byte == 44

abbrev pub goes_on : ℕ → Bool
goes_on byte = not (ends_operand byte)

-- a byte that makes another sign of < or >: = or >
abbrev pub widens : ℕ → Bool
widens byte = byte == 61 || byte == 62

-- what follows leaves the token as it is: an operand ends, and the bracket of a function opens
abbrev pub IsBefore : Token → List ℕ → Type 0
IsBefore (token.Reference written) rest = begins goes_on rest ≡ false
IsBefore (token.TitledReference title written) rest = begins goes_on rest ≡ false
IsBefore (token.Function name) rest = begins (λ byte. byte == 40) rest ≡ true
IsBefore (token.Word word) rest = begins goes_on rest ≡ false
IsBefore (token.Truth truth) rest = begins goes_on rest ≡ false
IsBefore (token.Number number) rest = begins goes_on rest ≡ false
IsBefore (token.Text text) rest = begins goes_on rest ≡ false
IsBefore token.Lost rest = ⊤
IsBefore (token.Operator operator) rest = begins widens rest ≡ false
IsBefore token.Open rest = ⊤
IsBefore token.Close rest = ⊤
IsBefore token.Comma rest = ⊤
