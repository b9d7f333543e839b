-- The tokens of a formula text behind its =.
use Rattle.std.specs.Prelude.{◌≡◌, ℕ, ◌≤◌, List, [], ◌∷◌, ◌++◌, ◌⊎◌, length, drop, slice_range, IsTrue, codes}
use Rattle.std.specs.List.{list_all}
use Rattle.a1_notation.specs.Class.{is_blank}
use Rattle.formula_reader.specs.declared.tokens.token.Operator.TheVariants.{Equal, NotEqual, Less, AtMost, Greater, AtLeast, Join, Add, Subtract, Multiply, Divide}
use Rattle.formula_reader.specs.declared.tokens.token.Placed.{Placed}
use Rattle.formula_reader.specs.declared.tokens.token.Token.{Token}
use Rattle.formula_reader.specs.declared.tokens.token.Token.TheVariants.{Lost, Operator, Open, Close, Comma}
use Rattle.formula_reader.specs.Form.{Form, Fits, Titled, FunctionName, OwnReference, AnyWord, Digits, Quoted, Sign}

-- the signs, in the order in which they are tried
abbrev pub signs : List Form
signs =
    Sign (codes "#REF!") Lost
    ∷ Sign (codes "<>") (Operator NotEqual)
    ∷ Sign (codes "<=") (Operator AtMost)
    ∷ Sign (codes ">=") (Operator AtLeast)
    ∷ Sign (codes "<") (Operator Less)
    ∷ Sign (codes ">") (Operator Greater)
    ∷ Sign (codes "=") (Operator Equal)
    ∷ Sign (codes "+") (Operator Add)
    ∷ Sign (codes "-") (Operator Subtract)
    ∷ Sign (codes "*") (Operator Multiply)
    ∷ Sign (codes "/") (Operator Divide)
    ∷ Sign (codes "&") (Operator Join)
    ∷ Sign (codes "(") Open
    ∷ Sign (codes ")") Close
    ∷ Sign (codes ",") Comma ∷ []

-- the forms in the order in which they are tried
abbrev pub forms : List Form
forms = Titled ∷ FunctionName ∷ OwnReference ∷ AnyWord ∷ Digits ∷ Quoted ∷ signs

-- the text begins with nothing of the form
abbrev pub FitsNowhere : Form → List ℕ → Type 0
FitsNowhere form text = (lexeme : List ℕ) (token : Token) (rest : List ℕ)
    → text ≡ lexeme ++ rest → ¬ (Fits form lexeme token rest)

-- the lexeme before the rest has the first of these forms that anything there has
abbrev pub FitsFirst : List Form → List ℕ → Token → List ℕ → Type 0
FitsFirst [] lexeme token rest = ⊥
FitsFirst (form ∷ later) lexeme token rest =
    Fits form lexeme token rest
    ⊎ (FitsNowhere form (lexeme ++ rest) × FitsFirst later lexeme token rest)

-- the token stands there in the text: blanks at most lie between `from` and it
pub record StandsFrom (text : List ℕ) (from : ℕ) (placed : Placed) : Type 0 where
  pub before : from ≤ placed.start
  pub within : placed.end ≤ length text
  pub ordered : placed.start ≤ placed.end
  pub blanks : IsTrue (list_all is_blank (slice_range text from placed.start))
  pub fits : FitsFirst forms (slice_range text placed.start placed.end) placed.token (drop placed.end text)

-- these are the tokens of the text from a byte on, in its order, and blanks at most lie behind the last
abbrev pub AreTokens : List ℕ → ℕ → List Placed → Type 0
AreTokens text from [] = IsTrue (list_all is_blank (drop from text))
AreTokens text from (placed ∷ later) =
    StandsFrom text from placed × AreTokens text placed.end later
