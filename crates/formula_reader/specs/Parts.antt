-- What the readers of a token's parts read, and what they need.
use Rattle.std.specs.Prelude.{◌≡◌, ℕ, Bool, false, List, ◌∷◌, ◌==◌}
use Rattle.std.specs.Char.{is_ascii_alphabetic, is_ascii_digit}
use Rattle.a1_notation.specs.Column.{IsColumn}
use Rattle.a1_notation.specs.Area.{IsRow}
use Rattle.formula_reader.specs.declared.tokens.corner.Coordinate.{Coordinate}
use Rattle.formula_reader.specs.declared.tokens.corner.MarkedCorner.{MarkedCorner}
use Rattle.formula_reader.specs.declared.tokens.token.MarkedArea.{MarkedArea}
use Rattle.a1_notation.specs.Run.{begins}
use Rattle.formula_reader.specs.Corner.{IsMarked, IsMarkedCorner, AreCornersOf}
use Rattle.formula_reader.specs.Reference.{is_joined}

-- $ (36), ' (39) and " (34)
abbrev pub is_dollar : ℕ → Bool
is_dollar byte = byte == 36

abbrev pub is_quote : ℕ → Bool
is_quote byte = byte == 39

abbrev pub is_double_quote : ℕ → Bool
is_double_quote byte = byte == 34

-- the text is the name of a column or of a row, marked or not, before a rest that doesn't go on with it
pub record IsWhole (class : ℕ → Bool) (IsName : List ℕ → ℕ → Type 0)
    (text : List ℕ) (coordinate : Coordinate) (rest : List ℕ) : Type 0 where
  pub marked : IsMarked IsName text coordinate
  pub whole : begins class rest ≡ false

-- a column with all the letters there, and a row with all the digits there
abbrev pub IsWholeColumn : List ℕ → Coordinate → List ℕ → Type 0
IsWholeColumn text column rest = IsWhole is_ascii_alphabetic (IsColumn 3) text column rest

abbrev pub IsWholeRow : List ℕ → Coordinate → List ℕ → Type 0
IsWholeRow text row rest = IsWhole is_ascii_digit IsRow text row rest

-- a corner that stands alone before the rest
pub record IsStandingCorner (text : List ℕ) (corner : MarkedCorner) (rest : List ℕ) : Type 0 where
  pub corner_is : IsMarkedCorner text corner
  pub alone : begins is_joined rest ≡ false

-- : (58) and a second corner that goes together with the first
pub record IsSecondOf (one : MarkedCorner) (lexeme : List ℕ) (written : MarkedArea) (rest : List ℕ) : Type 0 where
  pub second : List ℕ
  pub other : MarkedCorner
  pub spelled : lexeme ≡ 58 ∷ second
  pub other_is : IsStandingCorner second other rest
  pub named : AreCornersOf one other written
