-- References in formulas (Google Sheets API v4, "A1 notation"): A1, A1:B2, A:B, 1:2 and A5:B, where a $
-- may stand before each column and each row.
use Rattle.std.specs.Prelude.{◌≡◌, ℕ, ◌≤◌, Bool, false, List, ◌∷◌, ◌++◌, ◌==◌, ◌||◌, ◌⊎◌, length}
use Rattle.std.specs.Char.{is_ascii_alphanumeric}
use Rattle.formula_reader.specs.declared.tokens.corner.Coordinate.{Coordinate}
use Rattle.formula_reader.specs.declared.tokens.corner.MarkedCorner.{MarkedCorner}
use Rattle.formula_reader.specs.declared.tokens.token.MarkedArea.{MarkedArea}
use Rattle.a1_notation.specs.Run.{begins}
use Rattle.formula_reader.specs.Corner.{IsMarkedCell, IsMarkedCorner, AreCornersOf, IsCellOf}

-- the text is one cell
pub record IsCell (text : List ℕ) (written : MarkedArea) : Type 0 where
  pub row : Coordinate
  pub column : Coordinate
  pub cell : IsMarkedCell text row column
  pub named : IsCellOf row column written

-- the text is two corners that go together, with : (58) between them
pub record IsTwoCorners (text : List ℕ) (written : MarkedArea) : Type 0 where
  pub first : List ℕ
  pub second : List ℕ
  pub spelled : text ≡ first ++ 58 ∷ second
  pub one : MarkedCorner
  pub other : MarkedCorner
  pub one_is : IsMarkedCorner first one
  pub other_is : IsMarkedCorner second other
  pub named : AreCornersOf one other written

abbrev pub IsPart : List ℕ → MarkedArea → Type 0
IsPart text written = IsCell text written ⊎ IsTwoCorners text written

-- a byte that doesn't stand right behind a reference: an ASCII letter, a digit, _ (95), . (46), $ (36)
-- or ! (33)
abbrev pub is_joined : ℕ → Bool
is_joined byte =
    is_ascii_alphanumeric byte || byte == 95 || byte == 46 || byte == 36 || byte == 33

-- a part that stands alone before the rest
pub record IsStandingPart (part : List ℕ) (written : MarkedArea) (rest : List ℕ) : Type 0 where
  pub part_is : IsPart part written
  pub alone : begins is_joined rest ≡ false

-- the longest part that stands alone there
pub record IsReference (part : List ℕ) (written : MarkedArea) (rest : List ℕ) : Type 0 where
  pub stands : IsStandingPart part written rest
  pub longest : (longer : List ℕ) (other : MarkedArea) (behind : List ℕ)
      → part ++ rest ≡ longer ++ behind → IsStandingPart longer other behind
      → length longer ≤ length part
