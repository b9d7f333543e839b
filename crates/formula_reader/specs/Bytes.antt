-- What stands in a formula's text for its pieces.
use Rattle.std.specs.Prelude.{◌≡◌, ℕ, List, [], ◌∷◌, ◌++◌, ◌⊎◌, codes}
use Rattle.ref_rewrite.specs.declared.pieces.Piece.{Piece}
use Rattle.ref_rewrite.specs.declared.pieces.Piece.TheVariants as piece
use Rattle.formula_reader.specs.declared.tokens.token.Token.TheVariants as token
use Rattle.formula_reader.specs.declared.tokens.token.MarkedArea.{MarkedArea}
use Rattle.formula_reader.specs.Tokens.{FitsFirst, forms}

-- a text alone is a reference, to the formula's own sheet or behind a title
abbrev pub IsReferenceText : List ℕ → Type 0
IsReferenceText own =
    ((written : MarkedArea) × FitsFirst forms own (token.Reference written) [])
    ⊎ ((title : List ℕ) × (written : MarkedArea) × FitsFirst forms own (token.TitledReference title written) [])

-- what stands for a lost reference: such a text, or #REF!
abbrev pub IsLostText : List ℕ → Type 0
IsLostText own = IsReferenceText own ⊎ (own ≡ codes "#REF!")

-- the text has these pieces, one behind another: texts and words as they are, and a reference's text
-- for a reference
abbrev pub Spells : List ℕ → List Piece → Type 0
Spells text [] = text ≡ []
Spells text (piece.Text own ∷ later) = (rest : List ℕ) × (text ≡ own ++ rest) × Spells rest later
Spells text (piece.Word word ∷ later) = (rest : List ℕ) × (text ≡ word ++ rest) × Spells rest later
Spells text (piece.Ref reference ∷ later) =
    (own rest : List ℕ) × (text ≡ own ++ rest) × IsReferenceText own × Spells rest later
Spells text (piece.Lost ∷ later) =
    (own rest : List ℕ) × (text ≡ own ++ rest) × IsLostText own × Spells rest later
