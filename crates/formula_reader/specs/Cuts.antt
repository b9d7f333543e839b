-- Where a formula text is cut into its pieces.
use Rattle.std.specs.Prelude.{ℕ, ⊤, ◌+◌, ◌≤◌, List, [], ◌∷◌}
use Rattle.std.specs.Str.{IsCharBoundary}
use Rattle.formula_reader.specs.declared.tokens.token.Placed.{Placed}
use Rattle.formula_reader.specs.Boundaries.{HasCells}

-- the text can be cut before and behind the token, which stands at `from` or later
pub record IsCut (text : List ℕ) (from : ℕ) (placed : Placed) : Type 0 where
  pub after : from ≤ placed.start + 1
  pub ordered : placed.start ≤ placed.end
  pub front : IsCharBoundary text (placed.start + 1)
  pub back : IsCharBoundary text (placed.end + 1)
  pub cells : HasCells placed.token

-- and so can it be at each of the tokens, one behind another
abbrev pub Cuts : List ℕ → ℕ → List Placed → Type 0
Cuts text from [] = ⊤
Cuts text from (placed ∷ later) = IsCut text from placed × Cuts text (placed.end + 1) later
