-- An answer that is told apart from all others.
use Rattle.std.specs.Prelude.{◌≡◌, Option, Some, None}

-- the answer is the only one that there is, and None where there is none
abbrev pub IsOnly : {A : Type 0} → (A → Type 0) → Option A → Type 0
IsOnly P None = (a : _) → P a → ⊥
IsOnly P (Some answer) = P answer × ((a : _) → P a → a ≡ answer)
