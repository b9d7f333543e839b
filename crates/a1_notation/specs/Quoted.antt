-- Texts between quotes, where a quote inside is written twice.
use Rattle.std.specs.Prelude.{◌≡◌, ◌≢◌, ℕ, List, [], ◌∷◌, ◌++◌, ◌==◌, slice_index, if◌then◌else◌}
use Rattle.std.specs.List.{flat_map}

-- a byte between quotes
abbrev pub doubled : ℕ → ℕ → List ℕ
doubled quote byte = if byte == quote then quote ∷ quote ∷ [] else byte ∷ []

-- a content between quotes, with each quote in it doubled
abbrev pub quoted : ℕ → List ℕ → List ℕ
quoted quote content = quote ∷ flat_map (doubled quote) content ++ quote ∷ []

-- an opening quote and what is inside are this content in quotes, and the rest behind the closing one: no
-- further quote
pub record IsUpToQuote (quote : ℕ) (inside content rest : List ℕ) : Type 0 where
  pub parts : quote ∷ inside ≡ quoted quote content ++ rest
  pub closed : slice_index rest 0 ≢ quote
