-- Orders of lines, which are this project's own model: the rows, or the columns, of a sheet from
-- the first on, each by a name that it keeps wherever it goes. Names are numbers, and only
-- definitions see them: a program has places.
use Rattle.std.specs.Prelude.{◌≡◌, ◌≢◌, ◌≤◌, ℕ, Bool, List, [], ◌∷◌, ◌++◌, Some, cond, slice_get, ◌==◌}
use Rattle.std.specs.List.{AllPairs, list_any}

-- no name twice
abbrev pub IsOrder : List ℕ → Type 0
IsOrder order = AllPairs (λ a b. a ≢ b) order

-- whether the name is one of those
abbrev pub is_among : List ℕ → ℕ → Bool
is_among names name = list_any (λ n. n == name) names

-- the names stand side by side in the order, in its order
abbrev pub StandTogether : List ℕ → List ℕ → Type 0
StandTogether order names =
    (before : List ℕ) × (behind : List ℕ) × (order ≡ before ++ names ++ behind)

-- the names are the last ones of the order, in its order
abbrev pub EndTheOrder : List ℕ → List ℕ → Type 0
EndTheOrder order names = (before : List ℕ) × (order ≡ before ++ names)

-- the list from the first element on that passes the test
abbrev pub from_first : (ℕ → Bool) → List ℕ → List ℕ
from_first test [] = []
from_first test (x ∷ xs) = cond (test x) (x ∷ xs) (from_first test xs)

-- the list up to the last element that passes the test
abbrev pub to_last : (ℕ → Bool) → List ℕ → List ℕ
to_last test [] = []
to_last test (x ∷ xs) = cond (list_any test (x ∷ xs)) (x ∷ to_last test xs) []

-- all lines from the first of the names to the last of them
abbrev pub first_to_last : List ℕ → List ℕ → List ℕ
first_to_last order names = to_last (is_among names) (from_first (is_among names) order)

-- all lines from the first of the names to the end
abbrev pub first_to_end : List ℕ → List ℕ → List ℕ
first_to_end order names = from_first (is_among names) order

-- the first place of the order at which there is such a line
pub record IsFirstPlace (order : List ℕ) (IsSuch : ℕ → Type 0) (place : ℕ) : Type 0 where
  pub name : ℕ
  pub here : slice_get order place ≡ Some name
  pub such : IsSuch name
  pub first : (other line : ℕ) → slice_get order other ≡ Some line → IsSuch line → place ≤ other

-- the last one
pub record IsLastPlace (order : List ℕ) (IsSuch : ℕ → Type 0) (place : ℕ) : Type 0 where
  pub name : ℕ
  pub here : slice_get order place ≡ Some name
  pub such : IsSuch name
  pub last : (other line : ℕ) → slice_get order other ≡ Some line → IsSuch line → other ≤ place
