-- The ids that new things get, as `namedRangeId`, `protectedRangeId` and `metadataId` of the Google
-- Sheets API v4: the one that is asked for, or else one that isn't used.
use Rattle.std.specs.Prelude.{ℕ, ◌≡◌, ◌≤◌, ◌<◌, Bool, true, false, Option, None, Some}
use Rattle.std.specs.Option.{option_map_or}

-- an id that is asked for is used
abbrev pub is_taken : {A : Type 0} → (A → Bool) → Option A → Bool
is_taken is_used asked = option_map_or is_used asked false

-- the least number from 1 on that isn't used
pub record IsLeastUnused (is_used : ℕ → Bool) (number : ℕ) : Type 0 where
  pub positive : 1 ≤ number
  pub unused : is_used number ≡ false
  pub least : (lesser : ℕ) → 1 ≤ lesser → lesser < number → is_used lesser ≡ true

-- a new id is the one that is asked for, or else one that is chosen
abbrev pub IsNewId : {A : Type 0} → (A → Type 0) → Option A → A → Type 0
IsNewId IsChosen (Some asked) id = id ≡ asked
IsNewId IsChosen None id = IsChosen id
