-- How often a device outside the program failed, or found no memory: a count of 64 bits.
use Rattle.std.specs.Prelude.{◌≡◌, ℕ, ◌<◌, ◌⊎◌, Bool, IsTrue}

-- the last value of a count, which stands still there
abbrev pub last_count : ℕ
last_count = 18446744073709551615

-- a count rose: it is greater than before, or stands at its last value
abbrev pub Rose : ℕ → ℕ → Type 0
Rose before after = (before < after) ⊎ (after ≡ last_count)

-- a steady device stays steady, and its count doesn't rise
abbrev pub StaysSteady : Bool → Bool → ℕ → ℕ → Type 0
StaysSteady steady steady_after count count_after =
    IsTrue steady → IsTrue steady_after × (count_after ≡ count)
