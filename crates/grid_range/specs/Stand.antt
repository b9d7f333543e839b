-- When places stand for a band of names at an order.
use Rattle.std.specs.Prelude.{◌≡◌, ℕ, ◌<◌, ◌≤◌, List, length, drop, slice_range}
use Rattle.grid_range.specs.NameBand.{NameBand}
use Rattle.grid_range.specs.NameBand.NameBand.{Closed, Open}

-- the line at `start` and all behind it
abbrev pub StandsFrom : List ℕ → ℕ → NameBand → Type 0
StandsFrom order start band = (start < length order) × (band ≡ Open (drop start order))

-- the lines from `start` to the one before `end`
abbrev pub StandsBetween : List ℕ → ℕ → ℕ → NameBand → Type 0
StandsBetween order start end band =
    (start < end) × (end ≤ length order) × (band ≡ Closed (slice_range order start end))
