-- Bands of names: what a range of rows or columns denotes, whatever their places are.
use Rattle.std.specs.Prelude.{◌≢◌, ℕ, List, [], ⊤}
use Rattle.grid_range.specs.Order.{StandTogether, EndTheOrder}

-- all lines, for good; these lines, side by side; these lines, the last ones
pub data NameBand : Type 0 where
  Whole : NameBand
  Closed : List ℕ → NameBand
  Open : List ℕ → NameBand

-- a band of that order
abbrev pub IsBandOf : List ℕ → NameBand → Type 0
IsBandOf order Whole = ⊤
IsBandOf order (Closed names) = (names ≢ []) × StandTogether order names
IsBandOf order (Open names) = (names ≢ []) × EndTheOrder order names
