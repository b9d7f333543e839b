-- Which moves take the lines of a band apart: those after which the lines don't stand side by side
-- in their old order. (moveDimension of the Google Sheets API v4.)
use Rattle.std.specs.Prelude.{ℕ, Bool, false, not, ◌&&◌, ◌||◌, List, nat_le, slice_range, ⊤}
use Rattle.grid_range.specs.declared.band.Band.{Band}
use Rattle.grid_range.specs.declared.change.Change.{Change}
use Rattle.grid_range.specs.declared.change.Change.TheVariants.{Insert, Delete, Move}
use Rattle.grid_range.specs.Band.{first_line, end_line}
use Rattle.grid_range.specs.Change.{Changes}
use Rattle.grid_range.specs.Order.{StandTogether}

abbrev pub IsMove : Change → Type 0
IsMove (Insert at inserted) = ⊥
IsMove (Delete start end) = ⊥
IsMove (Move start end to) = ⊤

-- whatever the names of `count` lines are, those of the band stand side by side in their old order
-- after the change
pub record StaysWhole (change : Change) (count : ℕ) (band : Band) : Type 0 where
  pub stands : (order fresh after : List ℕ) → Changes change count order fresh after
      → StandTogether after (slice_range order (first_line band) (end_line band count))

-- whatever they are, those don't after this move
pub record IsTorn (change : Change) (count : ℕ) (band : Band) : Type 0 where
  pub move : IsMove change
  pub torn : (order fresh after : List ℕ) → Changes change count order fresh after
      → ¬ (StandTogether after (slice_range order (first_line band) (end_line band count)))

-- a move of the lines from `start` to `end - 1` before line `to` leaves those from `first` to
-- `past - 1` side by side in their old order: it moves nothing, all of them, or none of them and to
-- no place between two of them
abbrev pub keeps_whole : ℕ → ℕ → ℕ → ℕ → ℕ → Bool
keeps_whole start end to first past =
    (nat_le start to && nat_le to end)
    || (nat_le start first && nat_le past end)
    || ((nat_le past start || nat_le end first) && (nat_le to first || nat_le past to))

abbrev pub tears : Change → ℕ → ℕ → Bool
tears (Insert at inserted) first past = false
tears (Delete start end) first past = false
tears (Move start end to) first past = not (keeps_whole start end to first past)
