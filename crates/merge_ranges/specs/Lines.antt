-- Which cells of an area merges cover, for one of its lines after another: a write of many cells passes these over.
-- (`merges` of Sheet in the Google Sheets API v4.)
use Rattle.std.specs.Prelude.{◌≡◌, ◌≤◌, ◌<◌, ◌+◌, ℕ, Bool, true, false, List, length, Option, Contains, IfSome, ◌&&◌, nat_lt, slice_get, slice_index_or}
use Rattle.std.specs.List.{All, list_any}
use Rattle.grid_range.specs.Area.{band_on}
use Rattle.grid_range.specs.Band.{HasLine, first_line}
use Rattle.grid_range.specs.declared.area.Area.{Area}
use Rattle.grid_range.specs.declared.axis.Axis.{Axis}
use Rattle.grid_range.specs.declared.axis.Axis.TheVariants.{Rows, Columns}
use Rattle.grid_range.specs.declared.band.Band.{Band}
use Rattle.merge_ranges.specs.Merges.{covers}
use Rattle.merge_ranges.specs.Tests.{has_line, line_count, past_line}

-- ---- what is told

-- the merge covers the cell in the line on the axis, and in the line across
abbrev pub covers_on : Axis → Area → ℕ → ℕ → Bool
covers_on Rows merge line across = covers merge line across
covers_on Columns merge line across = covers merge across line

-- the area's lines across
abbrev pub band_across : Axis → Area → Band
band_across Rows area = area.cols
band_across Columns area = area.rows

-- how many places each of the area's lines on the axis has
abbrev pub places_in : Axis → Area → ℕ
places_in axis area = line_count (band_across axis area)

-- of each line of the area on the axis which of its places one of the merges covers
abbrev pub covered_places : Axis → Area → List Area → ℕ → ℕ → Bool
covered_places axis area merges line place =
    has_line (band_on axis area) line && nat_lt place (places_in axis area)
    && list_any (λ merge. covers_on axis merge line (first_line (band_across axis area) + place)) merges

-- whose places are asked for: those of an area's lines on the axis, merges among which are all that have a cell of it,
-- and the line that was asked for last
pub record LineAsked : Type 0 where
  pub axis : Axis
  pub area : Area
  pub merges : List Area
  pub line : Option ℕ

-- which of them are covered
abbrev pub covered_of : LineAsked → ℕ → ℕ → Bool
covered_of asked = covered_places asked.axis asked.area asked.merges

-- the area has the line
abbrev pub IsLineAsked : LineAsked → ℕ → Type 0
IsLineAsked asked line = HasLine (band_on asked.axis asked.area) line

-- no later line was asked for
abbrev pub IsRising : Option ℕ → ℕ → Type 0
IsRising asked line = IfSome asked (λ last. last ≤ line)

-- for each place whether it is covered
pub record Tells (covers_place : ℕ → Bool) (count : ℕ) (told : List Bool) : Type 0 where
  pub long : length told ≡ count
  pub each : (place : ℕ) → place < count → slice_index_or told place false ≡ covers_place place

-- the line that was asked for last is told, if there is one
abbrev pub IsTold : LineAsked → List Bool → Type 0
IsTold asked told = IfSome asked.line (λ line. Tells (covered_of asked line) (places_in asked.axis asked.area) told)

-- ---- how it is kept

-- the merge's last line is that one or a later one
abbrev pub reaches : Axis → ℕ → Area → Bool
reaches axis line merge = nat_lt line (past_line (band_on axis merge))

-- the merge at that index, if there is one, begins behind the line
abbrev pub BeginsLater : Axis → List Area → ℕ → ℕ → Type 0
BeginsLater axis merges index line = IfSome (slice_get merges index) (λ merge. line < first_line (band_on axis merge))

-- of the first `taken` merges those are current that may cover a cell of the line that was asked for last, or of a
-- later one
pub record AreCurrent (axis : Axis) (merges : List Area) (taken : ℕ) (asked : Option ℕ) (current : List Area) : Type
    0 where
  pub listed : All (Contains merges) current
  pub all : (index line across : ℕ) (d : Area) → index < taken → IsRising asked line
      → covers_on axis (slice_index_or merges index d) line across ≡ true
      → Contains current (slice_index_or merges index d)
