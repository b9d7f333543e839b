-- What a band becomes after a change: by names, which is what it means, and by places, which is
-- what a program computes.
use Rattle.std.specs.Prelude.{◌≡◌, ℕ, ◌+◌, ◌-◌, List, Option, None, Some, MatchOption, IsSomeAnd, IfSome, Contains, slice_get, nat_le, nat_lt, ◌==◌, ◌&&◌, if◌then◌else◌}
use Rattle.std.specs.Option.{option_map}
use Rattle.grid_range.specs.NameBand.{NameBand}
use Rattle.grid_range.specs.Following.{follow}
use Rattle.grid_range.specs.OrderChange.{changed_names}
use Rattle.grid_range.specs.Stand.{StandsFrom, StandsBetween}
use Rattle.grid_range.specs.declared.area.Area.{Area}
use Rattle.grid_range.specs.declared.axis.Axis.{Axis}
use Rattle.grid_range.specs.declared.band.Band.{Band}
use Rattle.grid_range.specs.declared.band.Band.TheVariants.{Whole, From, Span}
use Rattle.grid_range.specs.declared.change.Change.{Change}
use Rattle.grid_range.specs.declared.change.Change.TheVariants.{Insert, Delete, Move}
use Rattle.grid_range.specs.Area.{band_on, with_band}
use Rattle.grid_range.specs.Band.{Within}
use Rattle.grid_range.specs.Change.{Changes, order_change, count_after}

-- the band stands at the order for the lines at its places
abbrev pub StandsFor : List ℕ → Band → NameBand → Type 0
StandsFor order Whole names = names ≡ NameBand.Whole
StandsFor order (From start) names = StandsFrom order start names
StandsFor order (Span start end) names = StandsBetween order start end names

-- the band is lost, or stands for that one
abbrev pub StandsForOption : List ℕ → Option Band → Option NameBand → Type 0
StandsForOption order band names =
    MatchOption band (names ≡ None) (λ found. IsSomeAnd names (StandsFor order found))

-- what the band stands for is followed to what `result` stands for, whatever the names are
pub record Tracks (band : Band) (count : ℕ) (change : Change) (result : Option Band) : Type 0 where
  pub followed : (order fresh after : List ℕ) (names : NameBand)
      → Changes change count order fresh after → StandsFor order band names
      → StandsForOption after result
      (follow after (changed_names (order_change change fresh) order) names)

-- what a band within `count` lines becomes is within the lines that there are then
pub record StaysWithin (band : Band) (count : ℕ) (change : Change) (result : Option Band)
    : Type 0 where
  pub found : Within band count → IfSome result (λ found. Within found (count_after change count))

-- the line at the index is at the resulting one afterwards, or is gone, whatever the names are
pub record Places (change : Change) (count index : ℕ) (result : Option ℕ) : Type 0 where
  pub stands : (order fresh after : List ℕ) (name : ℕ)
      → Changes change count order fresh after → slice_get order index ≡ Some name
      → MatchOption result (¬ (Contains after name)) (λ place. slice_get after place ≡ Some name)

-- how many of the first `line` lines are left where those from `start` to `end - 1` are gone
abbrev pub closed_up : ℕ → ℕ → ℕ → ℕ
closed_up start end line =
    if nat_le line start then line
    else if nat_le line end then start
    else line - (end - start)

-- the first line of a band, and the line past its last, where `count` lines stand before line `at`:
-- a band takes them in where they stand between two of its lines
abbrev pub start_opened : ℕ → ℕ → ℕ → ℕ
start_opened at count start = if nat_le at start then start + count else start

abbrev pub end_opened : ℕ → ℕ → ℕ → ℕ
end_opened at count end = if nat_lt at end then end + count else end

-- both after a move of the lines from `start` to `end - 1` before line `to`
abbrev pub span_moved : ℕ → ℕ → ℕ → ℕ → ℕ → ℕ × ℕ
span_moved first past start end to =
    let landing = closed_up start end to in
    if nat_le start to && nat_le to end then (first, past)
    else if nat_le start first && nat_le past end
    then (landing + (first - start), landing + (past - start))
    else if nat_le first start && nat_le end past && nat_le first to && nat_le to past
    then (first, past)
    else (
      start_opened landing (end - start) (closed_up start end first),
      end_opened landing (end - start) (closed_up start end past),
    )

abbrev pub span_after : Change → ℕ → ℕ → Option (ℕ × ℕ)
span_after (Insert at count) first past =
    Some (start_opened at count first, end_opened at count past)
span_after (Delete start end) first past =
    if nat_lt (closed_up start end first) (closed_up start end past)
    then Some (closed_up start end first, closed_up start end past)
    else None
span_after (Move start end to) first past = Some (span_moved first past start end to)

-- what `track` and `place` give
abbrev pub track_of : Band → ℕ → Change → Option Band
track_of Whole count change = Some Whole
track_of (From start) count change =
    option_map (λ span. From span.0) (span_after change start count)
track_of (Span start end) count change =
    option_map (λ span. Span span.0 span.1) (span_after change start end)

abbrev pub place_of : Change → ℕ → Option ℕ
place_of change index = option_map (λ span. span.0) (span_after change index (index + 1))

-- what an area becomes: its lines on the axis are followed, and it is lost with them; an area of
-- another sheet stays
abbrev pub area_followed : ℕ → Axis → ℕ → Change → Area → Option Area
area_followed sheet axis count change area =
    if area.sheet == sheet
    then option_map (with_band axis area) (track_of (band_on axis area) count change)
    else Some area
