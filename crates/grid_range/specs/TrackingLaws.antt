-- What the contracts of `track` and `place` say on names: they hold of the numbers that the calls
-- give, whatever a caller knows, and of no others. And what these numbers never do.
use Rattle.std.specs.Prelude.{◌≡◌, ℕ, ◌<◌, ◌⊎◌, ◌↔◌, true, Option, Some, IfSome}
use Rattle.grid_range.specs.declared.area.Area.{Area}
use Rattle.grid_range.specs.declared.axis.Axis.{Axis}
use Rattle.grid_range.specs.declared.band.Band.{Band}
use Rattle.grid_range.specs.declared.band.Band.TheVariants.{Span}
use Rattle.grid_range.specs.declared.change.Change.{Change}
use Rattle.grid_range.specs.Area.{IsWithinOn}
use Rattle.grid_range.specs.Band.{Within, ShareLine, first_line, end_line}
use Rattle.grid_range.specs.Change.{Fits, count_after}
use Rattle.grid_range.specs.Tearing.{IsMove, IsTorn, StaysWhole, tears}
use Rattle.grid_range.specs.Tracking.{Tracks, Places, track_of, place_of, area_followed}

-- every band is tracked
abbrev pub TracksAll : Type 0
TracksAll = (band : Band) (count : ℕ) (change : Change) → Fits change count → Within band count
    → Tracks band count change (track_of band count change)

-- and its lines determine the answer
abbrev pub TracksExactly : Type 0
TracksExactly = (band : Band) (count : ℕ) (change : Change) (one other : Option Band)
    → Fits change count → Within band count
    → Tracks band count change one → Tracks band count change other → one ≡ other

-- every line has its place, or is gone
abbrev pub PlacesAll : Type 0
PlacesAll = (change : Change) (count index : ℕ) → Fits change count → index < count
    → Places change count index (place_of change index)

-- and its name determines the answer
abbrev pub PlacesExactly : Type 0
PlacesExactly = (change : Change) (count index : ℕ) (one other : Option ℕ)
    → Fits change count → index < count
    → Places change count index one → Places change count index other → one ≡ other

-- what a band becomes is within the lines that there are then
abbrev pub TracksStayWithin : Type 0
TracksStayWithin = (band : Band) (count : ℕ) (change : Change) → Fits change count → Within band count
    → IfSome (track_of band count change) (λ found. Within found (count_after change count))

-- where a line is then is below their number
abbrev pub PlacesStayBelow : Type 0
PlacesStayBelow = (change : Change) (count index : ℕ) → Fits change count → index < count
    → IfSome (place_of change index) (λ place. place < count_after change count)

-- what an area becomes is within, too
abbrev pub AreasStayWithin : Type 0
AreasStayWithin = (area : Area) (sheet : ℕ) (axis : Axis) (count : ℕ) (change : Change)
    → Fits change count → IsWithinOn sheet axis count area
    → IfSome (area_followed sheet axis count change area)
    (IsWithinOn sheet axis (count_after change count))

-- no two lines come to one place
abbrev pub PlacesStayApart : Type 0
PlacesStayApart = (change : Change) (count one other place : ℕ) → Fits change count
    → one < count → other < count
    → place_of change one ≡ Some place → place_of change other ≡ Some place → one ≡ other

-- by numbers, a change tears a band just where it does
abbrev pub TearsWhereTorn : Type 0
TearsWhereTorn = (band : Band) (count : ℕ) (change : Change) → Fits change count → Within band count
    → (tears change (first_line band) (end_line band count) ≡ true) ↔ IsTorn change count band

-- a band is torn by a move or stays whole
abbrev pub TornOrWhole : Type 0
TornOrWhole = (band : Band) (count : ℕ) (change : Change) → Fits change count → Within band count
    → IsMove change → IsTorn change count band ⊎ StaysWhole change count band

-- bands with both ends that aren't torn share a line then only where they share one now
abbrev pub SpansStayApart : Type 0
SpansStayApart = (start end start' end' : ℕ) (one other : Band) (count : ℕ) (change : Change)
    → Fits change count
    → Within (Span start end) count → ¬ (IsTorn change count (Span start end))
    → track_of (Span start end) count change ≡ Some one
    → Within (Span start' end') count → ¬ (IsTorn change count (Span start' end'))
    → track_of (Span start' end') count change ≡ Some other
    → ShareLine one other (count_after change count)
    → ShareLine (Span start end) (Span start' end') count
