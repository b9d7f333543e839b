-- What merges become when rows or columns are inserted, deleted or moved: InsertDimension,
-- DeleteDimension and MoveDimension of the Google Sheets API v4. That a move must not tear a merge
-- is this project's profile.
use Rattle.std.specs.Prelude.{◌≡◌, ℕ, List, Some, Contains}
use Rattle.std.specs.List.{All}
use Rattle.grid_range.specs.declared.area.Area.{Area}
use Rattle.grid_range.specs.declared.axis.Axis.{Axis}
use Rattle.grid_range.specs.declared.change.Change.{Change}
use Rattle.grid_range.specs.Area.{band_on}
use Rattle.grid_range.specs.Band.{Within}
use Rattle.grid_range.specs.Change.{Fits}
use Rattle.grid_range.specs.Tearing.{IsMove, StaysWhole}
use Rattle.grid_range.specs.Tracking.{area_followed}
use Rattle.merge_ranges.specs.Calls.{ListsJust}
use Rattle.merge_ranges.specs.Merges.{AreMerges, HasManyCells}

-- each area's band on the axis is within `count` lines
abbrev pub AreWithin : Axis → ℕ → List Area → Type 0
AreWithin axis count areas = All (λ area. Within (band_on axis area) count) areas

-- one of the merges is followed to the area, which has more than one cell
pub record CameFrom (axis : Axis) (count : ℕ) (change : Change) (merges : List Area) (area : Area) : Type 0 where
  pub merge : Area
  pub listed : Contains merges merge
  pub followed : area_followed merge.sheet axis count change merge ≡ Some area
  pub cells : HasManyCells area

-- where the change is a move, each of the merges stays whole
abbrev pub KeepsAll : Axis → ℕ → Change → List Area → Type 0
KeepsAll axis count change merges =
    IsMove change → All (λ merge. StaysWhole change count (band_on axis merge)) merges

-- what merges are followed to, each of which a move leaves whole, are merges
pub record FollowedStayMerges : Type 0 where
  pub stays : (axis : Axis) (count : ℕ) (change : Change) (merges after : List Area) → Fits change count
      → AreMerges merges → AreWithin axis count merges → KeepsAll axis count change merges
      → ListsJust (CameFrom axis count change merges) after → AreMerges after
