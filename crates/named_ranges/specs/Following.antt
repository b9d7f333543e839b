-- What the named ranges of a spreadsheet become when lines of one of its sheets are inserted, deleted
-- or moved, or when a sheet is deleted: insertDimension, deleteDimension, moveDimension and
-- deleteSheet of the Google Sheets API v4.
use Rattle.std.specs.Prelude.{ℕ, not, ◌==◌, List, Option, filter}
use Rattle.std.specs.Option.{option_map}
use Rattle.grid_range.specs.declared.axis.Axis.{Axis}
use Rattle.grid_range.specs.declared.change.Change.{Change}
use Rattle.grid_range.specs.Area.{IsWithinOn}
use Rattle.grid_range.specs.Tracking.{area_followed}
use Rattle.named_ranges.specs.declared.range.NamedRange.{NamedRange}

-- on that axis of that sheet the range's lines are among `count`
abbrev pub IsRangeWithinOn : ℕ → Axis → ℕ → NamedRange → Type 0
IsRangeWithinOn sheet axis count range = IsWithinOn sheet axis count range.area

-- a range follows with its area, and goes with it; its id and its name stay
abbrev pub range_followed : ℕ → Axis → ℕ → Change → NamedRange → Option NamedRange
range_followed sheet axis count change range =
    option_map (λ area. record range { area = area })
    (area_followed sheet axis count change range.area)

-- the ranges of other sheets
abbrev pub ranges_elsewhere : ℕ → List NamedRange → List NamedRange
ranges_elsewhere sheet ranges = filter (λ range. not (range.area.sheet == sheet)) ranges
