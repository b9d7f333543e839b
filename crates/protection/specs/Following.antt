-- What the protected ranges of a spreadsheet become when lines of one of its sheets are inserted,
-- deleted or moved, or when a sheet is deleted: insertDimension, deleteDimension, moveDimension and
-- deleteSheet of the Google Sheets API v4.
use Rattle.std.specs.Prelude.{ℕ, not, ◌==◌, List, Option, None, Some, All, filter, if◌then◌else◌}
use Rattle.std.specs.List.{filter_map}
use Rattle.std.specs.Option.{option_map}
use Rattle.grid_range.specs.declared.area.Area.{Area}
use Rattle.grid_range.specs.declared.axis.Axis.{Axis}
use Rattle.grid_range.specs.declared.change.Change.{Change}
use Rattle.grid_range.specs.Area.{IsWithinOn}
use Rattle.grid_range.specs.Tracking.{area_followed}
use Rattle.protection.specs.declared.range.Protection.{Protection}

-- on that axis of that sheet the lines of the protection's area and of its unprotected ranges are
-- among `count`
abbrev pub IsKeptWithin : ℕ → Axis → ℕ → Protection → Type 0
IsKeptWithin sheet axis count protection =
    IsWithinOn sheet axis count protection.area
    × All (IsWithinOn sheet axis count) protection.unprotected

-- a protection follows with its area, and goes with it; its unprotected ranges follow each for itself,
-- and those that are lost go
abbrev pub protection_followed : ℕ → Axis → ℕ → Change → Protection → Option Protection
protection_followed sheet axis count change protection =
    option_map
    (λ area. record protection {
      area = area;
      unprotected = filter_map (area_followed sheet axis count change) protection.unprotected;
    })
    (area_followed sheet axis count change protection.area)

-- what is on other sheets
abbrev pub ranges_elsewhere : ℕ → List Area → List Area
ranges_elsewhere sheet ranges = filter (λ range. not (range.sheet == sheet)) ranges

-- without the sheet, a protection of it goes, and others lose what they left unprotected on it
abbrev pub protection_without_sheet : ℕ → Protection → Option Protection
protection_without_sheet sheet protection =
    if protection.area.sheet == sheet then None
    else Some (record protection { unprotected = ranges_elsewhere sheet protection.unprotected })
