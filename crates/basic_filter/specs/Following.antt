-- What a basic filter becomes when lines of its sheet are inserted, deleted or moved: insertDimension,
-- deleteDimension and moveDimension of the Google Sheets API v4.
use Rattle.std.specs.Prelude.{ℕ, ◌<◌, List, Option, All, ⊤}
use Rattle.std.specs.List.{filter_map}
use Rattle.std.specs.Option.{option_map}
use Rattle.grid_range.specs.declared.axis.Axis.{Axis}
use Rattle.grid_range.specs.declared.axis.Axis.TheVariants.{Rows, Columns}
use Rattle.grid_range.specs.declared.change.Change.{Change}
use Rattle.grid_range.specs.Tracking.{place_of, area_followed}
use Rattle.basic_filter.specs.declared.types.Criterion.{Criterion}
use Rattle.basic_filter.specs.declared.types.Filter.{Filter}

-- where the columns are `count`, each criterion's is one of them
abbrev pub AreBelow : Axis → ℕ → List Criterion → Type 0
AreBelow Rows count criteria = ⊤
AreBelow Columns count criteria = All (λ criterion. criterion.column < count) criteria

-- a criterion follows its column, and goes with it
abbrev pub criterion_followed : Change → Criterion → Option Criterion
criterion_followed change criterion =
    option_map (λ column. record criterion { column = column }) (place_of change criterion.column)

-- the criteria follow where columns change, and keep their order
abbrev pub criteria_followed : Axis → Change → List Criterion → List Criterion
criteria_followed Rows change criteria = criteria
criteria_followed Columns change criteria = filter_map (criterion_followed change) criteria

-- a filter follows with its area, and is lost with it
abbrev pub filter_followed : Axis → ℕ → Change → Filter → Option Filter
filter_followed axis count change filter =
    option_map
    (λ area. record { area = area; criteria = criteria_followed axis change filter.criteria })
    (area_followed filter.area.sheet axis count change filter.area)
