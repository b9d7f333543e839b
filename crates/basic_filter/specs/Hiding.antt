-- Which rows a filter hides: `hiddenValues` and `condition` of the `FilterCriteria` of the Google Sheets
-- API v4. A row is hidden by what its cells show now.
use Rattle.std.specs.Prelude.{ℕ, Bool, false, not, ◌||◌, List}
use Rattle.std.specs.List.{list_any, zip}
use Rattle.std.specs.Option.{option_map_or}
use Rattle.cell_value.specs.declared.cell.Value.{Value}
use Rattle.cell_value.specs.Shown.{shown_text}
use Rattle.cell_value.specs.Texts.{is_among}
use Rattle.basic_filter.specs.declared.types.Criterion.{Criterion}
use Rattle.basic_filter.specs.Condition.{holds}

-- a cell that has the value and shows the text is hidden where the text is one of the hidden values, or
-- the condition isn't true
abbrev pub hides_shown : Criterion → Value → List ℕ → Bool
hides_shown criterion value shown =
    is_among shown criterion.hidden
    || option_map_or (λ condition. not (holds condition value shown)) criterion.condition false

-- the text that a cell shows is the one of its value
abbrev pub hides_cell : Criterion → Value → Bool
hides_cell criterion value = hides_shown criterion value (shown_text value)

-- a row is hidden where one of the criteria hides the cell of its column; each has its value
abbrev pub hides : List Criterion → List Value → Bool
hides criteria values = list_any (λ pair. hides_cell pair.0 pair.1) (zip criteria values)
