-- Basic filters by the names of lines: the `BasicFilter` and the `FilterCriteria` of the Google Sheets API v4.
use Rattle.std.specs.Prelude.{ℕ, List, Option, get_or, map}
use Rattle.basic_filter.specs.declared.types.Condition.{Condition}
use Rattle.basic_filter.specs.declared.types.Criterion.{Criterion}
use Rattle.basic_filter.specs.declared.types.Filter.{Filter}
use Rattle.grid_range.specs.declared.axis.Axis.TheVariants.{Columns}
use Rattle.world_model.specs.Area.{NameArea, Orders, area_named}

-- what is asked of the cells of a column
pub record NameCriterion : Type 0 where
  pub column : ℕ
  pub hidden : List (List ℕ)
  pub condition : Option Condition

-- the cells that are filtered, and what is asked of columns of their sheet
pub record NameFilter : Type 0 where
  pub area : NameArea
  pub criteria : List NameCriterion

-- the criterion of the column at the place of a criterion's
abbrev pub criterion_named : List ℕ → Criterion → NameCriterion
criterion_named cols criterion = record {
  column = get_or cols criterion.column 0;
  hidden = criterion.hidden;
  condition = criterion.condition;
}

-- the filter of the lines at the places of a filter
abbrev pub filter_named : Orders → Filter → NameFilter
filter_named orders filter = record {
  area = area_named orders filter.area;
  criteria = map (criterion_named (orders filter.area.sheet Columns)) filter.criteria;
}
