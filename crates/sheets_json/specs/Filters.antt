-- A basic filter as a JSON value (Google Sheets API v4 reference, BasicFilter, FilterCriteria, BooleanCondition,
-- ConditionType and ConditionValue). Members are put into an object in the order of their names.
use Rattle.std.specs.Prelude.{ℕ, List, [], ◌∷◌, codes}
use Rattle.std.specs.Fmt.{decimal, signed_decimal}
use Rattle.serde_json.specs.Data.{Data, object, Members, no_members, put}
use Rattle.basic_filter.specs.declared.types.Condition.{Condition}
use Rattle.basic_filter.specs.declared.types.Condition.TheVariants as condition
use Rattle.basic_filter.specs.declared.types.Criterion.{Criterion}
use Rattle.basic_filter.specs.declared.types.Filter.{Filter}
use Rattle.sheets_json.specs.Written.{text_data, put_given, put_items}
use Rattle.sheets_json.specs.Areas.{area_data}

-- ---- conditions

abbrev pub type_text : Condition → List ℕ
type_text (condition.NumberGreater number) = codes "NUMBER_GREATER"
type_text (condition.NumberGreaterThanEq number) = codes "NUMBER_GREATER_THAN_EQ"
type_text (condition.NumberLess number) = codes "NUMBER_LESS"
type_text (condition.NumberLessThanEq number) = codes "NUMBER_LESS_THAN_EQ"
type_text (condition.NumberEq number) = codes "NUMBER_EQ"
type_text (condition.NumberNotEq number) = codes "NUMBER_NOT_EQ"
type_text (condition.NumberBetween first last) = codes "NUMBER_BETWEEN"
type_text (condition.TextContains part) = codes "TEXT_CONTAINS"
type_text (condition.TextNotContains part) = codes "TEXT_NOT_CONTAINS"
type_text (condition.TextStartsWith start) = codes "TEXT_STARTS_WITH"
type_text (condition.TextEndsWith end) = codes "TEXT_ENDS_WITH"
type_text (condition.TextEq other) = codes "TEXT_EQ"
type_text condition.Blank = codes "BLANK"
type_text condition.NotBlank = codes "NOT_BLANK"

-- what a condition compares with, its numbers in decimal
abbrev pub values_of : Condition → List (List ℕ)
values_of (condition.NumberGreater number) = signed_decimal number ∷ []
values_of (condition.NumberGreaterThanEq number) = signed_decimal number ∷ []
values_of (condition.NumberLess number) = signed_decimal number ∷ []
values_of (condition.NumberLessThanEq number) = signed_decimal number ∷ []
values_of (condition.NumberEq number) = signed_decimal number ∷ []
values_of (condition.NumberNotEq number) = signed_decimal number ∷ []
values_of (condition.NumberBetween first last) = signed_decimal first ∷ signed_decimal last ∷ []
values_of (condition.TextContains part) = part ∷ []
values_of (condition.TextNotContains part) = part ∷ []
values_of (condition.TextStartsWith start) = start ∷ []
values_of (condition.TextEndsWith end) = end ∷ []
values_of (condition.TextEq other) = other ∷ []
values_of condition.Blank = []
values_of condition.NotBlank = []

abbrev pub value_data : List ℕ → Data
value_data value = object (put (codes "userEnteredValue") (text_data value) no_members)

-- values are said where there are some
abbrev pub condition_data : Condition → Data
condition_data asked = object (
    put (codes "type") (text_data (type_text asked)) (
    put_items (codes "values") value_data (values_of asked) no_members))

-- ---- filters

-- hidden values are said where there are some
abbrev pub criterion_data : Criterion → Data
criterion_data criterion = object (
    put_given (codes "condition") condition_data criterion.condition (
    put_items (codes "hiddenValues") text_data criterion.hidden no_members))

-- each stands under its column in decimal
abbrev pub criteria_members : List Criterion → Members
criteria_members [] = no_members
criteria_members (criterion ∷ criteria) =
    put (decimal criterion.column) (criterion_data criterion) (criteria_members criteria)

-- criteria are said where there are some
abbrev pub put_criteria : List Criterion → Members → Members
put_criteria [] members = members
put_criteria (criterion ∷ criteria) members =
    put (codes "criteria") (object (criteria_members (criterion ∷ criteria))) members

abbrev pub filter_data : Filter → Data
filter_data filter = object (put_criteria filter.criteria (put (codes "range") (area_data filter.area) no_members))
