-- BasicFilter, FilterCriteria and BooleanCondition (Google Sheets API v4 reference), and the requests for filters.
use Rattle.std.specs.Prelude.{ℕ, ℤ, List, [], codes, if◌then◌else◌, Option, None, Some, option_and_then, unwrap_or, Ok, Err, ⊤}
use Rattle.std.specs.Str.{bytes_eq}
use Rattle.serde_json.specs.Data.{Data, Items, no_items, item}
use Rattle.serde_json.specs.Find.{as_str, as_array}
use Rattle.serde_json.specs.View.{view}
use Rattle.serde_json.specs.declared.value.Value.{Value}
use Rattle.grid_range.specs.declared.area.Area.{Area}
use Rattle.basic_filter.specs.declared.types.Condition.{Condition}
use Rattle.basic_filter.specs.declared.types.Condition.TheVariants as condition
use Rattle.basic_filter.specs.declared.types.Criterion.{Criterion}
use Rattle.basic_filter.specs.declared.types.Filter.{Filter}
use Rattle.json_requests.specs.declared.condition_type.NumberTest.{NumberTest}
use Rattle.json_requests.specs.declared.condition_type.NumberTest.TheVariants as number_test
use Rattle.json_requests.specs.declared.condition_type.TextTest.{TextTest}
use Rattle.json_requests.specs.declared.condition_type.TextTest.TheVariants as text_test
use Rattle.json_requests.specs.declared.condition_type.ConditionType.{ConditionType}
use Rattle.json_requests.specs.declared.condition_type.ConditionType.TheVariants as type
use Rattle.json_requests.specs.declared.request.Request.{Request}
use Rattle.json_requests.specs.declared.request.Request.TheVariants as request
use Rattle.json_shapes.specs.declared.fault.ShapeFault.TheVariants.{BadShape}
use Rattle.json_shapes.specs.Reading.{Reading, Shape, both, or_bad_shape}
use Rattle.json_shapes.specs.Members.{Fields, demanded, optional, required, also, making, object_of}
use Rattle.json_shapes.specs.Shapes.{text, word, list_of, map_of}
use Rattle.json_shapes.specs.Scalars.{index}
use Rattle.json_requests.specs.WholeTexts.{number_of, leads_with_zero, index_named}
use Rattle.json_requests.specs.Areas.{grid_range}

-- ---- conditions

-- the words of ConditionType
abbrev pub type_named : List ℕ → Option ConditionType
type_named name =
    if bytes_eq name (codes "NUMBER_GREATER") then Some (type.Number number_test.Greater)
    else if bytes_eq name (codes "NUMBER_GREATER_THAN_EQ") then Some (type.Number number_test.GreaterThanEq)
    else if bytes_eq name (codes "NUMBER_LESS") then Some (type.Number number_test.Less)
    else if bytes_eq name (codes "NUMBER_LESS_THAN_EQ") then Some (type.Number number_test.LessThanEq)
    else if bytes_eq name (codes "NUMBER_EQ") then Some (type.Number number_test.Eq)
    else if bytes_eq name (codes "NUMBER_NOT_EQ") then Some (type.Number number_test.NotEq)
    else if bytes_eq name (codes "NUMBER_BETWEEN") then Some type.NumberBetween
    else if bytes_eq name (codes "TEXT_CONTAINS") then Some (type.Text text_test.Contains)
    else if bytes_eq name (codes "TEXT_NOT_CONTAINS") then Some (type.Text text_test.NotContains)
    else if bytes_eq name (codes "TEXT_STARTS_WITH") then Some (type.Text text_test.StartsWith)
    else if bytes_eq name (codes "TEXT_ENDS_WITH") then Some (type.Text text_test.EndsWith)
    else if bytes_eq name (codes "TEXT_EQ") then Some (type.Text text_test.Eq)
    else if bytes_eq name (codes "BLANK") then Some type.Blank
    else if bytes_eq name (codes "NOT_BLANK") then Some type.NotBlank
    else None

abbrev pub number_of_text : Option (List ℕ) → Reading ℤ
number_of_text None = Err BadShape
number_of_text (Some digits) = number_of digits

abbrev pub number_text : Shape ℤ
number_text value = number_of_text (as_str value)

-- ConditionValue
abbrev pub condition_value : {A : Type 0} → Shape A → Shape A
condition_value shape = object_of (required (codes "userEnteredValue") shape)

-- the value of a list of one
abbrev pub sole_item : Items → Option Data
sole_item no_items = None
sole_item (item value no_items) = Some value
sole_item (item value (item other items)) = None

abbrev pub one_item : {A : Type 0} → Shape A → Shape A
one_item shape value = demanded shape (option_and_then sole_item (as_array value))

-- the values of a list of two
abbrev pub item_pair : Items → Option (Data × Data)
item_pair no_items = None
item_pair (item value no_items) = None
item_pair (item value (item other no_items)) = Some (value, other)
item_pair (item value (item other (item third items))) = None

-- two values as what they stand for
abbrev pub viewed_pair : Value × Value → Data × Data
viewed_pair values = (view values.0, view values.1)

abbrev pub both_of : {A : Type 0} → Shape A → Option (Data × Data) → Reading (A × A)
both_of shape None = Err BadShape
both_of shape (Some values) = both (shape values.0) (shape values.1)

abbrev pub two_items : {A : Type 0} → Shape A → Shape (A × A)
two_items shape value = both_of shape (option_and_then item_pair (as_array value))

-- an empty list
abbrev pub none_of : Items → Option ⊤
none_of no_items = Some tt
none_of (item value items) = None

abbrev pub empty_list : Shape ⊤
empty_list value = or_bad_shape (option_and_then none_of (as_array value))

abbrev pub number_condition : NumberTest → ℤ → Condition
number_condition number_test.Greater number = condition.NumberGreater number
number_condition number_test.GreaterThanEq number = condition.NumberGreaterThanEq number
number_condition number_test.Less number = condition.NumberLess number
number_condition number_test.LessThanEq number = condition.NumberLessThanEq number
number_condition number_test.Eq number = condition.NumberEq number
number_condition number_test.NotEq number = condition.NumberNotEq number

abbrev pub between : ℤ × ℤ → Condition
between ends = condition.NumberBetween ends.0 ends.1

abbrev pub text_condition : TextTest → List ℕ → Condition
text_condition text_test.Contains part = condition.TextContains part
text_condition text_test.NotContains part = condition.TextNotContains part
text_condition text_test.StartsWith start = condition.TextStartsWith start
text_condition text_test.EndsWith end = condition.TextEndsWith end
text_condition text_test.Eq other = condition.TextEq other

abbrev pub blank : Option ⊤ → Condition
blank _ = condition.Blank

abbrev pub not_blank : Option ⊤ → Condition
not_blank _ = condition.NotBlank

-- a condition has just the number of values that its type asks for
abbrev pub of_type : ConditionType → Fields Condition
of_type (type.Number test) =
    making (number_condition test) (required (codes "values") (one_item (condition_value number_text)))
of_type type.NumberBetween = making between (required (codes "values") (two_items (condition_value number_text)))
of_type (type.Text test) = making (text_condition test) (required (codes "values") (one_item (condition_value text)))
of_type type.Blank = making blank (optional (codes "values") empty_list)
of_type type.NotBlank = making not_blank (optional (codes "values") empty_list)

-- a type that isn't one has a bad shape, whatever the values are
abbrev pub of_type_read : Reading ConditionType → Fields Condition
of_type_read (Ok type) members = of_type type members
of_type_read (Err fault) members = record { read = Err fault; left = members }

abbrev pub boolean_condition : Fields Condition
boolean_condition members =
    of_type_read (required (codes "type") (word type_named) members).read
    (required (codes "type") (word type_named) members).left

-- ---- criteria

-- the column that a key names: an index in decimal
abbrev pub column_named : List ℕ → Option ℕ
column_named key =
    if leads_with_zero key then None else index_named key

abbrev pub criterion_of : ℕ → Option (List (List ℕ)) × Option Condition → Criterion
criterion_of column parts = record { column = column; hidden = unwrap_or parts.0 []; condition = parts.1 }

abbrev pub criterion : ℕ → Fields Criterion
criterion column =
    making (criterion_of column) (also
    (optional (codes "hiddenValues") (list_of text))
    (optional (codes "condition") (object_of boolean_condition)))

abbrev pub criterion_at : Option ℕ → Shape Criterion
criterion_at None value = Err BadShape
criterion_at (Some column) value = object_of (criterion column) value

abbrev pub criterion_under : List ℕ → Shape Criterion
criterion_under key = criterion_at (column_named key)

-- ---- filters

abbrev pub filter_of : Area × Option (List Criterion) → Filter
filter_of parts = record { area = parts.0; criteria = unwrap_or parts.1 [] }

abbrev pub basic_filter : Fields Filter
basic_filter =
    making filter_of (also
    (required (codes "range") (object_of grid_range))
    (optional (codes "criteria") (map_of criterion_under)))

abbrev pub set_basic_filter : Fields Request
set_basic_filter = making request.SetBasicFilter (required (codes "filter") (object_of basic_filter))

abbrev pub clear_basic_filter : Fields Request
clear_basic_filter = making request.ClearBasicFilter (required (codes "sheetId") index)
