-- When a condition is true of a cell: the `ConditionType` of the Google Sheets API v4.
use Rattle.std.specs.Prelude.{ℕ, ℤ, Bool, false, not, ◌&&◌, ◌==◌, List, length, int_lt, int_le, nat_eq}
use Rattle.std.specs.List.{starts_with, ends_with}
use Rattle.std.specs.Option.{option_map_or}
use Rattle.std.specs.Ordering.{int_eq}
use Rattle.std.specs.Str.{bytes_eq}
use Rattle.cell_value.specs.declared.cell.Value.{Value}
use Rattle.basic_filter.specs.declared.types.Condition.{Condition}
use Rattle.basic_filter.specs.declared.types.Condition.TheVariants.{NumberGreater, NumberGreaterThanEq, NumberLess, NumberLessThanEq, NumberEq, NumberNotEq, NumberBetween, TextContains, TextNotContains, TextStartsWith, TextEndsWith, TextEq, Blank, NotBlank}
use Rattle.basic_filter.specs.Number.{number_of}
use Rattle.basic_filter.specs.Texts.{lower_case, contains}

-- the cell holds a number, and that passes
abbrev pub is_number : (ℤ → Bool) → Value → Bool
is_number passes value = option_map_or passes (number_of value) false

-- the condition is true of a cell that has the value and shows the text; texts are compared ignoring
-- ASCII case
abbrev pub holds : Condition → Value → List ℕ → Bool
holds (NumberGreater bound) value shown = is_number (λ number. int_lt bound number) value
holds (NumberGreaterThanEq bound) value shown = is_number (λ number. int_le bound number) value
holds (NumberLess bound) value shown = is_number (λ number. int_lt number bound) value
holds (NumberLessThanEq bound) value shown = is_number (λ number. int_le number bound) value
holds (NumberEq other) value shown = is_number (λ number. int_eq number other) value
holds (NumberNotEq other) value shown = is_number (λ number. not (int_eq number other)) value
holds (NumberBetween first last) value shown =
    is_number (λ number. int_le first number && int_le number last) value
holds (TextContains part) value shown = contains (lower_case shown) (lower_case part)
holds (TextNotContains part) value shown = not (contains (lower_case shown) (lower_case part))
holds (TextStartsWith start) value shown = starts_with nat_eq (lower_case shown) (lower_case start)
holds (TextEndsWith end) value shown = ends_with nat_eq (lower_case shown) (lower_case end)
holds (TextEq text) value shown = bytes_eq (lower_case shown) (lower_case text)
holds Blank value shown = length shown == 0
holds NotBlank value shown = not (length shown == 0)
