-- A condition that was made ready to be asked of many cells: the text that it looks for is in lower case.
use Rattle.std.specs.Prelude.{ℕ, Bool, not, List, Option, None, Some, nat_eq}
use Rattle.std.specs.List.{starts_with, ends_with}
use Rattle.basic_filter.specs.declared.types.Condition.{Condition}
use Rattle.basic_filter.specs.declared.types.Condition.TheVariants.{TextContains, TextNotContains, TextStartsWith, TextEndsWith}
use Rattle.basic_filter.specs.Texts.{lower_case, contains}
use Rattle.row_filter.specs.declared.condition.ReadyCondition.{ReadyCondition}
use Rattle.row_filter.specs.declared.condition.ReadyCondition.TheVariants.{Contains, NotContains, StartsWith, EndsWith}

-- what a condition is made into; one that looks for no text in the shown one is left as it is
abbrev pub condition_ready : Condition → Option ReadyCondition
condition_ready (TextContains part) = Some (Contains (lower_case part))
condition_ready (TextNotContains part) = Some (NotContains (lower_case part))
condition_ready (TextStartsWith start) = Some (StartsWith (lower_case start))
condition_ready (TextEndsWith end) = Some (EndsWith (lower_case end))
condition_ready _ = None

-- the condition is true of a cell that shows the text
abbrev pub ready_holds : ReadyCondition → List ℕ → Bool
ready_holds (Contains part) shown = contains (lower_case shown) part
ready_holds (NotContains part) shown = not (contains (lower_case shown) part)
ready_holds (StartsWith start) shown = starts_with nat_eq (lower_case shown) start
ready_holds (EndsWith end) shown = ends_with nat_eq (lower_case shown) end
