-- A criterion that was made ready to be asked of many rows: its hidden values are a set, and its condition is
-- ready where it looks for a text.
use Rattle.std.specs.Prelude.{◌≡◌, ℕ, Bool, false, not, ◌||◌, List, [], Option, None, Some, is_some, if◌then◌else◌}
use Rattle.std.specs.List.{list_any, zip}
use Rattle.std.specs.Option.{option_and_then, option_map_or}
use Rattle.std.specs.Borrow.{Bor}
use Rattle.std.specs.Cmp.Lexicographic.{slice_cmp}
use Rattle.std.specs.Ordering.{is_eq, nat_cmp}
use Rattle.std.specs.BTreeSet.{BTreeSet}
use Rattle.cell_value.specs.Texts.{is_among}
use Rattle.cell_value.specs.Shown.{shown_text}
use Rattle.cell_value.specs.declared.cell.Value.{Value}
use Rattle.basic_filter.specs.declared.types.Condition.{Condition}
use Rattle.basic_filter.specs.declared.types.Criterion.{Criterion}
use Rattle.row_filter.specs.declared.criterion.ReadyCriterion.{ReadyCriterion}
use Rattle.row_filter.specs.Conditions.{condition_ready, ready_holds}

-- the text is one of the keys
abbrev pub has_text : List ℕ → List (Bor (List ℕ)) → Bool
has_text text keys = list_any (λ key. is_eq (slice_cmp nat_cmp text key.now)) keys

-- the set has just the texts
abbrev pub IsSetOf : List (List ℕ) → BTreeSet (Bor (List ℕ)) → Type 0
IsSetOf texts set = (text : List ℕ) → has_text text set.keys ≡ is_among text texts

-- the criterion was made into this one
pub record IsReady (criterion : Criterion) (ready : ReadyCriterion) : Type 0 where
  pub hidden : IsSetOf criterion.hidden ready.hidden
  pub condition : ready.condition ≡ option_and_then condition_ready criterion.condition

-- a row whose cell shows the text is hidden: it is a key of the set, or the condition isn't true
abbrev pub ready_hides : ReadyCriterion → List ℕ → Bool
ready_hides criterion shown =
    has_text shown criterion.hidden.keys
    || option_map_or (λ condition. not (ready_holds condition shown)) criterion.condition false

-- some cell shows what its criterion hides; each has its value
abbrev pub some_hides : List ReadyCriterion → List Value → Bool
some_hides criteria values = list_any (λ pair. ready_hides pair.0 (shown_text pair.1)) (zip criteria values)

-- what is left of a condition, unless it was made ready
abbrev pub condition_left : Condition → Option Condition
condition_left condition = if is_some (condition_ready condition) then None else Some condition

-- what is left of a criterion: its condition, unless that was made ready
abbrev pub criterion_left : Criterion → Criterion
criterion_left criterion =
    record criterion { hidden = []; condition = option_and_then condition_left criterion.condition }
