-- Laws of a filter that breaks no rule.
use Rattle.std.proofs.Common.{◌≡◌, ℕ, ◌<◌, List, [], ◌∷◌, false}
use Rattle.std.specs.Prelude.{nat_le}
use Rattle.std.specs.List.{All, list_any}
use Rattle.std.proofs.lemmas.Bool.{leb-false, or_parts}
use Rattle.std.proofs.lemmas.List.Elements.{All-cons, All-nil}
use Rattle.basic_filter.specs.declared.types.Criterion.{Criterion}
use Rattle.basic_filter.specs.declared.types.Filter.{Filter}
use Rattle.world_model.specs.Sheet.{PlaceSheet}
use Rattle.request_kinds.specs.SetBasicFilter.{asks_past}

all_below : (count : ℕ) (criteria : List Criterion)
    → list_any (λ criterion. nat_le count criterion.column) criteria ≡ false
    → All (λ criterion. criterion.column < count) criteria
all_below count [] none = All-nil (λ (criterion : Criterion). criterion.column < count)
all_below count (first ∷ criteria) none =
    let rest = list_any (λ (criterion : Criterion). nat_le count criterion.column) criteria in
    let parts = or_parts (nat_le count first.column) rest none in
    All-cons (λ (criterion : Criterion). criterion.column < count) first criteria
    (leb-false count first.column parts.0) (all_below count criteria parts.1)

-- no criterion is of a column that the sheet doesn't have
pub none_past : (filter : Filter) (sheet : PlaceSheet) → asks_past filter sheet ≡ false
    → All (λ criterion. criterion.column < sheet.table.cols) filter.criteria
none_past filter sheet none = all_below sheet.table.cols filter.criteria none
