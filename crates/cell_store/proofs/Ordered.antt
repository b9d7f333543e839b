-- Places that differ, by rows.
use Rattle.std.proofs.Common.{◌≡◌, ℕ, ◌+◌, refl, sym, ap, ◌∙◌, List, false, get_or, arith}
use Rattle.std.specs.Prelude.{Contains, ◌↔◌}
use Rattle.std.specs.Ordering.{eq_by_cmp, is_lt, is_eq, ordering_reverse}
use Rattle.std.specs.declared.cmp.Ordering.TheVariants.{Less, Equal, Greater}
use Rattle.std.specs.Cmp.{IsEquivalence}
use Rattle.std.specs.List.{filter, IsDistinct}
use Rattle.std.specs.List.Sorted.{IsStrictlySortedBy, IsSorted, IsPermutation}
use Rattle.std.proofs.lemmas.Bool.{false≢true}
use Rattle.std.proofs.lemmas.Cmp.{eq_by_cmp_equiv}
use Rattle.std.proofs.lemmas.List.MinMax.{ranks_by}
use Rattle.std.proofs.lemmas.List.Sorted.{Contains-permutation, IsPermutation-sym, sorted_far}
use Rattle.std.proofs.lemmas.Map.Keys.{IsDistinct-IsPermutation}
use Rattle.std.proofs.lemmas.Map.Keys.{apart_from_distinct, sorted_from_all_adjacent}
use Rattle.grid_range.specs.declared.area.Area.{Area}
use Rattle.grid_range.specs.Area.{Holds}
use Rattle.grid_range.specs.ByRows.{by_rows_total}
use Rattle.cell_value.specs.Elements.{Contains-filter, Contains-filter_from, IsDistinct-filter}
use Rattle.grid_range.specs.Area.{by_rows}
use Rattle.cell_store.proofs.Listed.{holds_place, holds_true, Holds-from}

laws : IsEquivalence (eq_by_cmp by_rows)
laws = eq_by_cmp_equiv by_rows_total

-- places in order that differ rise
less_from : (one other : ℕ × ℕ) → is_lt (by_rows other one) ≡ false → eq_by_cmp by_rows one other ≡ false
    → by_rows one other ≡ Less
less_from one other low apart = elim (by_rows one other) as (λ o. by_rows one other ≡ o → by_rows one other ≡ Less) [
  | Less ↦ λ is. is
  | Equal ↦ λ is. absurd (false≢true (sym apart ∙ ap is_eq is))
  | Greater ↦ λ is. absurd (false≢true (sym low ∙ ap is_lt (by_rows_total.antisymm other one ∙ ap ordering_reverse is)))
] refl

pub strictly_sorted : (before after : List (ℕ × ℕ)) → IsPermutation before after → IsSorted by_rows after
    → IsDistinct (eq_by_cmp by_rows) before → IsStrictlySortedBy by_rows after
strictly_sorted before after moved sorted apart =
    let distinct = IsDistinct-IsPermutation (eq_by_cmp by_rows) laws.symm before after moved apart in
    sorted_from_all_adjacent by_rows_total after (0, 0) (λ k l.
    less_from (get_or after k (0, 0)) (get_or after (k + 1) (0, 0))
    (sorted_far (λ x y. is_lt (by_rows x y)) (ranks_by by_rows_total (λ x. x)) after sorted k (k + 1) (0, 0)
    (omega arith) l)
    (apart_from_distinct (eq_by_cmp by_rows) after k (k + 1) (0, 0) distinct (omega arith) l))

-- what is left of places that differ, and is sorted
module _ (area : Area) (places sorted : List (ℕ × ℕ))
    (moved : IsPermutation (filter (holds_place area) places) sorted) where
  pub held_in_order : IsSorted by_rows sorted → IsDistinct (eq_by_cmp by_rows) places
      → IsStrictlySortedBy by_rows sorted
  held_in_order rises apart =
      strictly_sorted (filter (holds_place area) places) sorted moved rises
      (IsDistinct-filter (holds_place area) (eq_by_cmp by_rows) places apart)

  pub held_exactly : (row col : ℕ) → Contains sorted (row, col) ↔ (Holds area row col × Contains places (row, col))
  held_exactly row col = (
    (λ has.
        let left = Contains-filter_from (holds_place area) places (row, col)
        (Contains-permutation sorted (filter (holds_place area) places) (row, col)
        (IsPermutation-sym (filter (holds_place area) places) sorted moved) has) in
        (Holds-from area row col left.1, left.0)),
    (λ held.
        Contains-permutation (filter (holds_place area) places) sorted (row, col) moved
        (Contains-filter (holds_place area) places (row, col) held.1 (holds_true area (row, col) held.0))),
  )
