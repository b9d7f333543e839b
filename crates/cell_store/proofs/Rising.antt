-- Places that rise by rows, and that an area holds, as far as they were looked at.
use Rattle.std.proofs.Common.{◌≡◌, ap, ◌⊎◌, inl, inr, ℕ, ◌+◌, ◌-◌, ◌<◌, ◌≤◌, List, get_or, length, arith, subst, sym}
use Rattle.std.specs.Prelude.{IfSome, Option, Some}
use Rattle.std.specs.List.{All}
use Rattle.std.specs.List.Sorted.{IsStrictlySortedBy}
use Rattle.std.specs.declared.cmp.Ordering.TheVariants.{Less}
use Rattle.std.proofs.lemmas.List.Elements.{All-from_get_or}
use Rattle.std.proofs.lemmas.Map.Keys.{sorted_from_all_adjacent}
use Rattle.grid_range.specs.Area.{Holds, by_rows}
use Rattle.grid_range.specs.ByRows.{by_rows_total}
use Rattle.grid_range.specs.declared.area.Area.{Area}

earlier_or_last : (k n : ℕ) → k + 1 < n + 1 → (k + 1 < n) ⊎ (k + 1 ≡ n)
earlier_or_last k n lt = grind arith

before_or_last : (k n : ℕ) → k < n + 1 → (k < n) ⊎ (k ≡ n)
before_or_last k n lt = grind arith

one_less : (n : ℕ) → n ≡ n + 1 - 1
one_less n = omega arith

module _ (area : Area) (places : List (ℕ × ℕ)) where
  -- the first places, and the last one of them
  pub record AreRising (count : ℕ) (before : Option (ℕ × ℕ)) : Type 0 where
    pub rise : (k : ℕ) → k + 1 < count → by_rows (get_or places k (0, 0)) (get_or places (k + 1) (0, 0)) ≡ Less
    pub held : (k : ℕ) → k < count → Holds area (get_or places k (0, 0)).0 (get_or places k (0, 0)).1
    pub last : 0 < count → before ≡ Some (get_or places (count - 1) (0, 0))

  module _ (count : ℕ) (before : Option (ℕ × ℕ)) (are : AreRising count before) where
    behind_last : IfSome before (λ before. by_rows before (get_or places count (0, 0)) ≡ Less) → (k : ℕ) → k + 1 ≡ count
        → by_rows (get_or places k (0, 0)) (get_or places (k + 1) (0, 0)) ≡ Less
    behind_last behind k is =
        let some = subst (λ before. IfSome before (λ before. by_rows before (get_or places count (0, 0)) ≡ Less))
        (are.last (omega (arith, is))) behind in
        subst (λ at. by_rows (get_or places at (0, 0)) (get_or places (k + 1) (0, 0)) ≡ Less) (omega (arith, is))
        (subst (λ at. by_rows (get_or places (count - 1) (0, 0)) (get_or places at (0, 0)) ≡ Less) (sym is) some)

    pub one_more : IfSome before (λ before. by_rows before (get_or places count (0, 0)) ≡ Less)
        → Holds area (get_or places count (0, 0)).0 (get_or places count (0, 0)).1
        → AreRising (count + 1) (Some (get_or places count (0, 0)))
    one_more behind holds = record {
      rise = λ k lt. elim (earlier_or_last k count lt) [
        | inl earlier ↦ are.rise k earlier
        | inr is ↦ behind_last behind k is
      ];
      held = λ k lt. elim (before_or_last k count lt) [
        | inl earlier ↦ are.held k earlier
        | inr is ↦ subst (λ k. Holds area (get_or places k (0, 0)).0 (get_or places k (0, 0)).1) (sym is) holds
      ];
      last = λ some. ap (λ at. Some (get_or places at (0, 0))) (one_less count);
    }

  pub all_rise : (count : ℕ) (before : Option (ℕ × ℕ)) → length places ≤ count → AreRising count before
      → IsStrictlySortedBy by_rows places
  all_rise count before all are =
      sorted_from_all_adjacent by_rows_total places (0, 0) (λ k lt. are.rise k (omega (arith, lt, all)))

  pub all_held : (count : ℕ) (before : Option (ℕ × ℕ)) → length places ≤ count → AreRising count before
      → All (λ place. Holds area place.0 place.1) places
  all_held count before all are =
      All-from_get_or (λ place. Holds area place.0 place.1) places (0, 0) (λ k lt. are.held k (omega (arith, lt, all)))
