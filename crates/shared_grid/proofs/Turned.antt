-- A list in which two parts that stand side by side changed places.
use Rattle.std.proofs.Common.{◌≡◌, ℕ, ◌<◌, ◌≤◌, List, length, sym, ◌∙◌, arith}
use Rattle.std.proofs.Common.{get_or}
use Rattle.std.proofs.lemmas.Bool.Decides.{nat_tests}
use Rattle.cell_store.specs.Turning.{source}
use Rattle.cell_store.specs.TurningLaws.{source_within}
use Rattle.shared_grid.specs.Orders.{AreNumbers}

-- two indices don't come from one
source_apart : (start middle end i j : ℕ) → start ≤ middle → middle ≤ end
    → source start middle end i ≡ source start middle end j → i ≡ j
source_apart start middle end i j s m same = grind (arith, nat_tests)

-- each number stands once there, too
pub numbers_turned : (xs ys : List ℕ) (start middle end : ℕ) → start ≤ middle → middle ≤ end → end ≤ length xs
    → AreNumbers xs → length ys ≡ length xs
    → ((i : ℕ) → i < length xs → get_or ys i 0 ≡ get_or xs (source start middle end i) 0) → AreNumbers ys
numbers_turned xs ys start middle end s m within are long order =
    let at = λ (i : ℕ) (there : i < length xs). source_within start middle end i (length xs) s m within there in
    record {
      within = λ i there.
          let old : i < length xs = omega (arith, long) in
          omega (arith, order i old, are.within (source start middle end i) (at i old), long);
      apart = λ i j one two same.
          let old : i < length xs = omega (arith, long) in
          let other : j < length xs = omega (arith, long) in
          source_apart start middle end i j s m
          (are.apart (source start middle end i) (source start middle end j) (at i old) (at j other)
          (sym (order i old) ∙ same ∙ order j other));
    }
