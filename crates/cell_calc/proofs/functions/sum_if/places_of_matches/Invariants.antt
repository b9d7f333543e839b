use Rattle.std.proofs.Common.{◌≡◌, ℕ, nat_eq, take}
use Rattle.std.specs.HashSet.{contains}
use Rattle.cell_calc.specs.Found.{matches_in}
use Rattle.cell_calc.proofs.functions.sum_if.places_of_matches.Given as goal

abbrev pub invariant-loop-cell : goal.invariant-loop-cell
invariant-loop-cell l = (place : ℕ) → contains nat_eq l.places place
    ≡ matches_in l.key (take l.cell-index l.cells) place
