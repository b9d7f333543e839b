use Rattle.std.proofs.Common.{◌≡◌, nat_eq, take}
use Rattle.std.specs.Prelude.{flat_map}
use Rattle.std.specs.HashSet.{contains}
use Rattle.cell_calc.specs.Taken.{values_of}
use Rattle.cell_calc.specs.Found.{value_if}
use Rattle.cell_calc.proofs.functions.sum_if.values_in.Given as goal

abbrev pub invariant-loop-cell : goal.invariant-loop-cell
invariant-loop-cell l = values_of l.values.items
    ≡ flat_map (value_if (contains nat_eq l.places)) (take l.cell-index l.cells)
