use Rattle.std.proofs.Common.{◌≡◌, ◌++◌, take}
use Rattle.std.specs.Prelude.{flat_map}
use Rattle.cell_calc.specs.Taken.{values_of, cell_taken}
use Rattle.cell_calc.proofs.functions.gathering.add_cells.Given as goal

abbrev pub invariant-loop-cell : goal.invariant-loop-cell
invariant-loop-cell l =
    values_of l.values.items ≡ values_of l.initial.values.items
    ++ flat_map (cell_taken l.taking) (take l.cell-index l.cells)
