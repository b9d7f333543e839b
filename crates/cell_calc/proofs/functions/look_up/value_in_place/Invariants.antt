use Rattle.std.proofs.Common.{◌≡◌, drop}
use Rattle.cell_calc.specs.Found.{value_in_place}
use Rattle.cell_calc.proofs.functions.look_up.value_in_place.Given as goal

abbrev pub invariant-loop-cell : goal.invariant-loop-cell
invariant-loop-cell l = value_in_place l.place l.cells ≡ value_in_place l.place (drop l.cell-index l.cells)
