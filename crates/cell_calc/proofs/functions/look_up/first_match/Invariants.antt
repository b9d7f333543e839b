use Rattle.std.proofs.Common.{◌≡◌, drop}
use Rattle.cell_calc.specs.Found.{first_match}
use Rattle.cell_calc.proofs.functions.look_up.first_match.Given as goal

abbrev pub invariant-loop-cell : goal.invariant-loop-cell
invariant-loop-cell l = first_match l.key l.cells ≡ first_match l.key (drop l.cell-index l.cells)
