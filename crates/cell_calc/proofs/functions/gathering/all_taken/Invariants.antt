use Rattle.std.proofs.Common.{◌≡◌, take}
use Rattle.cell_calc.specs.Taken.{values_of, all_taken}
use Rattle.cell_calc.proofs.functions.gathering.all_taken.Given as goal

abbrev pub invariant-loop-argument : goal.invariant-loop-argument
invariant-loop-argument l = values_of l.values.items ≡ all_taken l.taking (take l.argument-index l.arguments)
