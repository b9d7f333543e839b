use Rattle.std.proofs.Common.{◌≡◌, drop}
use Rattle.cell_calc.proofs.AllGood.{leftmost_lent}
use Rattle.cell_calc.proofs.functions.gathering.error_among.Given as goal

abbrev pub invariant-loop-argument : goal.invariant-loop-argument
invariant-loop-argument l = leftmost_lent l.arguments ≡ leftmost_lent (drop l.argument-index l.arguments)
