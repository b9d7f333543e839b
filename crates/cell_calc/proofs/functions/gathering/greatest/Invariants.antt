use Rattle.std.proofs.Common.{◌≡◌, take, get_or, pos, fold}
use Rattle.std.specs.Int.{int_max}
use Rattle.cell_calc.proofs.functions.gathering.greatest.Given as goal

abbrev pub invariant-loop-number : goal.invariant-loop-number
invariant-loop-number l = l.greatest ≡ fold int_max (get_or l.numbers 0 (pos 0)) (take l.number-index l.numbers)
