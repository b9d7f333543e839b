use Rattle.std.proofs.Common.{◌≡◌, take, get_or, pos, fold}
use Rattle.std.specs.Int.{int_min}
use Rattle.cell_calc.proofs.functions.gathering.least.Given as goal

abbrev pub invariant-loop-number : goal.invariant-loop-number
invariant-loop-number l = l.least ≡ fold int_min (get_or l.numbers 0 (pos 0)) (take l.number-index l.numbers)
