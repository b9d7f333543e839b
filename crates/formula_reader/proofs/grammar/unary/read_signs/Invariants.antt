use Rattle.std.proofs.Common.{◌≡◌, ◌+◌, ◌≤◌, length}
use Rattle.formula_reader.specs.LevelReading.{signs}
use Rattle.formula_reader.proofs.grammar.unary.read_signs.Given as goal

-- the signs so far and those of the rest are all of them
abbrev pub invariant-loop-rest : goal.invariant-loop-rest
invariant-loop-rest l = record {
  minus : l.minus + (signs l.rest).0 ≡ (signs l.symbols).0;
  behind : (signs l.rest).1 ≡ (signs l.symbols).1;
  room : l.minus + length l.rest ≤ length l.symbols;
}

abbrev pub decreases-loop-rest : goal.decreases-loop-rest
decreases-loop-rest l = length l.rest
