use Rattle.std.proofs.Common.{◌≡◌, min, take}
use Rattle.a1_notation.specs.Column.{letters_value}
use Rattle.a1_notation.proofs.column.capped_column.Given as goal

-- the number of the letters so far, where it isn't past ZZZ
abbrev pub invariant-loop-letter : goal.invariant-loop-letter
invariant-loop-letter l = l.number ≡ min (letters_value (take l.letter-index l.letters)) 18279
