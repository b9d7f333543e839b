use Rattle.std.proofs.Common.{◌≡◌}
use Rattle.formula_reader.specs.LevelReading.{negated}
use Rattle.formula_reader.specs.Tree.{expression_of}
use Rattle.formula_reader.proofs.grammar.unary.with_minus.Given as goal

-- so many signs stand before the tree so far
abbrev pub invariant-loop : goal.invariant-loop
invariant-loop l = expression_of l.signed ≡ negated l.counter (expression_of l.fn.tree)
