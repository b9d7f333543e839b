use Rattle.std.proofs.Common.{◌+◌, ◌-◌, ◌*◌, ◌≤◌, length, map}
use Rattle.formula_reader.specs.LevelReading.{rank, Ends, ReadsArguments, ReadsOn}
use Rattle.formula_reader.specs.Grammar.{tighter}
use Rattle.formula_reader.specs.Tree.{expression_of}
use Rattle.formula_reader.proofs.Answers.{Alike}
use Rattle.formula_reader.proofs.Lists.{ReadsMore}
use Rattle.formula_reader.proofs.grammar.+grammar.Given as goal

-- the symbols that are left, and for as many of them the levels that are left
abbrev pub decreases-arguments::read_arguments : goal.decreases-arguments::read_arguments
decreases-arguments::read_arguments l = 16 * length l.symbols.now + 14

abbrev pub decreases-arguments::read_list : goal.decreases-arguments::read_list
decreases-arguments::read_list l = 16 * length l.symbols.now + 13

abbrev pub decreases-chain::read : goal.decreases-chain::read
decreases-chain::read l = 16 * length l.symbols.now + (12 - 2 * rank l.level)

abbrev pub decreases-chain::read_chain : goal.decreases-chain::read_chain
decreases-chain::read_chain l = 16 * length l.symbols.now + (11 - 2 * rank l.level)

abbrev pub decreases-chain::read_operands : goal.decreases-chain::read_operands
decreases-chain::read_operands l = 16 * length l.symbols.now

abbrev pub decreases-primary::read_bracket : goal.decreases-primary::read_bracket
decreases-primary::read_bracket l = 16 * length l.symbols.now + 15

abbrev pub decreases-primary::read_call : goal.decreases-primary::read_call
decreases-primary::read_call l = 16 * length l.symbols.now + 15

abbrev pub decreases-primary::read_primary : goal.decreases-primary::read_primary
decreases-primary::read_primary l = 16 * length l.symbols.now + 1

abbrev pub decreases-unary::read_unary : goal.decreases-unary::read_unary
decreases-unary::read_unary l = 16 * length l.symbols.now + 3

-- the arguments so far and those that are left are all of them
abbrev pub invariant-arguments::read_list-loop-arguments :
    goal.invariant-arguments::read_list-loop-arguments
invariant-arguments::read_list-loop-arguments l = record {
  alike : Alike (ReadsArguments l.fn.symbols) (ReadsMore (map expression_of l.arguments.items) l.unread);
  left : length l.unread ≤ length l.fn.symbols;
}

abbrev pub decreases-arguments::read_list-loop-arguments :
    goal.decreases-arguments::read_list-loop-arguments
decreases-arguments::read_list-loop-arguments l = length l.unread

-- behind the operands so far, what is read on is what is read on behind the first
abbrev pub invariant-chain::read_operands-loop-operator :
    goal.invariant-chain::read_operands-loop-operator
invariant-chain::read_operands-loop-operator l = record {
  alike : Alike (ReadsOn l.level (expression_of l.fn.first) l.fn.symbols)
      (ReadsOn l.level (expression_of l.tree) l.rest);
  ends : Ends (tighter l.level) l.rest;
  left : length l.rest ≤ length l.fn.symbols;
}

abbrev pub decreases-chain::read_operands-loop-operator :
    goal.decreases-chain::read_operands-loop-operator
decreases-chain::read_operands-loop-operator l = length l.rest
