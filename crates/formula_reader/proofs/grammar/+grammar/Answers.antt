use Rattle.std.proofs.Common.{◌≡◌, ℕ, List, map, ap, ◌∙◌, arith, length}
use Rattle.std.specs.Prelude.{Some, None}
use Rattle.std.proofs.lemmas.List.{map-append}
use Rattle.formula_reader.specs.Tree.{expression_of, call, no_arguments, arguments_before}
use Rattle.formula_reader.proofs.Answers.{alike_both, answer_alike, answer_alike_ok, on_alike, on_none, on_end, chain_alike, chain_none, left_within}
use Rattle.formula_reader.proofs.Operands.{signed_answer, signed_none, leaf_read, leaf_none, empty_none, bracket_answer, bracket_none, bracket_open, call_answer, call_none, call_bare}
use Rattle.formula_reader.proofs.Lists.{comma_alike, close_answer, argument_none, other_none}
use Rattle.formula_reader.proofs.grammar.+grammar.Goals as goal

pub unary::read_unary-returns-in_ok-with_minus-in-Some :
    goal.unary::read_unary-returns-in_ok-with_minus-in-Some
unary::read_unary-returns-in_ok-with_minus-in-Some t c =
    signed_answer c.args.symbols.now _ _ _ _ c.in-Some.rest.now c.read_signs-minus.ensures.minus
    c.read_signs-minus.ensures.behind c.in_ok-with_minus-in-Some.ensures (rw c.in-Some.is at c.in_ok-tree.ensures)

pub unary::read_unary-returns-in-None : goal.unary::read_unary-returns-in-None
unary::read_unary-returns-in-None t c =
    signed_none c.args.symbols.now _ c.read_signs-minus.ensures.behind (rw c.in-None.is at c.in_ok-tree.ensures)

pub chain::read_chain-returns-in-Some : goal.chain::read_chain-returns-in-Some
chain::read_chain-returns-in-Some t c =
    answer_alike_ok _ _ _ c.read_operands.result
    (chain_alike c.args.level _ c.args.symbols.now (expression_of c.in-Some.first) c.in-Some.rest.now c.requires
    c.tighter.ensures (rw c.in-Some.is at c.in_ok-first.ensures))
    c.read_operands.ensures

pub chain::read_chain-returns-in-None : goal.chain::read_chain-returns-in-None
chain::read_chain-returns-in-None t c =
    chain_none c.args.level _ c.args.symbols.now c.requires c.tighter.ensures (rw c.in-None.is at c.in_ok-first.ensures)

pub chain::read_operands-loop-operator-preserved : goal.chain::read_operands-loop-operator-preserved
chain::read_operands-loop-operator-preserved t c =
    let is = rw c.in-Some-2.is at c.in_ok-operand.ensures in
    let level : c.tighter.result ≡ _ = c.tighter.ensures in
    record {
      alike = alike_both _ _ _ c.loop-operator.invariant.alike
          (on_alike c.args.level _ (expression_of c.loop-operator.tree)
          (expression_of c.in-Some-2.operand) _ c.in-Some.operator
          c.loop-operator.rest.now c.in-Some.behind.now c.in-Some-2.more.now c.in-Some.ensures.some.0
          c.in-Some.ensures.some.1
          level c.in_ok-tree-in-Some-2.ensures is);
      ends = rw level at is.0.ends;
      left = omega (arith, left_within _ _ _ _ is.0, ap length c.in-Some.ensures.some.0);
    }

pub chain::read_operands-returns-in-None : goal.chain::read_operands-returns-in-None
chain::read_operands-returns-in-None t c =
    answer_alike _ _ None c.loop-operator.invariant.alike
    (on_none c.args.level _ (expression_of c.loop-operator.tree) c.in-Some.operator c.loop-operator.rest.now
    c.in-Some.behind.now c.in-Some.ensures.some.0 c.in-Some.ensures.some.1 c.tighter.ensures
    (rw c.in-None.is at c.in_ok-operand.ensures))

pub chain::read_operands-returns : goal.chain::read_operands-returns
chain::read_operands-returns t c =
    answer_alike _ _
    (Some (expression_of c.loop-operator.tree, c.loop-operator.rest.now)) c.loop-operator.invariant.alike
    (on_end c.args.level (expression_of c.loop-operator.tree) c.loop-operator.rest.now c.requires.level
    c.loop-operator.invariant.ends c.in_default.ensures.none)

pub primary::read_bracket-returns-in_default : goal.primary::read_bracket-returns-in_default
primary::read_bracket-returns-in_default t c =
    bracket_none c.args.symbols.now (rw c.in_default.is at c.in_ok-tree.ensures)

pub primary::read_bracket-returns-in-Some-strip_close : goal.primary::read_bracket-returns-in-Some-strip_close
primary::read_bracket-returns-in-Some-strip_close t c =
    bracket_answer c.args.symbols.now (expression_of c.in-Some.tree) c.in-Some.behind.now c.in-Some-strip_close.rest.now
    c.in-Some-strip_close.ensures.some (rw c.in-Some.is at c.in_ok-tree.ensures)

pub primary::read_bracket-returns-in-None : goal.primary::read_bracket-returns-in-None
primary::read_bracket-returns-in-None t c =
    bracket_open c.args.symbols.now (expression_of c.in-Some.tree) c.in-Some.behind.now
    (rw c.in-Some.is at c.in_ok-tree.ensures) c.in-None.ensures.none

pub primary::read_primary-returns-in_default : goal.primary::read_primary-returns-in_default
primary::read_primary-returns-in_default t c = empty_none c.args.symbols.now c.in_default.ensures.cases

pub primary::read_primary-returns-in-Some-2 : goal.primary::read_primary-returns-in-Some-2
primary::read_primary-returns-in-Some-2 t c =
    leaf_read c.args.symbols.now c.in-Some.first.now c.in-Some.rest.now (expression_of c.in-Some-2.tree)
    c.in-Some.ensures.cases.0 c.in_default-first.not-Open c.in_default-first.not-Function
    (rw c.in-Some-2.is at c.in_ok-tree-in_default-first.ensures)

pub primary::read_primary-returns-in-None : goal.primary::read_primary-returns-in-None
primary::read_primary-returns-in-None t c =
    leaf_none c.args.symbols.now c.in-Some.first.now c.in-Some.rest.now
    c.in-Some.ensures.cases.0 c.in_default-first.not-Open c.in_default-first.not-Function
    (rw c.in-None.is at c.in_ok-tree-in_default-first.ensures)

pub primary::read_call-returns-in_default : goal.primary::read_call-returns-in_default
primary::read_call-returns-in_default t c = call_bare c.args.name.now c.args.symbols.now c.in_default.ensures.none

pub primary::read_call-returns-in-None : goal.primary::read_call-returns-in-None
primary::read_call-returns-in-None t c =
    call_none c.args.name.now c.args.symbols.now c.in-Some.inside.now c.in-Some.ensures.some
    (rw c.in-None.is at c.in_ok-arguments.ensures)

pub primary::read_call-returns-in_ok-duplicate-in-Some-2 : goal.primary::read_call-returns-in_ok-duplicate-in-Some-2
primary::read_call-returns-in_ok-duplicate-in-Some-2 t c =
    let trees = arguments_before (map expression_of c.in-Some-2.arguments.items) no_arguments in
    call_answer c.args.name.now c.args.symbols.now c.in-Some.inside.now (expression_of c.call.result) trees
    c.in-Some-2.rest.now c.in-Some.ensures.some
    (c.call.ensures ∙ ap (λ (name : List ℕ). call name trees) c.in_ok-duplicate-in-Some-2.ensures)
    (rw c.in-Some-2.is at c.in_ok-arguments.ensures)

pub arguments::read_list-returns-in_default : goal.arguments::read_list-returns-in_default
arguments::read_list-returns-in_default t c =
    answer_alike _ _ None c.loop-arguments.invariant.alike
    (argument_none _ c.loop-arguments.unread.now (rw c.in_default.is at c.in_ok-argument.ensures))

pub arguments::read_list-returns-in-None : goal.arguments::read_list-returns-in-None
arguments::read_list-returns-in-None t c =
    answer_alike _ _ None c.loop-arguments.invariant.alike
    (other_none _ c.loop-arguments.unread.now (expression_of c.in-Some.argument) c.in-Some.rest.now
    (rw c.in-Some.is at c.in_ok-argument.ensures) c.in-None.ensures.none c.in_default-strip_close.ensures.none)

pub arguments::read_list-returns-in-Some-strip_close : goal.arguments::read_list-returns-in-Some-strip_close
arguments::read_list-returns-in-Some-strip_close t c =
    let all = map expression_of c.push.new.self.items in
    answer_alike _ _
    (Some (arguments_before all no_arguments, c.in-Some-strip_close.more.now)) c.loop-arguments.invariant.alike
    (close_answer _ all c.loop-arguments.unread.now (expression_of c.in-Some.argument) c.in-Some.rest.now
    c.in-Some-strip_close.more.now (ap (map expression_of) c.in_ok-push.ensures.items ∙ map-append expression_of _ _)
    c.in-Some-strip_close.ensures.some (rw c.in-Some.is at c.in_ok-argument.ensures))

pub arguments::read_list-loop-arguments-preserved : goal.arguments::read_list-loop-arguments-preserved
arguments::read_list-loop-arguments-preserved t c =
    let is = rw c.in-Some.is at c.in_ok-argument.ensures in
    record {
      alike = alike_both _ _ _ c.loop-arguments.invariant.alike
          (comma_alike _ (map expression_of c.push.new.self.items) c.loop-arguments.unread.now
          (expression_of c.in-Some.argument)
          c.in-Some.rest.now c.in-Some-strip_comma.more.now
          (ap (map expression_of) c.in_ok-push.ensures.items ∙ map-append expression_of _ _)
          c.in-Some-strip_comma.ensures.some is);
      left = omega (arith, left_within _ _ _ _ is.0, ap length c.in-Some-strip_comma.ensures.some);
    }
