use Rattle.std.proofs.Common.{◌≡◌, rules, map, ap, subst, sym, ◌∙◌}
use Rattle.formula_reader.specs.declared.tree.Tree.{Tree}
use Rattle.formula_reader.specs.declared.tree.Tree.TheBlock.{items-the_row-Tree, hidden-the_row-Tree-0}
use Rattle.formula_reader.specs.declared.tree.Tree.TheViews.{the_lemmas}
use Rattle.formula_reader.specs.Tree.{expression_of, arguments_of}
use Rattle.cell_calc.specs.Arguments.{single}
use Rattle.cell_calc.specs.Lent.{StandFor}
use Rattle.cell_calc.specs.FormulaValue.{given_by, all_given_by}
use Rattle.cell_calc.specs.FunctionValues.{called_value}
use Rattle.cell_calc.proofs.AllGiven.{each_gives, one_more_given}
use Rattle.cell_calc.proofs.evaluation.+evaluation.Goals as goal

pub all_given-loop-tree-preserved : goal.all_given-loop-tree-preserved
all_given-loop-tree-preserved g t c =
    let book = g.R.CellReader.book c.args.reader.now in
    let read = g.R.CellReader.read c.args.reader.now in
    let trees = c.args.trees.now in
    rw c.in_ok-push.ensures.items
    (one_more_given book read trees c.loop-tree.tree-index c.tree-item.result c.loop-tree.arguments.items
    c.in_ok-given.field-0 c.loop-tree-test.true c.tree-item.is c.loop-tree.invariant c.in_ok-given.ensures)

pub given-returns-in_ok-called_value-in-Call : goal.given-returns-in_ok-called_value-in-Call
given-returns-in_ok-called_value-in-Call g t c =
    let book = g.R.CellReader.book c.args.reader.now in
    let read = g.R.CellReader.read c.args.reader.now in
    let own = hidden-the_row-Tree-0 c.in-Call.trees in
    let same : items-the_row-Tree _ own ≡ c.in-Call.trees = search (rules, the_lemmas) in
    let gives = λ (tree : Tree). given_by book read (expression_of tree) in
    let all = all_given_by book read (arguments_of own) in
    let each : map gives c.as_slice.result.now ≡ all =
    ap (map gives) (c.as_slice.ensures ∙ sym same) ∙ sym (each_gives book read _ own) in
    let stand : StandFor c.as_slice-in-Call.result.now all =
    rw c.as_slice-in-Call.ensures.value
    (subst (StandFor c.in_ok-arguments-in-Call.arguments.items) each c.in_ok-arguments-in-Call.ensures) in
    ap gives c.in-Call.is ∙ ap (λ name. single (called_value name all)) (sym c.as_str-in-Call.ensures)
    ∙ ap single (sym (c.in_ok-called_value-in-Call.ensures all stand))
