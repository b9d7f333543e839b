use Rattle.std.proofs.Common.{◌≡◌, option_map, ap, sym, subst, ◌∙◌}
use Rattle.std.specs.Prelude.{IfOk}
use Rattle.formula_reader.specs.Tree.{expression_of}
use Rattle.cell_calc.specs.Book.{formula}
use Rattle.cell_calc.specs.Contents.{IsTreeWithin}
use Rattle.cell_calc.specs.FormulaValue.{value_of_cell}
use Rattle.cell_calc.proofs.OneAnswer.{one_answer}
use Rattle.cell_calc.proofs.content_value.value_of_formula.Goals as goal

pub returns : goal.returns
returns g c = λ cell is.
    let book = g.R.CellReader.book c.args.reader.now in
    let read = g.R.CellReader.read c.args.reader.now in
    subst (λ x. IfOk c.value_by_tree.result (λ value. value ≡ value_of_cell book read x))
    (ap formula
    (one_answer (IsTreeWithin c.args.text.now) (option_map expression_of c.in_ok-tree.tree) is.0
    c.in_ok-tree.ensures is.1)
    ∙ sym is.2) c.value_by_tree.ensures
