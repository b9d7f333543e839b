use Rattle.std.proofs.Common.{◌≡◌, ◌==◌, ◌&&◌, subst, ap, sym, ◌∙◌}
use Rattle.std.specs.Prelude.{IfOk}
use Rattle.cell_calc.specs.Found.{value_in_place}
use Rattle.cell_calc.proofs.Finding.{found_in_place}
use Rattle.cell_calc.proofs.Listed.{one_cell, other_cells}
use Rattle.cell_calc.proofs.functions.values.value_of_cells.Goals as goal

pub returns-then-is_one_cell : goal.returns-then-is_one_cell
returns-then-is_one_cell c = λ all are.
    let sizes = ap (λ n. n == 1 && all.columns == 1) (sym are.rows)
    ∙ ap (λ n. c.args.cells.now.rows == 1 && n == 1) (sym are.columns) in
    subst (λ x. IfOk c.value_in_place.result (λ value. value ≡ x))
    (ap (value_in_place 0) c.as_slice.ensures.value
    ∙ found_in_place 0 c.args.cells.now.filled.items all.values are.filled
    ∙ one_cell all.values all.rows all.columns are.all (sizes ∙ sym c.is_one_cell.ensures ∙ c.if-is_one_cell.true))
    c.value_in_place.ensures

pub returns-else-is_one_cell : goal.returns-else-is_one_cell
returns-else-is_one_cell c = λ all are.
    let sizes = ap (λ n. n == 1 && all.columns == 1) (sym are.rows)
    ∙ ap (λ n. c.args.cells.now.rows == 1 && n == 1) (sym are.columns) in
    other_cells all.values all.rows all.columns are.all (sizes ∙ sym c.is_one_cell.ensures ∙ c.if-is_one_cell.false)
