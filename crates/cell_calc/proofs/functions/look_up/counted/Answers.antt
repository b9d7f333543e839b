use Rattle.std.proofs.Common.{List, pos, count_by, ap, sym, ◌∙◌}
use Rattle.cell_calc.specs.declared.arguments.FilledCell.{FilledCell}
use Rattle.cell_calc.specs.Outcome.{whole, value_by}
use Rattle.cell_calc.specs.LookUpFunctions.{is_match}
use Rattle.cell_calc.specs.Found.{is_matching}
use Rattle.cell_calc.proofs.Finding.{found_all}
use Rattle.cell_calc.proofs.functions.look_up.counted.Goals as goal

pub returns-in-Ok : goal.returns-in-Ok
returns-in-Ok c = λ all are.
    c.count_of.ensures
    ∙ ap (λ (cells : List FilledCell). whole (pos (count_by (is_matching c.in-Ok.key) cells))) c.as_slice.ensures.value
    ∙ ap (λ n. whole (pos n)) (found_all c.in-Ok.key c.args.cells.now.filled.items all.values are.filled)
    ∙ ap (value_by (λ key. whole (pos (count_by (is_match key) all.values)))) (sym c.in-Ok.is)
