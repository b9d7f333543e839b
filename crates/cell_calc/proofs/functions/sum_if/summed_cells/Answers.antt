use Rattle.std.proofs.Common.{◌≡◌, subst, sym}
use Rattle.std.specs.Prelude.{IfOk}
use Rattle.cell_calc.specs.Arguments.{cells_given}
use Rattle.cell_calc.specs.Outcome.{value_by, both}
use Rattle.cell_calc.specs.LookUpFunctions.{sum_beside}
use Rattle.cell_calc.proofs.LookUps.{with_key}
use Rattle.cell_calc.proofs.functions.sum_if.summed_cells.Goals as goal

pub returns-in-Ok : goal.returns-in-Ok
returns-in-Ok c = λ all y are stands.
    subst (λ k. IfOk c.summed_others.result
    (λ value. value ≡ value_by (λ found. sum_beside found.0 all found.1) (both k (cells_given y))))
    (sym c.in-Ok.is)
    (subst (λ x. IfOk c.summed_others.result (λ value. value ≡ x)) (with_key all c.in-Ok.key (cells_given y))
    (c.summed_others.ensures all y are stands))
