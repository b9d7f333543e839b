use Rattle.std.proofs.Common.{◌≡◌, subst, sym, ap, ◌∙◌}
use Rattle.std.specs.Prelude.{IfOk}
use Rattle.cell_calc.specs.Arguments.{cells_given}
use Rattle.cell_calc.specs.Outcome.{value_by, both}
use Rattle.cell_calc.specs.LookUpFunctions.{criterion, sum_beside}
use Rattle.cell_calc.specs.Lent.{StandsFor}
use Rattle.cell_calc.proofs.LookUps.{with_first}
use Rattle.cell_calc.proofs.functions.sum_if.summed_in.Goals as goal

pub returns-in_ok-criterion-in-Area : goal.returns-in_ok-criterion-in-Area
returns-in_ok-criterion-in-Area c = λ x y stands stand.
    let lent = subst (λ argument. StandsFor argument x) c.in-Area.is stands in
    subst (λ r. IfOk c.summed_cells.result (λ value. value ≡ r))
    (ap (λ k. value_by (λ found. sum_beside found.0 lent.0 found.1) (both k (cells_given y)))
    c.in_ok-criterion-in-Area.ensures
    ∙ with_first lent.0 (both (criterion c.args.key.now) (cells_given y))
    ∙ ap (λ g. value_by (λ found. sum_beside found.1.0 found.0 found.1.1)
    (both (cells_given g) (both (criterion c.args.key.now) (cells_given y)))) (sym lent.1))
    (c.summed_cells.ensures lent.0 y lent.2 stand)
