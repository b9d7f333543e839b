use Rattle.std.proofs.Common.{◌≡◌, Some, None, subst}
use Rattle.std.specs.Prelude.{IfOk}
use Rattle.cell_calc.specs.Conversion.{error_in}
use Rattle.cell_calc.proofs.LookUps.{areas_around, summed_by}
use Rattle.cell_calc.proofs.functions.sum_if.matches_summed.Goals as goal

pub returns-in-Some : goal.returns-in-Some
returns-in-Some c = λ x y stands stand.
    summed_by x c.args.key.now y (Some c.in-Some.fault)
    (areas_around c.args.area.now c.args.others.now x y (error_in c.args.key.now) (Some c.in-Some.fault)
    stands stand cc)

pub returns-in-None : goal.returns-in-None
returns-in-None c = λ x y stands stand.
    subst (λ result. IfOk c.summed_in.result (λ value. value ≡ result))
    (summed_by x c.args.key.now y None
    (areas_around c.args.area.now c.args.others.now x y (error_in c.args.key.now) None stands stand cc))
    (c.summed_in.ensures x y stands stand)
