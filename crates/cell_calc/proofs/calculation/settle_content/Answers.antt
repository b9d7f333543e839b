use Rattle.std.proofs.Common.{ap, Some, ◌∙◌}
use Rattle.std.proofs.lemmas.Result.{on_ok_weaker}
use Rattle.cell_calc.proofs.Going.{meets_alone}
use Rattle.cell_calc.proofs.calculation.settle_content.Goals as goal

pub returns-in-Formula-clause-goes : goal.returns-in-Formula-clause-goes
returns-in-Formula-clause-goes g c =
    on_ok_weaker c.settle.result (meets_alone _ _ _ _) (c.settle.ensures (c.requires ∙ ap Some c.in-Formula.is))

pub returns-in-Formula-clause-met : goal.returns-in-Formula-clause-met
returns-in-Formula-clause-met g c =
    on_ok_weaker c.settle.result (λ meets formed. meets.met) (c.settle.ensures (c.requires ∙ ap Some c.in-Formula.is))
