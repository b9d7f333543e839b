use Rattle.std.proofs.Common.{ap, sym, subst, ◌∙◌, w64, FitsSigned}
use Rattle.std.proofs.lemmas.Int.{to_z-of_z}
use Rattle.cell_calc.specs.Conversion.{within}
use Rattle.cell_calc.proofs.WholeTexts.{number_read, number_missed}
use Rattle.cell_calc.proofs.conversion.number_in.Goals as goal

pub returns-in-Ok : goal.returns-in-Ok
returns-in-Ok c =
    let fits = subst (FitsSigned w64) (sym c.in-Ok.ensures.value.0.1) c.in-Ok.ensures.value.0.0.1 in
    c.within.ensures
    ∙ ap within (to_z-of_z w64 c.in-Ok.number fits ∙ c.in-Ok.ensures.value.0.1)
    ∙ number_read c.args.text.now c.in-Ok.ensures.value.0.0.0

pub returns-in-Err : goal.returns-in-Err
returns-in-Err c = number_missed c.args.text.now c.in-Err.ensures.value.0
