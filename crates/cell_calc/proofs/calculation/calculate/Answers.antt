use Rattle.std.proofs.Common.{map, ap, subst, ◌∙◌}
use Rattle.std.proofs.lemmas.Result.{IfOk-weaker}
use Rattle.cell_calc.specs.Marks.{values_of}
use Rattle.cell_calc.specs.Calculated.{AreValues, whole_sheet}
use Rattle.cell_calc.proofs.Calculating.{are_all_values}
use Rattle.cell_calc.proofs.calculation.calculate.Goals as goal

pub returns : goal.returns
returns g c =
    let contents = g.C.CellsOf.contents c.args.cells.now in
    let same = c.as_slice-2.ensures.value ∙ c.in_ok-areas.ensures
    ∙ ap (map whole_sheet) (c.as_slice.ensures ∙ c.sheets.ensures) in
    IfOk-weaker c.calculate_for.result _ _
    (λ table values. are_all_values contents c.stay_sound.ensures (values_of table)
    (subst (λ l. AreValues contents l (values_of table)) same values))
    c.calculate_for.ensures
