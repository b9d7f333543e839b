use Rattle.std.proofs.lemmas.Result.{on_ok_weaker}
use Rattle.cell_calc.proofs.Calculating.{one_area_more}
use Rattle.cell_calc.proofs.calculation.calculate_more.Goals as goal

pub returns-clause-kept : goal.returns-clause-kept
returns-clause-kept g c =
    let contents = g.C.CellsOf.contents c.args.cells.now in
    let area = c.args.area.now in
    on_ok_weaker c.calculate_area.result
    (λ calculates. λ areas values. one_area_more contents area areas _ _ c.requires.right calculates values)
    c.calculate_area.ensures
