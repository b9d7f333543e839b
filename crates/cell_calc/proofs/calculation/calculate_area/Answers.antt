use Rattle.std.proofs.Common.{subst, sym}
use Rattle.std.proofs.lemmas.Result.{on_ok_weaker}
use Rattle.cell_calc.specs.Contents.{AreOnSheet}
use Rattle.cell_calc.specs.Marks.{marks_of}
use Rattle.cell_calc.specs.Calculated.{SettlesAll}
use Rattle.cell_calc.proofs.Calculating.{all_of_area}
use Rattle.cell_calc.proofs.calculation.calculate_area.Goals as goal

pub returns : goal.returns
returns g c =
    let contents = g.C.CellsOf.contents c.args.cells.now in
    let stored = c.in_ok-stored.stored.items in
    on_ok_weaker c.settle_all.result
    (λ settles. all_of_area contents c.args.area.now stored c.in_ok-stored.ensures _ _
    (subst (λ l. SettlesAll contents c.args.area.now.sheet l (marks_of c.args.table.now)
    (marks_of c.settle_all.new.table))
    c.as_slice.ensures.value settles))
    c.settle_all.ensures

pub settle_all-requires : goal.settle_all-requires
settle_all-requires g c =
    subst (AreOnSheet (g.C.CellsOf.contents c.args.cells.now) c.args.area.now.sheet) (sym c.as_slice.ensures.value)
    c.in_ok-stored.ensures.content
