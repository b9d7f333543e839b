use Rattle.std.proofs.Common.{refl, subst}
use Rattle.std.proofs.lemmas.List.{take_all}
use Rattle.grid_range.specs.declared.band.Band.TheVariants.{Whole}
use Rattle.cell_calc.specs.Marks.{marks_of}
use Rattle.cell_calc.specs.Calculated.{Calculated}
use Rattle.cell_calc.proofs.Calculating.{nothing_known, one_more_area, are_values}
use Rattle.cell_calc.proofs.calculation.calculate_for.Goals as goal

pub loop-area-init : goal.loop-area-init
loop-area-init g c = nothing_known _ _ c.new-table.ensures.none

pub loop-area-preserved : goal.loop-area-preserved
loop-area-preserved g c =
    one_more_area _ c.args.areas.now c.loop-area.area-index _ (record { sheet = 0; rows = Whole; cols = Whole })
    c.loop-area-test.true refl _ _ c.loop-area.invariant c.in_ok-calculate_area.ensures

pub returns : goal.returns
returns g c =
    let contents = g.C.CellsOf.contents c.args.cells.now in
    are_values contents c.args.areas.now (marks_of c.loop-area.table)
    (subst (λ l. Calculated contents l (marks_of c.loop-area.table))
    (take_all c.loop-area.area-index c.args.areas.now c.loop-area-test.false) c.loop-area.invariant)
