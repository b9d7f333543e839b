use Rattle.std.proofs.Common.{Contains, subst, sym}
use Rattle.std.proofs.lemmas.List.Elements.{Contains-get_or}
use Rattle.cell_calc.proofs.Calculating.{one_more_cell, no_cell}
use Rattle.cell_calc.proofs.calculation.settle_all.Goals as goal

pub loop-cell-init : goal.loop-cell-init
loop-cell-init g c = no_cell _ _ _

pub settle_content-requires : goal.settle_content-requires
settle_content-requires g c =
    c.requires c.cell-item.result
    (subst (Contains c.args.stored.now) (sym c.cell-item.is)
    (Contains-get_or c.args.stored.now c.loop-cell.cell-index c.cell-item.result c.loop-cell-test.true))

pub loop-cell-preserved : goal.loop-cell-preserved
loop-cell-preserved g c =
    one_more_cell _ _ c.args.stored.now c.loop-cell.cell-index _ c.cell-item.result c.loop-cell-test.true
    c.cell-item.is _ _ _
    c.loop-cell.invariant c.in_ok-settle_content.ensures.goes c.in_ok-settle_content.ensures.met
