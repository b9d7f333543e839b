use Rattle.std.proofs.Common.{subst}
use Rattle.std.proofs.lemmas.List.{take_all}
use Rattle.cell_calc.specs.Marks.{marks_of}
use Rattle.cell_calc.specs.Walk.{Notes}
use Rattle.cell_calc.proofs.Noting.{no_cell_seen, one_more_seen}
use Rattle.cell_calc.proofs.walk.all_noted.Goals as goal

pub loop-cell-init : goal.loop-cell-init
loop-cell-init c = no_cell_seen _ _ _ _ c.new-noted.ensures.items

pub loop-cell-preserved : goal.loop-cell-preserved
loop-cell-preserved c =
    one_more_seen _ _ c.args.cells.now c.loop-cell.cell-index c.cell-item.result _ c.loop-cell-test.true c.cell-item.is
    _ _ c.loop-cell.invariant
    c.in_ok-look_at.ensures

pub returns : goal.returns
returns c =
    subst (λ first. Notes (marks_of c.args.table.now) c.args.sheet c.args.cells.now first c.loop-cell.noted.items)
    (take_all c.loop-cell.cell-index c.args.cells.now c.loop-cell-test.false) c.loop-cell.invariant
