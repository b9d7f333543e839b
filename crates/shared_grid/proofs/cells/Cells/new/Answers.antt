use Rattle.std.proofs.Common.{sym, subst}
use Rattle.shared_grid.specs.Cells.{HasMarks}
use Rattle.shared_grid.proofs.Marks.{no_items}
use Rattle.shared_grid.proofs.cells.Cells.new.Goals as goal

pub invariant_of-result : goal.invariant_of-result
invariant_of-result g c =
    subst (λ items. HasMarks items c.in_ok-marks.marks) (sym c.in_ok-items.ensures) (no_items c.in_ok-marks.marks)
