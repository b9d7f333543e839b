use Rattle.std.proofs.Common.{arith}
use Rattle.std.specs.FinMap as map
use Rattle.shared_grid.specs.Cells.{HasMarks}
use Rattle.shared_grid.proofs.Marks.{either, taken_both, taken_item}
use Rattle.shared_grid.proofs.cells.Cells.take.Goals as goal

pub invariant_of-self-2 : goal.invariant_of-self-2
invariant_of-self-2 g c =
    let items = c.self.inside.items in
    let marks = c.self.inside.marks in
    either (λ after. HasMarks c.take.new.self after) c.take-2.new.self
    (map.remove marks c.key-2.result) marks c.take-2.result c.take-2.ensures.taken c.take-2.ensures.unchanged
    (taken_both items marks c.self.invariant c.args.row c.args.column (omega arith) (omega arith)
    c.key.result c.key-2.result c.key.ensures c.key-2.ensures c.take.new.self c.in_ok-item.ensures.taken)
    (taken_item items marks c.self.invariant c.key.result c.take.new.self c.in_ok-item.ensures.taken)
