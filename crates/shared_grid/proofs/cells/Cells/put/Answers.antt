use Rattle.std.proofs.Common.{refl, sym, ap, ◌∙◌, arith}
use Rattle.std.specs.Prelude.{is_some}
use Rattle.std.specs.FinMap as map
use Rattle.shared_grid.specs.Cells.{HasMarks}
use Rattle.shared_grid.proofs.Marks.{either, lent_is_some, put_both, put_mark, put_over}
use Rattle.shared_grid.proofs.cells.Cells.put.Goals as goal

pub invariant_of-self : goal.invariant_of-self
invariant_of-self g c =
    let items = c.self.inside.items in
    let marks = c.self.inside.marks in
    either (λ after. HasMarks after marks) c.put.new.self
    (map.insert items c.key-at.result c.args.item) items c.put.result c.put.ensures.put c.put.ensures.unchanged
    (put_over items marks c.self.invariant c.key-at.result
    (ap is_some (sym c.get.ensures) ∙ lent_is_some c.get.result ∙ sym c.is_some.ensures ∙ c.if-is_some.true)
    c.args.item (map.insert items c.key-at.result c.args.item) refl)
    c.self.invariant

pub invariant_of-self-in-Ok : goal.invariant_of-self-in-Ok
invariant_of-self-in-Ok g c =
    let items = c.self.inside.items in
    let marks = c.self.inside.marks in
    either (λ after. HasMarks after c.put-2.new.self) c.put-in-Ok.new.self
    (map.insert items c.key-at.result c.args.item) items c.put-in-Ok.result c.put-in-Ok.ensures.put
    c.put-in-Ok.ensures.unchanged
    (put_both items marks c.self.invariant c.args.row c.args.column (omega arith) (omega arith)
    c.key-at.result c.key.result c.key-at.ensures c.key.ensures c.args.item c.put-2.new.self _ c.in-Ok.ensures.put)
    (put_mark items marks c.self.invariant c.args.row c.args.column (omega arith) (omega arith)
    c.key.result c.key.ensures c.put-2.new.self _ c.in-Ok.ensures.put)
