use Rattle.std.proofs.Common.{ap, sym, ◌∙◌, length, arith}
use Rattle.shared_grid.specs.Orders.{entry, number_of}
use Rattle.shared_grid.proofs.Continued.{continued-entry, length-continued}
use Rattle.shared_grid.proofs.order.Order.number.Goals as goal

pub returns : goal.returns
returns c =
    let numbers = c.self.inside.lists.numbers.items in
    c.entry.ensures
    ∙ ap (λ xs. entry xs c.args.line) (c.deref.ensures.value ∙ ap (λ lists. lists.numbers.items) c.value.ensures)
    ∙ sym (continued-entry numbers c.self.inside.kept c.self.invariant.0 c.args.line (omega (
      arith,
      c.requires.there,
      c.requires.order.count,
      ap (λ order. length order.numbers) c.self.view_is,
      length-continued numbers c.self.inside.kept c.self.invariant.0,
    )))
    ∙ ap (λ order. number_of order c.args.line) c.self.view_is
