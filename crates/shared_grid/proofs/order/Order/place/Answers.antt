use Rattle.std.proofs.Common.{◌≤◌, ap, sym, ◌∙◌, length, arith}
use Rattle.shared_grid.specs.Orders.{entry, place_noted}
use Rattle.shared_grid.proofs.Continued.{continued-entry, length-continued}
use Rattle.shared_grid.proofs.order.Order.place.Goals as goal

pub returns : goal.returns
returns c =
    let places = c.self.inside.lists.places.items in
    let within : length places ≤ c.self.inside.kept = omega (arith, c.self.invariant.0, c.self.invariant.1) in
    c.entry.ensures
    ∙ ap (λ xs. entry xs c.args.number) (c.deref.ensures.value ∙ ap (λ lists. lists.places.items) c.value.ensures)
    ∙ sym (continued-entry places c.self.inside.kept within c.args.number (omega (
      arith,
      c.requires,
      ap (λ order. length order.places) c.self.view_is,
      length-continued places c.self.inside.kept within,
    )))
    ∙ ap (λ order. place_noted order c.args.number) c.self.view_is
