use Rattle.std.proofs.Common.{◌≡◌, ◌≤◌, length, ap, sym, ◌∙◌, arith}
use Rattle.std.proofs.lemmas.Bool.{eqb-true}
use Rattle.std.specs.Vec.{vec_len}
use Rattle.shared_grid.specs.Orders.{number_of, place_noted}
use Rattle.shared_grid.proofs.Continued.{continued-entry, entry_behind, length-continued}
use Rattle.shared_grid.proofs.order.Order.is_plain.Goals as goal

pub returns : goal.returns
returns c = λ empty.
    let numbers = c.self.inside.lists.numbers.items in
    let places = c.self.inside.lists.places.items in
    let none : length c.self.inside.lists.numbers.items ≡ 0 =
    ap (λ lists. length lists.numbers.items) (sym c.value.ensures)
    ∙ sym c.value.result.now.numbers.ok.0
    ∙ eqb-true (vec_len c.value.result.now.numbers) 0 (sym c.is_empty.ensures ∙ empty) in
    let within : length places ≤ c.self.inside.kept = omega (arith, c.self.invariant.0, c.self.invariant.1) in
    record {
      numbers = λ line there.
          sym (ap (λ order. number_of order line) c.self.view_is)
          ∙ continued-entry numbers c.self.inside.kept c.self.invariant.0 line (omega (
            arith,
            there,
            ap (λ order. length order.numbers) c.self.view_is,
            length-continued numbers c.self.inside.kept c.self.invariant.0,
          ))
          ∙ entry_behind numbers line (omega (arith, none));
      places = λ number there.
          sym (ap (λ order. place_noted order number) c.self.view_is)
          ∙ continued-entry places c.self.inside.kept within number (omega (
            arith,
            there,
            ap (λ order. length order.places) c.self.view_is,
            length-continued places c.self.inside.kept within,
          ))
          ∙ entry_behind places number (omega (arith, none, c.self.invariant.1));
    }
