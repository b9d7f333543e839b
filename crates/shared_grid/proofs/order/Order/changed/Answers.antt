use Rattle.std.proofs.Common.{◌≡◌, inl, inr, sym, length, ap, ◌∙◌, arith, get_or}
use Rattle.shared_grid.proofs.Continued.{still}
use Rattle.shared_grid.proofs.Turned.{numbers_turned}
use Rattle.shared_grid.proofs.Changed.{turns, are_moved}
use Rattle.grid_range.specs.Change.{count_after}
use Rattle.shared_grid.specs.Orders.{parts_of}
use Rattle.shared_grid.proofs.order.Order.changed.Goals as goal

pub turn-requires : goal.turn-requires
turn-requires c =
    let turned = turns c.places_stay_apart.ensures c.places_stay_below.ensures c.args.change.now c.args.self.now.count
    c.requires.fits c.parts_of-start.result
    (c.parts_of-start.ensures ∙ ap (parts_of c.args.change.now) (ap (λ order. order.count) c.self.view_is)) in
    record {
      order = turned.order;
      end = turned.within (length c.in_ok-numbers.numbers.items)
          (omega (arith, c.in_ok-numbers.ensures.long, c.requires.order.count))
          (omega (
            arith,
            c.in_ok-numbers.ensures.long,
            c.lines_after-count.ensures.value,
            ap (λ order. count_after c.args.change.now order.count) c.self.view_is,
          ));
    }

pub of-requires-clause-count : goal.of-requires-clause-count
of-requires-clause-count c = omega (arith, c.turn.ensures.long, c.in_ok-numbers.ensures.long)

pub of-requires-clause-most : goal.of-requires-clause-most
of-requires-clause-most c = omega (
  arith,
  c.turn.ensures.long,
  c.in_ok-numbers.ensures.long,
  c.requires.order.most,
  c.requires.room,
  c.lines_after-count.ensures.value,
  ap (λ order. count_after c.args.change.now order.count) c.self.view_is,
)

pub of-requires-clause-each : goal.of-requires-clause-each
of-requires-clause-each c =
    let turned = turns c.places_stay_apart.ensures c.places_stay_below.ensures c.args.change.now c.args.self.now.count
    c.requires.fits c.parts_of-start.result
    (c.parts_of-start.ensures ∙ ap (parts_of c.args.change.now) (ap (λ order. order.count) c.self.view_is)) in
    numbers_turned c.in_ok-numbers.numbers.items c.turn.new.numbers.items
    c.parts_of-start.result.0 c.parts_of-start.result.1 c.parts_of-start.result.2 turned.order.0 turned.order.1
    (turned.within (length c.in_ok-numbers.numbers.items)
    (omega (arith, c.in_ok-numbers.ensures.long, c.requires.order.count))
    (omega (
      arith,
      c.in_ok-numbers.ensures.long,
      c.lines_after-count.ensures.value,
      ap (λ order. count_after c.args.change.now order.count) c.self.view_is,
    )))
    c.in_ok-numbers.ensures.each c.turn.ensures.long c.turn.ensures.order

pub returns : goal.returns
returns c =
    let turned = turns c.places_stay_apart.ensures c.places_stay_below.ensures c.args.change.now c.args.self.now.count
    c.requires.fits c.parts_of-start.result
    (c.parts_of-start.ensures ∙ ap (parts_of c.args.change.now) (ap (λ order. order.count) c.self.view_is)) in
    record {
      order = c.in_ok-order.ensures.order;
      moved = are_moved c.args.change.now c.args.self.now c.in_ok-order.order c.in_ok-numbers.numbers.items
          c.parts_of-start.result.0 c.parts_of-start.result.1 c.parts_of-start.result.2
          c.in_ok-numbers.ensures.each c.requires.order turned
          (omega (arith, c.in_ok-numbers.ensures.long))
          c.in_ok-numbers.ensures.first
          (omega (
            arith,
            c.in_ok-numbers.ensures.long,
            c.lines_after-count.ensures.value,
            ap (λ order. count_after c.args.change.now order.count) c.self.view_is,
          ))
          (c.in_ok-order.ensures.count ∙ c.lines_after-count.ensures.value
          ∙ ap (λ order. count_after c.args.change.now order.count) c.self.view_is)
          (λ index there. ap (λ xs. get_or xs index 0) c.in_ok-order.ensures.numbers
          ∙ c.turn.ensures.order index there);
      numbers = omega (
        arith,
        ap length c.in_ok-order.ensures.numbers,
        c.turn.ensures.long,
        c.in_ok-numbers.ensures.long,
        c.lines_after-count.ensures.value,
        ap (λ order. count_after c.args.change.now order.count) c.self.view_is,
      );
    }

pub returns-then-start-middle-clause-moved : goal.returns-then-start-middle-clause-moved
returns-then-start-middle-clause-moved c =
    let same = c.in_ok-same.same in
    let parts = c.parts_of-start.result in
    let turned = turns c.places_stay_apart.ensures c.places_stay_below.ensures c.args.change.now c.args.self.now.count
    c.requires.fits c.parts_of-start.result
    (c.parts_of-start.ensures ∙ ap (parts_of c.args.change.now) (ap (λ order. order.count) c.self.view_is)) in
    let count : c.lines_after-count.result ≡ count_after c.args.change.now c.args.self.now.count =
    c.lines_after-count.ensures.value ∙ ap (λ order. count_after c.args.change.now order.count) c.self.view_is in
    are_moved c.args.change.now c.args.self.now same same.numbers parts.0 parts.1 parts.2
    c.in_ok-same.ensures.order.each c.requires.order turned
    (omega (arith, c.in_ok-same.ensures.long))
    c.in_ok-same.ensures.first
    (omega (arith, c.in_ok-same.ensures.long, count))
    (c.in_ok-same.ensures.count ∙ count)
    (λ index there. ap (λ i. get_or same.numbers i 0) (sym (still parts.0 parts.1 parts.2 index
    (elim c.then-start-middle.either [
      | inl first ↦ inl first
      | inr second ↦ inr second.1
    ]))))
