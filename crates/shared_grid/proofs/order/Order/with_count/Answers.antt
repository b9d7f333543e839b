use Rattle.std.proofs.Common.{ap, sym, subst, ◌∙◌, length, arith}
use Rattle.shared_grid.specs.Orders.{IsOrder, continued, number_of}
use Rattle.shared_grid.specs.declared.order.Lists.{Lists}
use Rattle.shared_grid.proofs.Continued.{length-continued, order_longer, order_of, same_entry}
use Rattle.shared_grid.proofs.order.Order.with_count.Goals as goal

pub returns-clause-order : goal.returns-clause-order
returns-clause-order c =
    subst (λ (lists : Lists). IsOrder (order_of lists.numbers.items lists.places.items c.max-kept.result c.args.count))
    (sym c.in_ok-lists.ensures)
    (order_longer c.self.inside.lists.numbers.items c.self.inside.lists.places.items c.self.inside.kept
    c.self.inside.count c.self.invariant.0 c.self.invariant.1 (subst IsOrder (sym c.self.view_is) c.requires.order)
    c.max-kept.result c.args.count (omega arith) (omega arith) (omega (
      arith,
      c.requires.most,
      c.requires.order.most,
      ap (λ order. length order.numbers) c.self.view_is,
      length-continued c.self.inside.lists.numbers.items c.self.inside.kept c.self.invariant.0,
    )))

pub returns-clause-first : goal.returns-clause-first
returns-clause-first c = λ index there.
    ap (λ (lists : Lists). Rattle.std.specs.Prelude.slice_index (continued lists.numbers.items c.max-kept.result) index)
    c.in_ok-lists.ensures
    ∙ same_entry c.self.inside.lists.numbers.items c.self.inside.kept c.max-kept.result c.self.invariant.0
    (omega arith) index
    (omega (
      arith,
      there,
      ap (λ order. length order.numbers) c.self.view_is,
      length-continued c.self.inside.lists.numbers.items c.self.inside.kept c.self.invariant.0,
    ))
    ∙ ap (λ order. number_of order index) c.self.view_is

pub returns-clause-long : goal.returns-clause-long
returns-clause-long c = omega (
  arith,
  ap (λ (lists : Lists). length lists.numbers.items) c.in_ok-lists.ensures,
  length-continued c.in_ok-lists.lists.numbers.items c.max-kept.result
      (omega (arith, c.self.invariant.0, ap (λ (lists : Lists). length lists.numbers.items) c.in_ok-lists.ensures)),
  ap (λ order. length order.numbers) c.self.view_is,
  length-continued c.self.inside.lists.numbers.items c.self.inside.kept c.self.invariant.0,
)
