use Rattle.std.proofs.Common.{ap, ◌∙◌, length, arith}
use Rattle.shared_grid.proofs.Continued.{length-continued, own_numbers}
use Rattle.shared_grid.proofs.order.Order.new.Goals as goal

pub returns-clause-order : goal.returns-clause-order
returns-clause-order c = own_numbers c.in_ok-lists.lists.numbers.items c.in_ok-lists.lists.places.items c.args.count
    (ap (λ lists. lists.numbers.items) c.in_ok-lists.ensures ∙ c.new-numbers.ensures.items)
    (ap (λ lists. lists.places.items) c.in_ok-lists.ensures ∙ c.new-places.ensures.items) c.requires

pub returns-clause-numbers : goal.returns-clause-numbers
returns-clause-numbers c = length-continued c.in_ok-lists.lists.numbers.items c.args.count
    (omega (arith, ap length (ap (λ lists. lists.numbers.items) c.in_ok-lists.ensures ∙ c.new-numbers.ensures.items)))
