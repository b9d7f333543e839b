use Rattle.std.proofs.Common.{ap, length, ◌≤◌, arith}
use Rattle.cell_store.proofs.Turned.{order_after, numbers_after}
use Rattle.cell_store.proofs.turning.turn.Goals as goal

pub returns-clause-same : goal.returns-clause-same
returns-clause-same c =
    let all : c.args.end ≤ length c.deref_mut.result.now = omega (arith, ap length c.deref_mut.ensures.value) in
    numbers_after c.deref_mut.result.now c.rotate_left.new.self c.args.start c.args.middle c.args.end
    c.requires.order.0 c.requires.order.1 all c.rotate_left.ensures.after
    c.args.numbers.now.items c.args.numbers.now.len c.deref_mut.ensures.value c.args.numbers.now.ok.0

pub returns-clause-order : goal.returns-clause-order
returns-clause-order c = λ index within.
    let all : c.args.end ≤ length c.deref_mut.result.now = omega (arith, ap length c.deref_mut.ensures.value) in
    order_after c.deref_mut.result.now c.rotate_left.new.self c.args.start c.args.middle c.args.end
    c.requires.order.0 c.requires.order.1 all c.rotate_left.ensures.after
    c.args.numbers.now.items c.args.numbers.now.len c.deref_mut.ensures.value c.args.numbers.now.ok.0 index
