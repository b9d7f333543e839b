use Rattle.std.proofs.Common.{ap, length, arith}
use Rattle.link_store.proofs.Cursors.{cursor_on, cursor_stays}
use Rattle.link_store.proofs.entries.EntriesIterator.next.Goals as goal

pub invariant_of-self : goal.invariant_of-self
invariant_of-self g c =
    cursor_stays c.self.inside.links.now c.self.inside.list c.in_ok-node.node c.self.inside.next
    c.next-self-inside.result c.self.invariant c.in_ok-node.was
    (λ one has. c.next-self-inside.ensures.node c.self.inside.list one has)

pub returns-clause-steps : goal.returns-clause-steps
returns-clause-steps g c =
    cursor_on c.self.inside.links.now c.self.inside.list c.in_ok-node.node c.self.inside.next
    c.next-self-inside.result c.item.result.now c.args.self.now
    c.self.invariant c.self.view_is c.in_ok-node.was (λ one has. c.item.ensures one (c.self.inside.list, has))
    (λ one has. c.next-self-inside.ensures.node c.self.inside.list one has)

pub returns-clause-goes : goal.returns-clause-goes
returns-clause-goes g c =
    let steps =
    cursor_on c.self.inside.links.now c.self.inside.list c.in_ok-node.node c.self.inside.next
    c.next-self-inside.result c.item.result.now c.args.self.now
    c.self.invariant c.self.view_is c.in_ok-node.was (λ one has. c.item.ensures one (c.self.inside.list, has))
    (λ one has. c.next-self-inside.ensures.node c.self.inside.list one has) in
    record { on = λ _. (tt, tt, omega (arith, ap length steps)); keeps = tt; rests = λ _. tt }
