use Rattle.std.proofs.Common.{ap}
use Rattle.std.specs.Option.{is_some}
use Rattle.slab.specs.Slab.{get}
use Rattle.link_store.specs.Lists.{IsLive}
use Rattle.link_store.proofs.Members.{if_some}
use Rattle.link_store.proofs.Reading.{live_node, read_next, next_live}
use Rattle.link_store.proofs.lists.Links.next.Goals as goal

pub index-requires : goal.index-requires
index-requires g c =
    let kept = live_node (get c.self.inside.nodes) c.self.inside.ends.items c.args.self.now c.self.view_is
    c.self.invariant c.args.node c.requires in
    ap is_some kept.1

pub returns-clause-node : goal.returns-clause-node
returns-clause-node g c = λ list item has.
    read_next (get c.self.inside.nodes) c.self.inside.ends.items c.args.self.now c.self.view_is c.self.invariant
    c.args.node c.index.result.now list item c.index.ensures has

pub returns-clause-live : goal.returns-clause-live
returns-clause-live g c = if_some c.index.result.now.next (IsLive c.args.self.now) (λ next goes.
    next_live (get c.self.inside.nodes) c.self.inside.ends.items c.args.self.now c.self.view_is c.self.invariant
    c.args.node c.index.result.now next c.index.ensures c.requires goes)
