use Rattle.std.proofs.Common.{refl, ap}
use Rattle.std.specs.Option.{is_some}
use Rattle.slab.specs.Slab.{get}
use Rattle.link_store.proofs.Lent.{written}
use Rattle.link_store.proofs.Reading.{live_node, read_item, nodes_once}
use Rattle.link_store.proofs.Replaced.{live_nodes-put}
use Rattle.link_store.proofs.lists.Links.item_mut.Goals as goal

pub index_mut-held-requires : goal.index_mut-held-requires
index_mut-held-requires g c =
    let kept = live_node (get c.self.inside.nodes) c.self.inside.ends.items c.args.self.now c.self.view_is
    c.self.invariant c.args.node c.requires in
    ap is_some kept.1

pub invariant_of-self-lent : goal.invariant_of-self-lent
invariant_of-self-lent g c = λ w. (written c.self.inside.nodes c.args.node c.index_mut-held.result.now
    c.index_mut-held.ensures.value w
    c.self.inside.ends.items c.args.self.now c.self.invariant c.self.view_is).sound

pub returns : goal.returns
returns g c = (
  (
    refl,
    (λ w. (written c.self.inside.nodes c.args.node c.index_mut-held.result.now c.index_mut-held.ensures.value w
        c.self.inside.ends.items c.args.self.now c.self.invariant c.self.view_is).view),
  ),
  record {
    writes_back = tt;
    item = λ item has. read_item (get c.self.inside.nodes) c.self.inside.ends.items c.args.self.now c.self.view_is
        c.self.invariant
        c.args.node c.index_mut-held.result.now item c.index_mut-held.ensures.value has;
    count = λ item. live_nodes-put c.args.node item c.args.self.now;
    once = nodes_once (get c.self.inside.nodes) c.self.inside.ends.items c.args.self.now c.self.view_is
        c.self.invariant;
  },
)
