use Rattle.std.proofs.Common.{ap}
use Rattle.std.specs.Option.{is_some}
use Rattle.slab.specs.Slab.{get}
use Rattle.link_store.proofs.Reading.{live_node, read_item}
use Rattle.link_store.proofs.lists.Links.item.Goals as goal

pub index-requires : goal.index-requires
index-requires g c =
    let kept = live_node (get c.self.inside.nodes) c.self.inside.ends.items c.args.self.now c.self.view_is
    c.self.invariant c.args.node c.requires in
    ap is_some kept.1

pub returns : goal.returns
returns g c = λ item has.
    read_item (get c.self.inside.nodes) c.self.inside.ends.items c.args.self.now c.self.view_is c.self.invariant
    c.args.node c.index.result.now item c.index.ensures has
