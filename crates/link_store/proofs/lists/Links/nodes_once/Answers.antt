use Rattle.slab.specs.Slab.{get}
use Rattle.link_store.proofs.Reading as reading
use Rattle.link_store.proofs.lists.Links.nodes_once.Goals as goal

pub returns : goal.returns
returns g c = reading.nodes_once (get c.self.inside.nodes) c.self.inside.ends.items c.args.self.now c.self.view_is
    c.self.invariant
