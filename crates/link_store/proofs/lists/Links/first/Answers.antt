use Rattle.std.proofs.Common.{sym, ◌∙◌}
use Rattle.slab.specs.Slab.{get}
use Rattle.link_store.specs.Lists.{entries_of, IsLive}
use Rattle.link_store.proofs.Reading.{read_first, nodes_once}
use Rattle.link_store.proofs.Members.{first_stands, if_some}
use Rattle.link_store.proofs.lists.Links.first.Goals as goal

pub returns-clause-node : goal.returns-clause-node
returns-clause-node g c =
    read_first (get c.self.inside.nodes) c.self.inside.ends.items c.args.self.now c.self.view_is c.self.invariant
    c.args.list c.index.result.now c.requires c.index.ensures

pub returns-clause-once : goal.returns-clause-once
returns-clause-once g c = nodes_once (get c.self.inside.nodes) c.self.inside.ends.items c.args.self.now
    c.self.view_is c.self.invariant

pub returns-clause-live : goal.returns-clause-live
returns-clause-live g c = if_some c.index.result.now.first (IsLive c.args.self.now) (λ node is.
    let reads = read_first (get c.self.inside.nodes) c.self.inside.ends.items c.args.self.now c.self.view_is
    c.self.invariant c.args.list c.index.result.now c.requires c.index.ensures in
    let first = first_stands (entries_of c.args.self.now c.args.list) node (sym reads ∙ is) in
    (first.0, (c.args.list, first.2)))
