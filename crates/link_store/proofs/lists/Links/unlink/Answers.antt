use Rattle.std.proofs.Common.{◌+◌, ap, ◌∙◌, arith}
use Rattle.std.specs.Option.{is_some}
use Rattle.slab.specs.Slab.{get}
use Rattle.link_store.specs.Lists.{live_nodes}
use Rattle.link_store.proofs.Reading.{live_node, read_item, list_within, count_positive, count_less, nodes_once}
use Rattle.link_store.proofs.Reading.{takes_out, taken_out}
use Rattle.link_store.proofs.lists.Links.unlink.Goals as goal

pub remove-taken-requires : goal.remove-taken-requires
remove-taken-requires g c =
    let kept = live_node (get c.self.inside.nodes) c.self.inside.ends.items c.args.self.now c.self.view_is
    c.self.invariant c.args.node c.requires in
    ap is_some kept.1

pub index-requires : goal.index-requires
index-requires g c =
    omega (
      arith,
      c.self.inside.ends.ok.0,
      list_within (get c.self.inside.nodes) c.self.inside.ends.items c.args.self.now c.self.view_is c.self.invariant
          c.args.node c.remove-taken.result c.remove-taken.ensures.value c.requires,
    )

pub index_mut-requires : goal.index_mut-requires
index_mut-requires g c =
    omega (
      arith,
      c.self.inside.ends.ok.0,
      list_within (get c.self.inside.nodes) c.self.inside.ends.items c.args.self.now c.self.view_is c.self.invariant
          c.args.node c.remove-taken.result c.remove-taken.ensures.value c.requires,
    )

pub without-requires : goal.without-requires
without-requires g c =
    count_positive (get c.self.inside.nodes) c.self.inside.ends.items c.args.self.now c.self.view_is c.self.invariant
    c.args.node c.remove-taken.result c.index.result.now c.remove-taken.ensures.value c.requires c.index.ensures

pub invariant_of-self : goal.invariant_of-self
invariant_of-self g c =
    (taken_out (get c.self.inside.nodes) c.self.inside.ends.items c.args.self.now c.self.view_is c.self.invariant
    (get c.set_previous.new.nodes) c.args.node
    c.remove-taken.result c.index.result.now c.without.result c.remove-taken.ensures.value c.requires
    c.index.ensures c.without.ensures
    (takes_out c.self.inside.nodes c.remove-taken.new.self c.set_next.new.nodes c.set_previous.new.nodes
    c.args.node c.remove-taken.result c.remove-taken.ensures.value c.remove-taken.ensures.updates
    c.set_next.ensures.changed c.set_next.ensures.others c.set_previous.ensures.changed
    c.set_previous.ensures.others)).sound

pub returns-clause-item : goal.returns-clause-item
returns-clause-item g c = λ item has.
    read_item (get c.self.inside.nodes) c.self.inside.ends.items c.args.self.now c.self.view_is c.self.invariant
    c.args.node c.remove-taken.result item c.remove-taken.ensures.value has

pub returns-clause-taken : goal.returns-clause-taken
returns-clause-taken g c =
    (taken_out (get c.self.inside.nodes) c.self.inside.ends.items c.args.self.now c.self.view_is c.self.invariant
    (get c.set_previous.new.nodes) c.args.node
    c.remove-taken.result c.index.result.now c.without.result c.remove-taken.ensures.value c.requires
    c.index.ensures c.without.ensures
    (takes_out c.self.inside.nodes c.remove-taken.new.self c.set_next.new.nodes c.set_previous.new.nodes
    c.args.node c.remove-taken.result c.remove-taken.ensures.value c.remove-taken.ensures.updates
    c.set_next.ensures.changed c.set_next.ensures.others c.set_previous.ensures.changed
    c.set_previous.ensures.others)).view

pub returns-clause-count : goal.returns-clause-count
returns-clause-count g c =
    ap (λ lists. live_nodes lists + 1)
    (taken_out (get c.self.inside.nodes) c.self.inside.ends.items c.args.self.now c.self.view_is c.self.invariant
    (get c.set_previous.new.nodes) c.args.node
    c.remove-taken.result c.index.result.now c.without.result c.remove-taken.ensures.value c.requires
    c.index.ensures c.without.ensures
    (takes_out c.self.inside.nodes c.remove-taken.new.self c.set_next.new.nodes c.set_previous.new.nodes
    c.args.node c.remove-taken.result c.remove-taken.ensures.value c.remove-taken.ensures.updates
    c.set_next.ensures.changed c.set_next.ensures.others c.set_previous.ensures.changed
    c.set_previous.ensures.others)).view
    ∙ count_less (get c.self.inside.nodes) c.self.inside.ends.items c.args.self.now c.self.view_is c.self.invariant
    c.args.node c.requires

pub returns-clause-once : goal.returns-clause-once
returns-clause-once g c = nodes_once (get c.self.inside.nodes) c.self.inside.ends.items c.args.self.now
    c.self.view_is c.self.invariant
