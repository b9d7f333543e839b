use Rattle.std.proofs.Common.{sym, ap, ◌∙◌}
use Rattle.std.specs.Option.{is_some, unwrap_or, option_map}
use Rattle.slab.specs.Slab.{get}
use Rattle.link_store.specs.Lists.{live_nodes}
use Rattle.link_store.proofs.Reading.{live_node, read_item, nodes_once}
use Rattle.link_store.proofs.Replaced.{store_put, live_nodes-put}
use Rattle.link_store.proofs.lists.Links.replace.Goals as goal

pub replace_item-requires : goal.replace_item-requires
replace_item-requires g c =
    let kept = live_node (get c.self.inside.nodes) c.self.inside.ends.items c.args.self.now c.self.view_is
    c.self.invariant c.args.node c.requires in
    ap is_some kept.1

pub invariant_of-self : goal.invariant_of-self
invariant_of-self g c =
    (store_put c.args.node c.args.item (get c.self.inside.nodes) (get c.replace_item.new.nodes)
    c.replace_item.ensures.changed c.replace_item.ensures.others
    c.self.inside.ends.items c.args.self.now c.self.invariant c.self.view_is).sound

pub returns-clause-old : goal.returns-clause-old
returns-clause-old g c = λ old has.
    let kept = live_node (get c.self.inside.nodes) c.self.inside.ends.items c.args.self.now c.self.view_is
    c.self.invariant c.args.node c.requires in
    let same = sym c.replace_item.ensures.old ∙ ap (option_map (λ n. n.item)) kept.1 in
    ap (λ o. unwrap_or o old) same
    ∙ read_item (get c.self.inside.nodes) c.self.inside.ends.items c.args.self.now c.self.view_is c.self.invariant
    c.args.node kept.0 old kept.1 has

pub returns-clause-replaced : goal.returns-clause-replaced
returns-clause-replaced g c =
    (store_put c.args.node c.args.item (get c.self.inside.nodes) (get c.replace_item.new.nodes)
    c.replace_item.ensures.changed c.replace_item.ensures.others
    c.self.inside.ends.items c.args.self.now c.self.invariant c.self.view_is).view

pub returns-clause-count : goal.returns-clause-count
returns-clause-count g c =
    ap live_nodes
    (store_put c.args.node c.args.item (get c.self.inside.nodes) (get c.replace_item.new.nodes)
    c.replace_item.ensures.changed c.replace_item.ensures.others
    c.self.inside.ends.items c.args.self.now c.self.invariant c.self.view_is).view
    ∙ live_nodes-put c.args.node c.args.item c.args.self.now

pub returns-clause-once : goal.returns-clause-once
returns-clause-once g c = nodes_once (get c.self.inside.nodes) c.self.inside.ends.items c.args.self.now
    c.self.view_is c.self.invariant
