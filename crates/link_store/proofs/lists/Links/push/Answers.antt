use Rattle.std.proofs.Common.{sym, ap, subst, ◌∙◌, arith}
use Rattle.slab.specs.Slab.{get}
use Rattle.link_store.specs.Lists.{IsLive, live_nodes}
use Rattle.link_store.proofs.Reading.{count_within, live_node, sound_kept, puts_behind, put_behind, pushed_live}
use Rattle.link_store.proofs.Reading.{count_more}
use Rattle.link_store.proofs.lists.Links.push.Goals as goal

pub with_last-requires : goal.with_last-requires
with_last-requires g c =
    omega (
      arith,
      count_within (get c.self.inside.nodes) c.self.inside.ends.items c.args.self.now c.self.view_is c.self.invariant
          c.args.list c.index-ends.result.now c.requires.added c.index-ends.ensures,
      c.requires.room,
    )

pub invariant_of-self-in-Err : goal.invariant_of-self-in-Err
invariant_of-self-in-Err g c =
    sound_kept c.self.inside.nodes c.insert.new.self c.self.inside.ends.items
    (ap (λ s. s.slots) c.in-Err.ensures.err) c.self.invariant

pub invariant_of-self : goal.invariant_of-self
invariant_of-self g c =
    (put_behind (get c.self.inside.nodes) c.self.inside.ends.items c.args.self.now c.self.view_is c.self.invariant
    (get c.set_next.new.nodes) c.args.list c.index-ends.result.now c.with_last.result
    c.vacant_key-key.result c.args.item c.requires.added c.index-ends.ensures c.with_last.ensures
    (puts_behind c.self.inside.nodes c.insert.new.self c.set_next.new.nodes c.args.list
    c.index-ends.result.now.last c.in-Ok.field-0 c.vacant_key-key.result c.args.item
    (c.in-Ok.ensures.key ∙ sym c.vacant_key-key.ensures.value) c.vacant_key-key.ensures.vacant
    c.in-Ok.ensures.updates c.set_next.ensures.changed c.set_next.ensures.others)).sound

pub returns-in-Ok-clause-fresh : goal.returns-in-Ok-clause-fresh
returns-in-Ok-clause-fresh g c = λ live.
    let kept = live_node (get c.self.inside.nodes) c.self.inside.ends.items c.args.self.now c.self.view_is
    c.self.invariant c.vacant_key-key.result live in
    absurd (cc (kept.1, c.vacant_key-key.ensures.vacant))

pub returns-in-Ok-clause-pushed : goal.returns-in-Ok-clause-pushed
returns-in-Ok-clause-pushed g c =
    (put_behind (get c.self.inside.nodes) c.self.inside.ends.items c.args.self.now c.self.view_is c.self.invariant
    (get c.set_next.new.nodes) c.args.list c.index-ends.result.now c.with_last.result
    c.vacant_key-key.result c.args.item c.requires.added c.index-ends.ensures c.with_last.ensures
    (puts_behind c.self.inside.nodes c.insert.new.self c.set_next.new.nodes c.args.list
    c.index-ends.result.now.last c.in-Ok.field-0 c.vacant_key-key.result c.args.item
    (c.in-Ok.ensures.key ∙ sym c.vacant_key-key.ensures.value) c.vacant_key-key.ensures.vacant
    c.in-Ok.ensures.updates c.set_next.ensures.changed c.set_next.ensures.others)).view

pub returns-in-Ok-clause-count : goal.returns-in-Ok-clause-count
returns-in-Ok-clause-count g c =
    ap live_nodes
    (put_behind (get c.self.inside.nodes) c.self.inside.ends.items c.args.self.now c.self.view_is c.self.invariant
    (get c.set_next.new.nodes) c.args.list c.index-ends.result.now c.with_last.result
    c.vacant_key-key.result c.args.item c.requires.added c.index-ends.ensures c.with_last.ensures
    (puts_behind c.self.inside.nodes c.insert.new.self c.set_next.new.nodes c.args.list
    c.index-ends.result.now.last c.in-Ok.field-0 c.vacant_key-key.result c.args.item
    (c.in-Ok.ensures.key ∙ sym c.vacant_key-key.ensures.value) c.vacant_key-key.ensures.vacant
    c.in-Ok.ensures.updates c.set_next.ensures.changed c.set_next.ensures.others)).view
    ∙ count_more c.args.self.now c.args.list c.vacant_key-key.result c.args.item c.requires.added

pub returns-in-Ok-clause-live : goal.returns-in-Ok-clause-live
returns-in-Ok-clause-live g c =
    subst (λ lists. IsLive lists c.vacant_key-key.result) (sym
    (put_behind (get c.self.inside.nodes) c.self.inside.ends.items c.args.self.now c.self.view_is c.self.invariant
    (get c.set_next.new.nodes) c.args.list c.index-ends.result.now c.with_last.result
    c.vacant_key-key.result c.args.item c.requires.added c.index-ends.ensures c.with_last.ensures
    (puts_behind c.self.inside.nodes c.insert.new.self c.set_next.new.nodes c.args.list
    c.index-ends.result.now.last c.in-Ok.field-0 c.vacant_key-key.result c.args.item
    (c.in-Ok.ensures.key ∙ sym c.vacant_key-key.ensures.value) c.vacant_key-key.ensures.vacant
    c.in-Ok.ensures.updates c.set_next.ensures.changed c.set_next.ensures.others)).view)
    (pushed_live c.args.self.now c.args.list c.vacant_key-key.result c.args.item c.requires.added)
