use Rattle.std.proofs.Common.{refl, sym, subst}
use Rattle.slab.specs.Slab.{get}
use Rattle.link_store.specs.Nodes.{IsSound}
use Rattle.link_store.proofs.Stores.{sound_push}
use Rattle.link_store.proofs.lists.Links.add_list.Goals as goal

pub invariant_of-self : goal.invariant_of-self
invariant_of-self g c = subst (IsSound (get c.self.inside.nodes)) (sym c.in_err-push.ensures.items) c.self.invariant

pub invariant_of-self-2 : goal.invariant_of-self-2
invariant_of-self-2 g c =
    subst (IsSound (get c.self.inside.nodes)) (sym c.in_ok-push.ensures.items)
    (sound_push (get c.self.inside.nodes) c.self.inside.ends.items _ c.self.invariant refl)
