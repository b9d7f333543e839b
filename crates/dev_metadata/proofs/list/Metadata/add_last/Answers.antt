use Rattle.std.proofs.Common.{◌∙◌, ap, not, List, sym, subst}
use Rattle.dev_metadata.specs.declared.types.Item.{Item}
use Rattle.dev_metadata.specs.Used.{AreUsedBelow}
use Rattle.dev_metadata.proofs.UsedIds.{AreUsedBelow-chosen, AreUsedBelow-push}
use Rattle.dev_metadata.proofs.list.Metadata.add_last.Goals as goal

pub invariant_of-self-then-is_none : goal.invariant_of-self-then-is_none
invariant_of-self-then-is_none c =
    subst (λ (items : List Item). AreUsedBelow items c.in_ok-id.id) (sym c.in_ok-push.ensures.added)
    (AreUsedBelow-push c.self.inside.items _ c.in_ok-id.id
    (AreUsedBelow-chosen c.self.inside.items c.args.asked c.in_ok-id.id
    (c.is_none.ensures ∙ ap not c.if-is_none.true) c.in_ok-id.ensures.id))

pub invariant_of-self-else-is_none : goal.invariant_of-self-else-is_none
invariant_of-self-else-is_none c =
    subst (λ (items : List Item). AreUsedBelow items c.self.inside.used_below) (sym c.in_ok-push.ensures.added)
    (AreUsedBelow-push c.self.inside.items _ c.self.inside.used_below c.self.invariant)
