use Rattle.std.proofs.Common.{List, sym, subst}
use Rattle.dev_metadata.specs.declared.types.Item.{Item}
use Rattle.dev_metadata.specs.Used.{AreUsedBelow}
use Rattle.dev_metadata.proofs.UsedIds.{AreUsedBelow-patched}
use Rattle.dev_metadata.proofs.list.Metadata.update_found.Goals as goal

pub invariant_of-self-2 : goal.invariant_of-self-2
invariant_of-self-2 c =
    subst (λ (items : List Item). AreUsedBelow items c.self.inside.used_below)
    (sym c.in_ok-patch_found.ensures.patched)
    (AreUsedBelow-patched c.args.lookups.now c.args.project.now c.args.patch.now c.self.inside.items
    c.self.inside.used_below c.self.invariant)
