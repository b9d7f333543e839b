use Rattle.std.proofs.Common.{List, ◌∙◌, sym, subst}
use Rattle.protection.specs.declared.range.Protection.{Protection}
use Rattle.protection.specs.Listed.{IsInOrder}
use Rattle.protection.proofs.Ordered.{IsInOrder-filter_map, KeepsId-without_sheet}
use Rattle.protection.proofs.list.Protections.lose_sheet.Goals as goal

pub invariant_of-self : goal.invariant_of-self
invariant_of-self c =
    subst (λ (list : List Protection). IsInOrder list) (sym (c.into_vec.ensures ∙ c.follow.ensures.followed))
    (IsInOrder-filter_map _ _ (KeepsId-without_sheet _) c.take_items-items.ensures.order)
