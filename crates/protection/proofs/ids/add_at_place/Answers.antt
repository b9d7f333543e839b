use Rattle.std.proofs.Common.{List, ◌∙◌, sym, subst}
use Rattle.protection.specs.declared.range.Protection.{Protection}
use Rattle.protection.specs.Listed.{IsInOrder}
use Rattle.protection.proofs.Edits.{with_one_more_at, IsInOrder-insert, above_place}
use Rattle.protection.proofs.ids.add_at_place.Goals as goal

pub returns-clause-added : goal.returns-clause-added
returns-clause-added c =
    let place = rw (c.deref.ensures.value, c.get.ensures) at c.place_for-place.ensures.before in
    let behind = rw (c.deref.ensures.value, c.get.ensures) at c.place_for-place.ensures.behind in
    c.in_ok-insert.ensures.items
    ∙ with_one_more_at _ _ _ place (above_place _ _ _ c.requires.unused behind)

pub returns-clause-order : goal.returns-clause-order
returns-clause-order c =
    let place = rw (c.deref.ensures.value, c.get.ensures) at c.place_for-place.ensures.before in
    let behind = rw (c.deref.ensures.value, c.get.ensures) at c.place_for-place.ensures.behind in
    subst (λ (list : List Protection). IsInOrder list) (sym c.in_ok-insert.ensures.items)
    (IsInOrder-insert _ _ _ c.requires.order place (above_place _ _ _ c.requires.unused behind))
