use Rattle.std.proofs.Common.{sym, ap, subst, ◌∙◌, ◌∷◌}
use Rattle.cell_store.proofs.Filling.{FillsTo, fills_on, filled_same}
use Rattle.cell_store.proofs.Tables.{inside-same, copy-view}
use Rattle.cell_store.proofs.tree.TreeGridGrid.copy.Goals as goal

pub loop-place-preserved-in_ok-insert : goal.loop-place-preserved-in_ok-insert
loop-place-preserved-in_ok-insert g c =
    fills_on c.loop-place.items.entries c.insert.new.self.entries c.in-Some.place.now c.in_ok-duplicate.field-0
    c.next.new.self c.self.inside.items.entries c.in_ok-insert.ensures.updates.0
    (subst (λ es. FillsTo c.loop-place.items.entries es c.self.inside.items.entries)
    (c.in-Some.ensures.steps ∙ ap (λ x. (c.in-Some.place.now, x) ∷ c.next.new.self) (sym c.in_ok-duplicate.ensures))
    c.loop-place.invariant)

pub loop-place-preserved : goal.loop-place-preserved
loop-place-preserved g c =
    fills_on c.loop-place.items.entries c.insert.new.self.entries c.in-Some.place.now c.in_ok-duplicate.field-0
    c.next.new.self c.self.inside.items.entries c.in_ok-insert.ensures.updates.0
    (subst (λ es. FillsTo c.loop-place.items.entries es c.self.inside.items.entries)
    (c.in-Some.ensures.steps ∙ ap (λ x. (c.in-Some.place.now, x) ∷ c.next.new.self) (sym c.in_ok-duplicate.ensures))
    c.loop-place.invariant)

pub invariant_of-result : goal.invariant_of-result
invariant_of-result g c =
    inside-same c.self.inside.rows c.self.inside.cols c.self.inside.items.entries c.loop-place.items.entries
    c.self.invariant
    (filled_same c.self.inside.items.entries c.loop-place.items.entries
    c.into_iter-place-iterator.ensures.into_iter_gives.5
    (subst (λ es. FillsTo c.loop-place.items.entries es c.self.inside.items.entries) c.in-None.ensures.steps.0
    c.loop-place.invariant))

pub returns : goal.returns
returns g c =
    copy-view c.self.inside.rows c.self.inside.cols c.self.inside.items.entries c.loop-place.items.entries
    c.self.view_is
    (filled_same c.self.inside.items.entries c.loop-place.items.entries
    c.into_iter-place-iterator.ensures.into_iter_gives.5
    (subst (λ es. FillsTo c.loop-place.items.entries es c.self.inside.items.entries) c.in-None.ensures.steps.0
    c.loop-place.invariant))
