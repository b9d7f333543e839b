use native.Mathlib.Omega.{arith}
use Rattle.std.proofs.Common.{◌≡◌, ◌≤◌, ◌++◌, sym, ap, subst, ◌∙◌}
use Rattle.std.proofs.lemmas.List.{append-nil}
use Rattle.cell_store.specs.Places.{AreFilledPlaces}
use Rattle.cell_store.proofs.Listed.{held_places, held_more, are_filled_places}
use Rattle.cell_store.proofs.tree.TreeGridGrid.places.Goals as goal

pub loop-place-preserved-in-Continue-1 : goal.loop-place-preserved-in-Continue-1
loop-place-preserved-in-Continue-1 g c =
    held_more c.args.area.now c.loop-place.places.items c.push.new.self.items c.loop-place.place-iterator
    c.next.new.self
    c.in-Some.place.now c.in-Some.field-0-1.now (held_places c.args.area.now c.into_iter-place-iterator.result)
    c.in-Some.ensures.steps c.in_ok-push.ensures.items (c.holds.ensures.0 c.if-holds.true) c.loop-place.invariant

pub returns : goal.returns
returns g c =
    let all : c.loop-place.places.items ≡ held_places c.args.area.now c.into_iter-place-iterator.result =
    sym (append-nil c.loop-place.places.items)
    ∙ sym (ap (λ es. c.loop-place.places.items ++ held_places c.args.area.now es) c.in-None.ensures.steps.0)
    ∙ c.loop-place.invariant in
    let stop : c.row_ends-start.result.1 ≤ c.max.result = grind (arith, c.max.ensures) in
    subst (AreFilledPlaces c.args.area.now c.args.self.now)
    (sym (c.of.ensures ∙ all ∙ ap (held_places c.args.area.now)
    (c.into_iter-place-iterator.ensures.into_iter_gives ∙ c.range-place-items.ensures.between tt)))
    (are_filled_places c.args.area.now c.self.inside.rows c.self.inside.cols c.self.inside.items.entries
    c.row_ends-start.result.0 c.max.result
    c.self.view_is c.self.invariant c.range-place-items.ensures.ordered
    (λ row there has. let ends = c.row_ends-start.ensures row there has in (ends.0, omega (arith, stop, ends.1))))
