use Rattle.cell_store.proofs.Rising.{all_held, all_rise, one_more}
use Rattle.cell_store.proofs.places.are_held_by_rows.Goals as goal

pub loop-place-preserved : goal.loop-place-preserved
loop-place-preserved c =
    one_more c.args.area.now c.args.places.now c.loop-place.place-index c.loop-place.before c.loop-place.invariant
    (c.is_behind.ensures c.if-not-is_behind.false) (c.holds.ensures.0 c.if-not-holds.false)

pub returns-clause-in_order : goal.returns-clause-in_order
returns-clause-in_order c = λ yes.
    all_rise c.args.area.now c.args.places.now c.loop-place.place-index c.loop-place.before c.loop-place-test.false
    c.loop-place.invariant

pub returns-clause-held : goal.returns-clause-held
returns-clause-held c = λ yes.
    all_held c.args.area.now c.args.places.now c.loop-place.place-index c.loop-place.before c.loop-place-test.false
    c.loop-place.invariant
