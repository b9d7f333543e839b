use Rattle.cell_store.proofs.Rising.{AreRising}
use Rattle.cell_store.proofs.places.are_held_by_rows.Given as goal

abbrev pub invariant-loop-place : goal.invariant-loop-place
invariant-loop-place l = AreRising l.area l.places l.place-index l.before
