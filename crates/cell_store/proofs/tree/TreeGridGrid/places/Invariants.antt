use Rattle.std.proofs.Common.{◌≡◌, ◌++◌}
use Rattle.cell_store.proofs.Listed.{held_places}
use Rattle.cell_store.proofs.tree.TreeGridGrid.places.Given as goal

-- the places so far, and those of the rest of the range that the area holds
abbrev pub invariant-loop-place : goal.invariant-loop-place
invariant-loop-place g l =
    l.places.items ++ held_places l.area l.place-iterator ≡ held_places l.area l.initial.place-iterator
