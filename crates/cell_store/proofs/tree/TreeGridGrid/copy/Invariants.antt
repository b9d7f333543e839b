use Rattle.cell_store.proofs.Filling.{FillsTo}
use Rattle.cell_store.proofs.tree.TreeGridGrid.copy.Given as goal

-- the rest of the tree is still to be copied
abbrev pub invariant-loop-place : goal.invariant-loop-place
invariant-loop-place g l = FillsTo l.items.entries l.place-iterator l.self-inside.items.entries
