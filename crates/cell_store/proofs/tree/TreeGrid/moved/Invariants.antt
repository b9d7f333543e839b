use Rattle.std.proofs.Common.{◌+◌, ◌≤◌, length}
use Rattle.cell_store.proofs.Filling.{FillsTo}
use Rattle.cell_store.proofs.Moving.{moved}
use Rattle.cell_store.proofs.tree.TreeGrid.moved.Given as goal

-- the rest of the tree is still to be moved, and no more entries are made than were moved
abbrev pub invariant-loop-place : goal.invariant-loop-place
invariant-loop-place g l = record {
  fills : FillsTo l.items.entries (moved l.axis l.change l.place-iterator)
      (moved l.axis l.change l.self-inside.items.entries);
  few : length l.items.entries + length l.place-iterator ≤ length l.self-inside.items.entries;
}
