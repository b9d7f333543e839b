use Rattle.std.proofs.Common.{◌≡◌, ℕ, ◌≤◌, ◌<◌, length, get_or, take}
use Rattle.std.specs.List.{fold}
use Rattle.cell_store.specs.Table.{item_at}
use Rattle.dimension_ops.specs.References.{KeepsFormulas, followed_at}
use Rattle.dimension_ops.proofs.following.follow_places.Given as goal

-- what stands at the places so far has followed, and what stands at the others is as it was
abbrev pub invariant-loop-place : goal.invariant-loop-place
invariant-loop-place l = record {
  followed : l.cells.table ≡ fold (followed_at l.by.sheet l.by.axis l.by.count l.by.change.now) l.initial.cells.table
      (take l.place-index l.places);
  others : (k : ℕ) (d : ℕ × ℕ) → l.place-index ≤ k → k < length l.places
      → item_at l.cells.table (get_or l.places k d).0 (get_or l.places k d).1
      ≡ item_at l.initial.cells.table (get_or l.places k d).0 (get_or l.places k d).1;
  formulas : KeepsFormulas l.initial.cells.table l.cells.table;
}
