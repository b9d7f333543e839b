use Rattle.std.proofs.Common.{◌≡◌, take}
use Rattle.std.specs.List.{fold}
use Rattle.dimension_ops.specs.Losing.{lost_at}
use Rattle.dimension_ops.specs.References.{KeepsFormulas}
use Rattle.dimension_ops.proofs.losing.lose_places.Given as goal

-- the references at the places so far are lost
abbrev pub invariant-loop-place : goal.invariant-loop-place
invariant-loop-place l = record {
  lost : l.cells.table ≡ fold (lost_at l.sheet) l.initial.cells.table (take l.place-index l.places);
  formulas : KeepsFormulas l.initial.cells.table l.cells.table;
}
