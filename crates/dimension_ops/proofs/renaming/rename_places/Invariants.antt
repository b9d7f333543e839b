use Rattle.std.proofs.Common.{◌≡◌, take}
use Rattle.std.specs.List.{fold}
use Rattle.dimension_ops.specs.References.{KeepsFormulas}
use Rattle.dimension_ops.specs.Renaming.{renamed_at}
use Rattle.dimension_ops.proofs.renaming.rename_places.Given as goal

-- the words at the places so far are renamed
abbrev pub invariant-loop-place : goal.invariant-loop-place
invariant-loop-place l = record {
  renamed : l.cells.table ≡ fold (renamed_at l.old l.new) l.initial.cells.table (take l.place-index l.places);
  formulas : KeepsFormulas l.initial.cells.table l.cells.table;
}
