use Rattle.std.proofs.Common.{take}
use Rattle.world_model.specs.Updating.{BookUpdated}
use Rattle.values_api.proofs.Emptied.{emptied}
use Rattle.values_api.proofs.clearing.empty_places.Given as goal

-- so far the places before this one are emptied
abbrev pub invariant-loop-place : goal.invariant-loop-place
invariant-loop-place l = BookUpdated l.area.sheet (emptied (take l.place-index l.place-items)) l.fn.book l.book
