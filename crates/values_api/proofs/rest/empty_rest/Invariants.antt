use Rattle.std.proofs.Common.{take}
use Rattle.world_model.specs.Updating.{BookUpdated}
use Rattle.values_api.proofs.Emptied.{rest_emptied}
use Rattle.values_api.proofs.rest.empty_rest.Given as goal

-- so far the places before this one are emptied that the values don't reach
abbrev pub invariant-loop-place : goal.invariant-loop-place
invariant-loop-place l =
    BookUpdated l.area.sheet (rest_emptied l.area l.block (take l.place-index l.place-items)) l.fn.book l.book
