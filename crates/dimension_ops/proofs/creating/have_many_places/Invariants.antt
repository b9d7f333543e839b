use Rattle.std.proofs.Common.{◌≡◌, ◌≤◌, take}
use Rattle.world_model.specs.Sound.{most_places}
use Rattle.dimension_ops.specs.Creating.{placed_places}
use Rattle.dimension_ops.proofs.creating.have_many_places.Given as goal

-- the places of the sheets so far are counted, and aren't too many
abbrev pub invariant-loop-one : goal.invariant-loop-one
invariant-loop-one l = (l.places ≡ placed_places (take l.one-index l.placed)) × (l.places ≤ most_places)
