use Rattle.std.proofs.Common.{length}
use Rattle.shared_map.specs.Places.{place_at}
use Rattle.shared_map.specs.Finding.{FindsSame}
use Rattle.shared_map.proofs.places.trim.Given as goal

-- nothing went but empty places
abbrev pub invariant-loop-places : goal.invariant-loop-places
invariant-loop-places g l = FindsSame (place_at l.fn.places.items) (place_at l.places.items)

abbrev pub decreases-loop-places : goal.decreases-loop-places
decreases-loop-places g l = length l.places.items
