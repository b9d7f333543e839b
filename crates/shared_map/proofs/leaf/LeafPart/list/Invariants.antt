use Rattle.std.proofs.Common.{◌≡◌, ◌++◌, ◌+◌}
use Rattle.std.specs.Prelude.{map, min}
use Rattle.shared_map.specs.Found.{keys_found}
use Rattle.shared_map.specs.Places.{place_at}
use Rattle.shared_map.proofs.leaf.LeafPart.list.Given as goal

-- the keys so far are listed
abbrev pub invariant-loop-key : goal.invariant-loop-key
invariant-loop-key g l = l.found.items ≡ l.fn.found.items
    ++ map g.K.Key.listed (keys_found (place_at l.self.places.items) l.base l.first (min (l.last + 1) l.key))
