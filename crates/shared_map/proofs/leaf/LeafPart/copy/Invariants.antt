use Rattle.std.proofs.Common.{◌≡◌, take}
use Rattle.shared_map.proofs.leaf.LeafPart.copy.Given as goal

-- the places so far are copied
abbrev pub invariant-loop-place : goal.invariant-loop-place
invariant-loop-place g l = l.places.items ≡ take l.place-index l.self.places.items
