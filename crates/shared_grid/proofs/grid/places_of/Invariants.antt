use Rattle.std.proofs.Common.{◌≡◌, map, take}
use Rattle.shared_grid.specs.Sheets.{pair_place}
use Rattle.shared_grid.proofs.grid.places_of.Given as goal

-- the places of the keys so far
abbrev pub invariant-loop-key : goal.invariant-loop-key
invariant-loop-key l = l.places.items ≡ map (pair_place l.rows l.columns) (take l.key-index l.keys)
