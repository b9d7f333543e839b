use Rattle.std.proofs.Common.{◌≡◌, ◌++◌, map, take}
use Rattle.shared_grid.specs.Orders.{place_noted}
use Rattle.shared_grid.specs.Cells.{across_in}
use Rattle.shared_grid.proofs.grid.put_places.Given as goal

-- the places of the keys so far stand behind the others
abbrev pub invariant-loop-key : goal.invariant-loop-key
invariant-loop-key l = l.places.items
    ≡ l.fn.places.items ++ map (λ key. (l.row, place_noted l.columns (across_in key))) (take l.key-index l.keys)
