use Rattle.std.proofs.Common.{◌≡◌, ◌++◌, map, take}
use Rattle.shared_grid.specs.Orders.{place_noted}
use Rattle.shared_grid.specs.Cells.{across_in}
use Rattle.shared_grid.proofs.grid.put_column_places.Given as goal

-- the places of the marks so far stand behind the others
abbrev pub invariant-loop-mark : goal.invariant-loop-mark
invariant-loop-mark l = l.places.items
    ≡ l.fn.places.items ++ map (λ mark. (place_noted l.rows (across_in mark), l.column)) (take l.mark-index l.marks)
