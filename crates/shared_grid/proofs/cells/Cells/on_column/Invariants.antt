use Rattle.std.proofs.Common.{◌≡◌, ℕ, take}
use Rattle.std.specs.Prelude.{is_some}
use Rattle.std.specs.List.{filter}
use Rattle.std.specs.FinMap as map
use Rattle.shared_grid.specs.Cells.{key_of, across_in}
use Rattle.shared_grid.proofs.cells.Cells.on_column.Given as goal

-- the marks so far whose items are there
abbrev pub invariant-loop-mark : goal.invariant-loop-mark
invariant-loop-mark g l = l.held.items
    ≡ filter (λ (mark : ℕ). is_some (map.get l.self (key_of (across_in mark) l.column)))
    (take l.mark-index l.mark-items)
