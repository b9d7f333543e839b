use Rattle.std.proofs.Common.{◌≡◌, ◌*◌}
use Rattle.std.specs.Arc.{arc_value}
use Rattle.world_model.specs.Sheet.{PlaceSheet}
use Rattle.dimension_ops.proofs.Totals.{so_far}
use Rattle.dimension_ops.proofs.book.Book.grid_places.Given as goal

-- the places of the sheets so far are counted
abbrev pub invariant-loop-sheet : goal.invariant-loop-sheet
invariant-loop-sheet l =
    l.places
    ≡ so_far (λ (sheet : PlaceSheet). sheet.table.rows * sheet.table.cols) arc_value l.sheet-index l.sheet-items
