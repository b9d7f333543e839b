use Rattle.std.proofs.Common.{◌≡◌}
use Rattle.std.specs.Arc.{arc_value}
use Rattle.cell_store.specs.Table.{filled_places}
use Rattle.world_model.specs.Sheet.{PlaceSheet}
use Rattle.dimension_ops.proofs.Totals.{so_far}
use Rattle.dimension_ops.proofs.book.Book.filled.Given as goal

-- the sheets so far are counted
abbrev pub invariant-loop-sheet : goal.invariant-loop-sheet
invariant-loop-sheet l =
    l.filled ≡ so_far (λ (sheet : PlaceSheet). filled_places sheet.table) arc_value l.sheet-index l.sheet-items
