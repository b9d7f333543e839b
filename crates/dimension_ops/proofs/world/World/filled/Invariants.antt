use Rattle.std.proofs.Common.{◌≡◌, ◌≤◌, ◌*◌}
use Rattle.std.specs.Arc.{arc_value}
use Rattle.world_model.specs.Book.{PlaceBook}
use Rattle.world_model.specs.Counts.{filled_of}
use Rattle.world_model.specs.Sound.{most_places}
use Rattle.dimension_ops.proofs.Totals.{so_far}
use Rattle.dimension_ops.proofs.world.World.filled.Given as goal

-- the spreadsheets so far are counted, and none has more than it can have
abbrev pub invariant-loop-book : goal.invariant-loop-book
invariant-loop-book l =
    (l.filled ≡ so_far (λ (book : PlaceBook). filled_of book.sheets) arc_value l.book-index l.book-items)
    × (l.filled ≤ l.book-index * most_places)
