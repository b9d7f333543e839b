use Rattle.std.proofs.Common.{◌≤◌, ◌*◌, ap, sym, subst, ◌∙◌, map, arith}
use Rattle.std.specs.Arc.{arc_value}
use Rattle.world_model.specs.Counts.{grid_places}
use Rattle.world_model.specs.Sheet.{PlaceSheet}
use Rattle.world_model.specs.Sound.{most_places}
use Rattle.dimension_ops.proofs.Totals.{total_within}
use Rattle.dimension_ops.proofs.book.Book.grid_places.Goals as goal

pub overflow_add-places : goal.overflow_add-places
overflow_add-places c =
    let within =
    total_within (λ (sheet : PlaceSheet). sheet.table.rows * sheet.table.cols) arc_value
    c.deref-sheet-items.result.now c.loop-sheet.sheet-index c.loop-sheet.places c.loop-sheet.invariant
    c.sheet-item.result c.places_of-places.result c.loop-sheet-test.true c.sheet-item.is
    (c.places_of-places.ensures.places
    ∙ ap (λ n. n * c.cols.result) (c.rows.ensures ∙ ap (λ (sheet : PlaceSheet). sheet.table.rows) c.deref.ensures)
    ∙ ap (λ n. (arc_value c.sheet-item.result).table.rows * n)
    (c.cols.ensures ∙ ap (λ (sheet : PlaceSheet). sheet.table.cols) c.deref-in-loop-sheet.ensures)) in
    let few : grid_places (map arc_value c.deref-sheet-items.result.now) ≤ most_places =
    subst (λ list. grid_places (map arc_value list) ≤ most_places) (sym c.deref-sheet-items.ensures.value)
    c.self.invariant.0.few_places in
    omega (arith, within, few)
