use Rattle.std.proofs.Common.{◌≤◌, ap, sym, subst, ◌∙◌, le_trans, map, arith}
use Rattle.std.specs.Arc.{arc_value}
use Rattle.cell_store.specs.Table.{filled_places}
use Rattle.world_model.specs.Counts.{filled_of}
use Rattle.world_model.specs.Sheet.{PlaceSheet}
use Rattle.world_model.specs.Sound.{most_places}
use Rattle.dimension_ops.proofs.Marking.{kept_book}
use Rattle.dimension_ops.proofs.Totals.{total_within}
use Rattle.dimension_ops.proofs.book.Book.filled.Goals as goal

pub overflow_add-filled : goal.overflow_add-filled
overflow_add-filled c =
    let within =
    total_within (λ (sheet : PlaceSheet). filled_places sheet.table) arc_value c.deref-sheet-items.result.now
    c.loop-sheet.sheet-index c.loop-sheet.filled c.loop-sheet.invariant c.sheet-item.result c.filled-filled.result
    c.loop-sheet-test.true c.sheet-item.is
    (c.filled-filled.ensures ∙ ap (λ (sheet : PlaceSheet). filled_places sheet.table) c.deref.ensures) in
    let few : filled_of (map arc_value c.deref-sheet-items.result.now) ≤ most_places =
    subst (λ list. filled_of (map arc_value list) ≤ most_places) (sym c.deref-sheet-items.ensures.value)
    (le_trans (c.filled_within_places.ensures.book
    (kept_book c.self.inside (map arc_value c.self.inside.sheets.items)) c.self.invariant.0)
    c.self.invariant.0.few_places) in
    omega (arith, within, few)
