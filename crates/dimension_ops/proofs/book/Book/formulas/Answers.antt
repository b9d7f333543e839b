use Rattle.std.proofs.Common.{◌≤◌, ap, sym, subst, ◌∙◌, le_trans, map, arith}
use Rattle.std.specs.Arc.{arc_value}
use Rattle.world_model.specs.Counts.{formulas_in, formulas_of}
use Rattle.world_model.specs.Sheet.{PlaceSheet}
use Rattle.world_model.specs.Sound.{most_places}
use Rattle.dimension_ops.proofs.Marking.{kept_book}
use Rattle.dimension_ops.proofs.Totals.{total_within}
use Rattle.dimension_ops.proofs.book.Book.formulas.Goals as goal

pub overflow_add-formulas : goal.overflow_add-formulas
overflow_add-formulas c =
    let within =
    total_within (λ (sheet : PlaceSheet). formulas_in sheet.table) arc_value c.deref-sheet-items.result.now
    c.loop-sheet.sheet-index c.loop-sheet.formulas c.loop-sheet.invariant c.sheet-item.result c.formulas-formulas.result
    c.loop-sheet-test.true c.sheet-item.is
    (c.formulas-formulas.ensures ∙ ap (λ (sheet : PlaceSheet). formulas_in sheet.table) c.deref.ensures) in
    let few : formulas_of (map arc_value c.deref-sheet-items.result.now) ≤ most_places =
    subst (λ list. formulas_of (map arc_value list) ≤ most_places) (sym c.deref-sheet-items.ensures.value)
    (le_trans (c.formulas_counted.ensures.all_within (map arc_value c.self.inside.sheets.items))
    (le_trans (c.filled_within_places.ensures.book
    (kept_book c.self.inside (map arc_value c.self.inside.sheets.items)) c.self.invariant.0)
    c.self.invariant.0.few_places)) in
    omega (arith, within, few)
