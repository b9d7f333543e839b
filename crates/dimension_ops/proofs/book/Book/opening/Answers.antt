use Rattle.std.proofs.Common.{◌≡◌, ℕ, sym, ap, subst, ◌∙◌, List, [], ◌∷◌, ◌++◌}
use Rattle.std.specs.Prelude.{None, map}
use Rattle.std.specs.Arc.{arc_value}
use Rattle.std.proofs.Common.{false}
use Rattle.cell_store.specs.Table.{empty_table}
use Rattle.world_model.specs.Sheet.{PlaceSheet}
use Rattle.world_model.specs.Sound.{IsSound}
use Rattle.dimension_ops.specs.declared.sheets.TheConstants.{DEFAULT_COLUMNS, DEFAULT_ROWS}
use Rattle.dimension_ops.specs.World.{opening_sheet}
use Rattle.dimension_ops.proofs.Marking.{as_book}
use Rattle.dimension_ops.proofs.Opening.{opening_sound}
use Rattle.dimension_ops.proofs.book.Book.opening.Goals as goal

abbrev titled : List ℕ → PlaceSheet
titled title = record {
  id = 0;
  title = title;
  hidden = false;
  table = empty_table DEFAULT_ROWS DEFAULT_COLUMNS;
  merges = [];
  filter = None;
}

pub invariant_of-result : goal.invariant_of-result
invariant_of-result c =
    let one : map arc_value c.in_ok-sheets.sheets.items ≡ opening_sheet ∷ [] =
    c.in_ok-sheets.ensures
    ∙ ap (λ (sheet : PlaceSheet). sheet ∷ [])
    (c.in_ok-sheet.ensures ∙ ap titled (c.of-title.ensures ∙ c.in_ok-from_str.ensures.ok)) in (
      subst (λ ranges. IsSound (as_book c.of.result c.of-2.result c.of-3.result ranges c.new-2.result c.new-3.result
          (map arc_value c.in_ok-sheets.sheets.items)))
          (sym c.new.ensures)
          (subst (λ protections. IsSound (as_book c.of.result c.of-2.result c.of-3.result [] protections c.new-3.result
          (map arc_value c.in_ok-sheets.sheets.items)))
          (sym c.new-2.ensures)
          (subst (λ metadata. IsSound (as_book c.of.result c.of-2.result c.of-3.result [] [] metadata
          (map arc_value c.in_ok-sheets.sheets.items)))
          (sym c.new-3.ensures)
          (subst (λ sheets. IsSound (as_book c.of.result c.of-2.result c.of-3.result [] [] [] sheets)) (sym one)
          (opening_sound c.of.result c.of-2.result c.of-3.result)))),
      c.of-4.ensures ∙ c.in_ok-push.ensures.items ∙ ap (λ list. list ++ (0 ∷ [])) c.new-ids.ensures.items
          ∙ sym (ap (map (λ (sheet : PlaceSheet). sheet.id)) one),
    )
