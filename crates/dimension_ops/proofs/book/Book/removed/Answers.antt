use Rattle.std.proofs.Common.{rules, tests, ◌≡◌, sym, ap, subst, ◌∙◌, map, refl, not, false}
use Rattle.std.specs.Prelude.{filter, ◌==◌}
use Rattle.std.specs.Arc.{arc_value}
use Rattle.std.specs.List.{list_all}
use Rattle.std.proofs.lemmas.Fn.{filter_same}
use Rattle.world_model.specs.Book.{PlaceBook}
use Rattle.world_model.specs.Sheet.{PlaceSheet}
use Rattle.world_model.specs.SheetChange.{other_sheets}
use Rattle.dimension_ops.proofs.LostReferences.{ids_left, marks_left, other_ids}
use Rattle.dimension_ops.proofs.Marking.{as_book, kept_book}
use Rattle.dimension_ops.proofs.book.Book.removed.Goals as goal

pub invariant_of-result : goal.invariant_of-result
invariant_of-result c =
    let before = map arc_value c.self.inside.sheets.items in
    let left = map arc_value c.in_ok-sheets.sheets.items in (
      c.sheets_deleted.ensures.stays
          (kept_book c.self.inside before)
          (as_book c.self.inside.id c.self.inside.title c.self.inside.owner c.lose_sheet.new.self
          c.lose_sheet-2.new.self
          c.lose_sheet-3.new.self left)
          c.args.sheet c.self.invariant.0
          (marks_left c.args.sheet (other_sheets c.args.sheet before) left c.in_ok-sheets.ensures
          ∙ subst (λ (book : PlaceBook). list_all (λ (sheet : PlaceSheet). sheet.hidden)
          (other_sheets c.args.sheet book.sheets) ≡ false) (sym c.self.view_is) c.requires.visible)
          (record {
            id = refl;
            title = refl;
            owner = refl;
            sheets = c.in_ok-sheets.ensures;
            ranges = c.lose_sheet.ensures;
            protections = c.lose_sheet-2.ensures;
            metadata = c.lose_sheet-3.ensures;
          }),
      c.of.ensures
          ∙ filter_same _ (λ id. not (id == c.args.sheet)) _
          (λ x b f' k. (search (rules, tests), search (rules, tests))) _ _
          c.retain.ensures.filtered
          ∙ ap (filter (λ id. not (id == c.args.sheet))) (c.into_vec-ids.ensures ∙ c.self.invariant.1)
          ∙ other_ids c.args.sheet before
          ∙ sym (ids_left c.args.sheet (other_sheets c.args.sheet before) left c.in_ok-sheets.ensures),
    )
