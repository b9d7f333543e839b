use Rattle.std.proofs.Common.{◌≡◌, ◌≤◌, refl, sym, subst, ◌∙◌, map}
use Rattle.std.specs.Arc.{arc_value}
use Rattle.std.specs.Prelude.{IfSome, IsSomeAnd}
use Rattle.world_model.specs.Book.{PlaceBook}
use Rattle.world_model.specs.Sound.{most_places, place_sheet_with}
use Rattle.dimension_ops.specs.Lines.{lines_of_sheet, places_changed}
use Rattle.dimension_ops.specs.References.{TearsNone}
use Rattle.dimension_ops.specs.SizeLaws.{has_places}
use Rattle.dimension_ops.proofs.Changed.{all_can, items_below, protections_within, same_ids}
use Rattle.dimension_ops.proofs.Marking.{as_book, kept_book}
use Rattle.dimension_ops.proofs.book.Book.lines_changed.Goals as goal

pub sheets_changed-requires-clause-ready : goal.sheets_changed-requires-clause-ready
sheets_changed-requires-clause-ready c =
    all_can c.args.by.now.sheet c.args.by.now.axis c.args.by.now.count c.args.by.now.change.now
    (map arc_value c.self.inside.sheets.items)
    (subst (λ (book : PlaceBook). IsSomeAnd (place_sheet_with c.args.by.now.sheet book.sheets)
    (λ sheet. lines_of_sheet c.args.by.now.axis sheet ≡ c.args.by.now.count)) (sym c.self.view_is) c.requires.long)
    c.self.invariant.0.sheets c.self.invariant.0.distinct c.requires.room
    (subst (λ (book : PlaceBook). IfSome (place_sheet_with c.args.by.now.sheet book.sheets)
    (λ sheet. TearsNone c.args.by.now.axis c.args.by.now.count c.args.by.now.change.now sheet.merges))
    (sym c.self.view_is) c.requires.untorn)

pub change-requires-2-clause-within : goal.change-requires-2-clause-within
change-requires-2-clause-within c =
    protections_within c.args.by.now.sheet c.args.by.now.axis c.args.by.now.count c.args.by.now.change.now
    (map arc_value c.self.inside.sheets.items)
    (subst (λ (book : PlaceBook). IsSomeAnd (place_sheet_with c.args.by.now.sheet book.sheets)
    (λ sheet. lines_of_sheet c.args.by.now.axis sheet ≡ c.args.by.now.count)) (sym c.self.view_is) c.requires.long)
    c.self.inside.protections c.self.invariant.0.protections

pub change-requires-3-clause-below : goal.change-requires-3-clause-below
change-requires-3-clause-below c =
    items_below c.args.by.now.sheet c.args.by.now.axis c.args.by.now.count c.args.by.now.change.now
    (map arc_value c.self.inside.sheets.items)
    (subst (λ (book : PlaceBook). IsSomeAnd (place_sheet_with c.args.by.now.sheet book.sheets)
    (λ sheet. lines_of_sheet c.args.by.now.axis sheet ≡ c.args.by.now.count)) (sym c.self.view_is) c.requires.long)
    c.self.inside.metadata c.self.invariant.0.metadata

pub invariant_of-result : goal.invariant_of-result
invariant_of-result c =
    let before = kept_book c.self.inside (map arc_value c.self.inside.sheets.items) in
    let after = as_book c.self.inside.id c.self.inside.title c.self.inside.owner c.change.new.self
    c.change-2.new.self c.change-3.new.self (map arc_value c.in_ok-sheets.sheets.items) in (
      c.changes_stay_sound.ensures.stays before after c.args.by.now.sheet c.args.by.now.axis c.args.by.now.count
          c.args.by.now.change.now c.self.invariant.0 c.requires.fits c.requires.room
          (subst (λ (book : PlaceBook). IsSomeAnd (place_sheet_with c.args.by.now.sheet book.sheets)
          (λ sheet. lines_of_sheet c.args.by.now.axis sheet ≡ c.args.by.now.count)) (sym c.self.view_is)
          c.requires.long)
          (record {
            id = refl;
            title = refl;
            owner = refl;
            sheets = c.in_ok-sheets.ensures;
            ranges = c.change.ensures.followed;
            protections = c.change-2.ensures.followed;
            metadata = c.change-3.ensures.followed;
          })
          (subst (λ n. n ≤ most_places)
          (sym (has_places c.args.by.now.sheet c.args.by.now.axis c.args.by.now.count c.args.by.now.change.now
          before.sheets
          after.sheets c.in_ok-sheets.ensures))
          (subst (λ (book : PlaceBook). places_changed c.args.by.now.sheet c.args.by.now.axis c.args.by.now.change.now
          book.sheets ≤ most_places) (sym c.self.view_is) c.requires.few)),
      c.self.invariant.1 ∙ same_ids c.args.by.now.sheet c.args.by.now.axis c.args.by.now.count c.args.by.now.change.now
          before.sheets after.sheets c.in_ok-sheets.ensures,
    )
