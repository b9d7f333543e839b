use Rattle.std.proofs.Common.{◌≡◌, ◌≤◌, sym, ap, subst, ◌∙◌, [], ◌∷◌, length}
use Rattle.world_model.specs.Book.{PlaceBook}
use Rattle.world_model.specs.BookChange.{AreChanges, BookChange}
use Rattle.world_model.specs.Sheet.{PlaceSheet}
use Rattle.world_model.specs.SheetChange.{new_place_sheet, place_sheet_added}
use Rattle.world_model.specs.Sound.{IsSound, place_sheet_with}
use Rattle.std.proofs.lemmas.Bool.{ltb-false}
use Rattle.dimension_ops.specs.JudgingLaws.{breaks_none}
use Rattle.dimension_ops.specs.NewSheetLaws.{few_lines, room_for}
use Rattle.dimension_ops.specs.SheetRequests.{new_place, sheet_added_broken}
use Rattle.dimension_ops.proofs.NewSheets.{found_added}
use Rattle.dimension_ops.proofs.sheets.put_new.Goals as goal

pub new_sheet-requires : goal.new_sheet-requires
new_sheet-requires c = few_lines c.args.properties.now c.args.book.now.sheets c.requires

pub insert-requires-clause-there : goal.insert-requires-clause-there
insert-requires-clause-there c =
    subst (λ n. n ≤ length c.args.book.now.sheets) (sym c.place_of_new-place.ensures)
    (ltb-false (length c.args.book.now.sheets) (new_place c.args.properties.now c.args.book.now.sheets)
    (breaks_none (sheet_added_broken c.args.properties.now c.args.book.now.sheets) c.requires).bad_range)

pub insert-requires-clause-sound : goal.insert-requires-clause-sound
insert-requires-clause-sound c =
    let new = c.in_ok-sheet.ensures.0 in
    let is = c.in_ok-sheet.ensures.1 in
    subst (λ (sheet : PlaceSheet). IsSound (place_sheet_added c.place_of_new-place.result sheet c.args.book.now))
    (sym c.in_ok-sheet.ensures.2)
    (c.sheets_added.ensures.stays c.args.book.now c.place_of_new-place.result new c.stays_sound.ensures
    (room_for c.args.properties.now c.args.book.now new c.requires is))

pub returns-clause-added : goal.returns-clause-added
returns-clause-added c =
    let before = c.args.book.now in
    let new = c.in_ok-sheet.ensures.0 in
    let is = c.in_ok-sheet.ensures.1 in
    let made = c.in_ok-sheet.ensures.2 in
    let place = new_place c.args.properties.now before.sheets in
    let room = room_for c.args.properties.now before new c.requires is in
    let is_id : c.id-id.result ≡ new.id = c.id-id.ensures ∙ ap (λ (sheet : PlaceSheet). sheet.id) made in
    let after : c.insert.new.self ≡ place_sheet_added place (new_place_sheet new) before =
    c.in_ok-insert.ensures.added
    ∙ ap (λ (sheet : PlaceSheet). place_sheet_added c.place_of_new-place.result sheet before) made
    ∙ ap (λ n. place_sheet_added n (new_place_sheet new) before) c.place_of_new-place.ensures in (
      new,
      is,
      is_id,
      ap (λ id. place_sheet_with id c.insert.new.self.sheets) is_id
          ∙ ap (λ (book : PlaceBook). place_sheet_with new.id book.sheets) after
          ∙ found_added before place new room.id,
      subst (AreChanges (BookChange.SheetAdded place new ∷ []) before) (sym after)
          (c.sheets_added.ensures.changes before place new room),
    )
