-- addSheet: where no rule is broken there is room for the sheet that is asked for, and it can be added.
use Rattle.std.proofs.Common.{◌≡◌, refl, [], ◌∷◌, arith}
use Rattle.std.specs.Prelude.{None, Option, Some, Ok, Err}
use Rattle.cell_value.specs.declared.cell.SheetProperties.{SheetProperties}
use Rattle.world_model.specs.Book.{PlaceBook}
use Rattle.world_model.specs.BookChange.{BookChange}
use Rattle.world_model.specs.SheetChange.{new_place_sheet, place_sheet_added}
use Rattle.world_model.specs.SheetLaws.{SheetsAdded}
use Rattle.world_model.specs.Sound.{IsSound}
use Rattle.dimension_ops.specs.Broken.{first_broken}
use Rattle.dimension_ops.specs.NewSheetLaws.{room_for}
use Rattle.dimension_ops.specs.SheetRequests.{new_place, sheet_added_broken}
use Rattle.dimension_ops.specs.declared.rule.Rule.{Rule}
use Rattle.request_kinds.specs.AddSheet.{IsAddSheet, IsAdded, any_properties, sheet_reply}
use Rattle.answered_calls.proofs.SheetsAsked.{sheet_asked}
use Rattle.answered_calls.proofs.Telling.{IsMadeSome}

module _ (added : SheetsAdded) (book : PlaceBook) (sound : IsSound book) where
  some_added : (properties : SheetProperties) (first : Option Rule)
      → first_broken (sheet_added_broken properties book.sheets) ≡ first
      → IsMadeSome book (IsAdded properties book.sheets first)
  some_added properties (Some broken) is none = none (Err broken) refl tt
  some_added properties None is none =
      let most = sound.few_sheets in
      let (new, is_new) = sheet_asked book.sheets (omega (arith, most)) properties in
      let at = new_place properties book.sheets in
      none (Ok (sheet_reply properties book.sheets new, BookChange.SheetAdded at new ∷ [])) (new, is_new, refl) (
        place_sheet_added at (new_place_sheet new) book,
        added.changes book at new (room_for properties book new is is_new),
      )

  pub add_sheet_made : (given : Option SheetProperties) → IsMadeSome book (IsAddSheet given book)
  add_sheet_made None =
      some_added any_properties (first_broken (sheet_added_broken any_properties book.sheets)) refl
  add_sheet_made (Some properties) =
      some_added properties (first_broken (sheet_added_broken properties book.sheets)) refl
