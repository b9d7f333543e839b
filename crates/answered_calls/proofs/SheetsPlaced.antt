-- The sheets that are asked for with a spreadsheet can be found, each beside those before it.
use Rattle.std.proofs.Common.{◌≡◌, ◌+◌, ◌^◌, ◌<◌, refl, ap, List, [], ◌∷◌, length, arith, length-append}
use Rattle.std.specs.Prelude.{take, drop}
use Rattle.std.proofs.lemmas.List.{take-append-drop}
use Rattle.cell_value.specs.declared.cell.SheetProperties.{SheetProperties}
use Rattle.world_model.specs.Making.{Placed}
use Rattle.world_model.specs.Sheet.{PlaceSheet}
use Rattle.world_model.specs.SheetChange.{new_place_sheet}
use Rattle.dimension_ops.specs.Creating.{ArePlaced, sheets_with}
use Rattle.dimension_ops.specs.SheetRequests.{new_place}
use Rattle.answered_calls.proofs.SheetsAsked.{sheet_asked}

one_more : (sheets : List PlaceSheet) (placed : Placed) → length (sheets_with sheets placed) ≡ length sheets + 1
one_more sheets placed =
    let all = length-append (take placed.0 sheets) (new_place_sheet placed.1 ∷ drop placed.0 sheets) in
    let parts = length-append (take placed.0 sheets) (drop placed.0 sheets) in
    let whole = ap length (take-append-drop placed.0 sheets) in
    omega (arith, all, parts, whole)

pub some_placed : (asked : List SheetProperties) (sheets : List PlaceSheet) → length sheets + length asked < 2 ^ 64
    → (placed : List Placed) × ArePlaced asked sheets placed
some_placed [] sheets few = ([], tt)
some_placed (one ∷ others) sheets few =
    let (new, is_new) = sheet_asked sheets (omega (arith, few)) one in
    let placed : Placed = (new_place one sheets, new) in
    let long = one_more sheets placed in
    let (rest, are) = some_placed others (sheets_with sheets placed) (omega (arith, few, long)) in
    (placed ∷ rest, ((refl, is_new), are))
