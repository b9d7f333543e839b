-- What a range text names on a sheet that is found.
use Rattle.std.proofs.Common.{◌≡◌, List, sym, subst, ap, ◌∙◌, Bool}
use Rattle.std.specs.Prelude.{Option, Some, IsSomeAnd, Result, Ok, Err, IfOk}
use Rattle.std.specs.List.{All, find}
use Rattle.grid_range.specs.Area.{AreaWithin}
use Rattle.grid_range.specs.declared.area.Area.{Area}
use Rattle.world_model.specs.Sheet.{PlaceSheet}
use Rattle.world_model.specs.Sound.{place_sheet_with}
use Rattle.dimension_ops.specs.declared.rule.Rule.{Rule}
use Rattle.values_api.specs.FoundLaws.{holds_of_found, some_and}
use Rattle.values_api.specs.Ranges.{FoundArea, IsOf, IsThere}

-- an area of a sheet that was looked for is of one that is found by its id
pub of_found : (test : PlaceSheet → Bool) (sheets : List PlaceSheet) (area : Area)
    → All (λ sheet. place_sheet_with sheet.id sheets ≡ Some sheet) sheets → IsOf area (find test sheets)
    → IsThere sheets area
of_found test sheets area own of =
    let (sheet, is, both) = some_and (λ (sheet : PlaceSheet). (area.sheet ≡ sheet.id)
    × AreaWithin area sheet.table.rows sheet.table.cols) (find test sheets) of in
    let found = holds_of_found (λ (sheet : PlaceSheet). place_sheet_with sheet.id sheets ≡ Some sheet) test sheets
    sheet own is in
    subst (λ one. IsSomeAnd one (λ (sheet : PlaceSheet). AreaWithin area sheet.table.rows sheet.table.cols))
    (sym (ap (λ n. place_sheet_with n sheets) both.0 ∙ found)) both.1

pub answer_there : (test : PlaceSheet → Bool) (sheets : List PlaceSheet) (found : Option PlaceSheet)
    (answer : Result FoundArea Rule) → All (λ sheet. place_sheet_with sheet.id sheets ≡ Some sheet) sheets
    → found ≡ find test sheets → IfOk answer (λ one. IsOf one.0 found) → IfOk answer (λ one. IsThere sheets one.0)
answer_there test sheets found (Ok one) own is of =
    of_found test sheets one.0 own (subst (IsOf one.0) is of)
answer_there test sheets found (Err rule) own is of = tt
