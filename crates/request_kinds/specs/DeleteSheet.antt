-- deleteSheet (Google Sheets API v4 reference, DeleteSheetRequest): the sheet is deleted, and each reference to it is
-- lost. Every cell of it is touched.
use Rattle.std.specs.Prelude.{◌≡◌, ℕ, List, [], ◌∷◌, Result}
use Rattle.protection.specs.Denial.{Cells}
use Rattle.world_model.specs.Book.{PlaceBook}
use Rattle.world_model.specs.BookChange.{BookChange}
use Rattle.world_model.specs.Sheet.{PlaceSheet}
use Rattle.dimension_ops.specs.Broken.{judged_by}
use Rattle.dimension_ops.specs.SheetRequests.{sheet_dropped_broken}
use Rattle.dimension_ops.specs.declared.rule.Rule.{Rule}
use Rattle.values_api.specs.Denials.{AreaCells}
use Rattle.sheets_json.specs.declared.spreadsheet.Reply.{Reply}
use Rattle.sheets_json.specs.declared.spreadsheet.Reply.TheVariants as reply
use Rattle.request_kinds.specs.Dimensions.{whole_sheet}

abbrev pub SheetCells : ℕ → List PlaceSheet → Cells
SheetCells sheet sheets = AreaCells sheets (whole_sheet sheet)

abbrev pub IsDeleteSheet : ℕ → PlaceBook → Result (Reply × List BookChange) Rule → Type 0
IsDeleteSheet sheet book told =
    told ≡ judged_by (sheet_dropped_broken sheet book.sheets) (reply.Empty, BookChange.SheetDeleted sheet ∷ [])
