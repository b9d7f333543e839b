-- addSheet (Google Sheets API v4 reference, AddSheetRequest): an empty sheet is added, and its properties are replied.
use Rattle.std.specs.Prelude.{◌≡◌, List, [], ◌∷◌, Option, None, Some, unwrap_or, Result, Ok, Err}
use Rattle.cell_value.specs.declared.cell.SheetProperties.{SheetProperties}
use Rattle.world_model.specs.Book.{PlaceBook}
use Rattle.world_model.specs.BookChange.{BookChange, NewSheet}
use Rattle.world_model.specs.Sheet.{PlaceSheet}
use Rattle.world_model.specs.SheetChange.{new_place_sheet}
use Rattle.dimension_ops.specs.Broken.{first_broken}
use Rattle.dimension_ops.specs.SheetRequests.{IsNewSheet, new_place, sheet_added_broken}
use Rattle.dimension_ops.specs.declared.rule.Rule.{Rule}
use Rattle.sheets_json.specs.declared.spreadsheet.Reply.{Reply}
use Rattle.sheets_json.specs.declared.spreadsheet.Reply.TheVariants as reply
use Rattle.request_kinds.specs.Shown.{shown_properties}

-- nothing is asked for the sheet
abbrev pub any_properties : SheetProperties
any_properties = record { id = None; title = None; index = None; hidden = None; rows = None; cols = None }

-- a new sheet at its place, as a look at the spreadsheet shows it then
abbrev pub sheet_reply : SheetProperties → List PlaceSheet → NewSheet → Reply
sheet_reply properties sheets new =
    reply.AddSheet (shown_properties (new_place properties sheets) (new_place_sheet new))

-- what is told where that is the first broken rule, or else of the sheet
abbrev pub IsAdded : SheetProperties → List PlaceSheet → Option Rule → Result (Reply × List BookChange) Rule → Type 0
IsAdded properties sheets (Some broken) told = told ≡ Err broken
IsAdded properties sheets None told =
    (new : NewSheet) × IsNewSheet properties sheets new
    × (told ≡ Ok (sheet_reply properties sheets new, BookChange.SheetAdded (new_place properties sheets) new ∷ []))

abbrev pub IsSheetAsked : SheetProperties → PlaceBook → Result (Reply × List BookChange) Rule → Type 0
IsSheetAsked properties book told =
    IsAdded properties book.sheets (first_broken (sheet_added_broken properties book.sheets)) told

abbrev pub IsAddSheet : Option SheetProperties → PlaceBook → Result (Reply × List BookChange) Rule → Type 0
IsAddSheet given book told = IsSheetAsked (unwrap_or given any_properties) book told
