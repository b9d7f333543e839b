-- What is shown of a spreadsheet itself (Google Sheets API v4 reference, spreadsheets.get, Spreadsheet, Sheet,
-- SheetProperties, GridData, BasicFilter, NamedRange and ProtectedRange).
use Rattle.std.specs.Prelude.{◌≡◌, ◌==◌, ℕ, ◌+◌, Bool, true, false, List, [], ◌∷◌, filter, map, Option, None, Some}
use Rattle.std.specs.List.{AllZip}
use Rattle.world_model.specs.Book.{PlaceBook}
use Rattle.world_model.specs.Sheet.{PlaceSheet}
use Rattle.sheets_json.specs.declared.spreadsheet.DimensionProperties.{DimensionProperties}
use Rattle.sheets_json.specs.declared.spreadsheet.GridData.{GridData}
use Rattle.sheets_json.specs.declared.spreadsheet.ShownProtection.{ShownProtection}
use Rattle.sheets_json.specs.declared.spreadsheet.ShownSheet.{ShownSheet}
use Rattle.sheets_json.specs.declared.spreadsheet.Spreadsheet.{Spreadsheet}
use Rattle.request_kinds.specs.Shown.{shown_properties, shown_protection}
use Rattle.batch_engine.specs.HiddenRows.{AreRowsTold}
use Rattle.batch_engine.specs.Values.{unless_empty}

-- what is told of rows
abbrev pub with_rows : List DimensionProperties → Option GridData
with_rows rows = Some (record { row_metadata = rows })

-- what is known of the sheet's rows, if that is asked for: which its filter hides
abbrev pub IsGridShown : Bool → PlaceBook → PlaceSheet → Option GridData → Type 0
IsGridShown false book sheet grid = grid ≡ None
IsGridShown true book sheet grid =
    (rows : List DimensionProperties) × AreRowsTold book sheet sheet.filter rows × (grid ≡ with_rows rows)

-- the protected ranges of a sheet as a user is shown them, in order of id
abbrev pub shown_protections : List ℕ → PlaceBook → ℕ → List ShownProtection
shown_protections user book sheet =
    map (shown_protection user book.owner) (filter (λ one. one.area.sheet == sheet) book.protections)

-- the sheet at a place among the sheets, with what is known of its rows; its merges stand by first row and then first
-- column, and its protected ranges, as they are shown, in order of id, where there are some
abbrev pub shown_sheet : ℕ → PlaceSheet → Option GridData → List ShownProtection → ShownSheet
shown_sheet index sheet grid protections = record {
  basic_filter = sheet.filter;
  «data» = grid;
  merges = unless_empty sheet.merges;
  properties = shown_properties index sheet;
  protected_ranges = unless_empty protections;
}

-- the sheets of the spreadsheet from a place on, each with what is known of its rows
abbrev pub shown_from : List ℕ → PlaceBook → ℕ → List PlaceSheet → List (Option GridData) → List ShownSheet
shown_from user book index (sheet ∷ sheets) (grid ∷ grids) =
    shown_sheet index sheet grid (shown_protections user book sheet.id) ∷ shown_from user book (index + 1) sheets grids
shown_from user book index _ _ = []

-- the spreadsheet with these sheets; the named ranges stand in order of creation, where there are some
abbrev pub with_sheets : PlaceBook → List ShownSheet → Spreadsheet
with_sheets book sheets = record {
  named_ranges = unless_empty book.ranges;
  title = book.title;
  sheets = sheets;
  spreadsheet_id = book.id;
}

-- what a user is shown of the spreadsheet
abbrev pub spreadsheet_with : List ℕ → PlaceBook → List (Option GridData) → Spreadsheet
spreadsheet_with user book grids = with_sheets book (shown_from user book 0 book.sheets grids)

-- without what is known of rows
abbrev pub spreadsheet_alone : List ℕ → PlaceBook → Spreadsheet
spreadsheet_alone user book = spreadsheet_with user book (map (λ sheet. None) book.sheets)

-- the rows of the sheets are shown where that is wanted
pub record IsSpreadsheetShown (user : List ℕ) (wanted : Bool) (book : PlaceBook) (shown : Spreadsheet) : Type 0 where
  pub grids : List (Option GridData)
  pub each : AllZip (IsGridShown wanted book) book.sheets grids
  pub shown_is : shown ≡ spreadsheet_with user book grids

-- ---- what the private functions hand to one another

-- so many sheets are shown
pub record AreSheetsShown (user : List ℕ) (wanted : Bool) (book : PlaceBook) (sheets : List PlaceSheet)
    (shown : List ShownSheet) : Type 0 where
  pub grids : List (Option GridData)
  pub each : AllZip (IsGridShown wanted book) sheets grids
  pub shown_are : shown ≡ shown_from user book 0 sheets grids
