-- appendCells (Google Sheets API v4 reference, AppendCellsRequest): rows are written from the first column of the row
-- behind the last one that holds a cell on; those that are missing there are added at the end of the sheet first.
use Rattle.std.specs.Prelude.{◌≡◌, ◌==◌, ◌+◌, ℕ, Bool, true, false, List, [], Option, None, Some, MatchOption, Result, Ok, Err, if◌then◌else◌}
use Rattle.cell_value.specs.declared.cell.Block.{Block}
use Rattle.grid_range.specs.declared.area.Area.{Area}
use Rattle.grid_range.specs.declared.axis.Axis.TheVariants.{Rows}
use Rattle.grid_range.specs.declared.band.Band.TheVariants.{From}
use Rattle.grid_range.specs.declared.change.Change.TheVariants.{Insert}
use Rattle.world_model.specs.Book.{PlaceBook}
use Rattle.world_model.specs.BookChange.{AreChanges, BookChange}
use Rattle.world_model.specs.Laws.{size_of}
use Rattle.world_model.specs.Sheet.{PlaceSheet}
use Rattle.world_model.specs.Sound.{place_sheet_with}
use Rattle.dimension_ops.specs.Broken.{first_broken}
use Rattle.dimension_ops.specs.Lines.{lines_broken}
use Rattle.dimension_ops.specs.declared.rule.Rule.{Rule}
use Rattle.dimension_ops.specs.declared.rule.Rule.TheVariants as rule
use Rattle.values_api.specs.Appends.{added_on, missing}
use Rattle.values_api.specs.Blocks.{rows_needed}
use Rattle.values_api.specs.Denials.{IsUnlessDenied, WriteCells}
use Rattle.values_api.specs.Rows.{IsRowBehind}
use Rattle.sheets_json.specs.declared.spreadsheet.Reply.{Reply}
use Rattle.sheets_json.specs.declared.spreadsheet.Reply.TheVariants as reply
use Rattle.request_kinds.specs.Rows.{AreRowsPut}
use Rattle.request_kinds.specs.Telling.{Tells, UnlessBroken}

-- the sheet from the first column of the row on
abbrev pub from_row : ℕ → ℕ → Area
from_row sheet row = record { sheet = sheet; rows = From row; cols = From 0 }

-- so many rows of the values are behind the last row of the sheet
abbrev pub rows_missing : ℕ → Block → PlaceSheet → ℕ
rows_missing row rows found = missing row (rows_needed rows) found.table.rows

-- the rule that is broken by adding so many rows to the sheet
abbrev pub broken_by_rows : ℕ → ℕ → PlaceSheet → List PlaceSheet → Option Rule
broken_by_rows sheet count found sheets =
    if count == 0 then None else first_broken (lines_broken sheet Rows (Insert found.table.rows count) sheets)

-- the first changes are made, and then the user's rows are written to the area: the cells that are written or emptied
-- are touched, and which protected ranges deny one is taken then, since it may be of a new row
pub record AreRowsWrittenBy (user : List ℕ) (first : List BookChange) (rows : Block) (book : PlaceBook) (area : Area)
    (told : Result (Reply × List BookChange) Rule) : Type 0 where
  pub between : PlaceBook
  pub changed : AreChanges first book between
  pub put : IsUnlessDenied user between (WriteCells between.sheets true area rows)
      (AreRowsPut first rows true between area) told

-- they are written from the row on, once the missing rows are there
abbrev pub AreWrittenFrom : List ℕ → ℕ → ℕ → Block → PlaceBook → PlaceSheet → Tells
AreWrittenFrom user sheet row rows book found =
    UnlessBroken (broken_by_rows sheet (rows_missing row rows found) found book.sheets)
    (AreRowsWrittenBy user (added_on sheet Rows found.table.rows (rows_missing row rows found)) rows book
    (from_row sheet row))

-- from the row behind the last one that holds a cell on
pub record AreRowsAppended (user : List ℕ) (sheet : ℕ) (rows : Block) (book : PlaceBook) (found : PlaceSheet)
    (told : Result (Reply × List BookChange) Rule) : Type 0 where
  pub row : ℕ
  pub behind : IsRowBehind found.table row
  pub written : AreWrittenFrom user sheet row rows book found told

-- no rows change nothing
abbrev pub UnlessNone : Bool → Tells → Tells
UnlessNone true IsDone told = told ≡ Ok (reply.Empty, [])
UnlessNone false IsDone told = IsDone told

abbrev pub IsAppendCells : List ℕ → ℕ → Block → PlaceBook → Tells
IsAppendCells user sheet rows book told =
    MatchOption (place_sheet_with sheet book.sheets) (told ≡ Err rule.NoSheet)
    (λ found. UnlessNone (rows_needed rows == 0) (AreRowsAppended user sheet rows book found) told)

-- ---- what the private functions hand to one another

-- the rows are behind the last one of the sheet
pub record AreThere (sheet count : ℕ) (found : PlaceSheet) (before after : PlaceBook) : Type 0 where
  pub changes : AreChanges (added_on sheet Rows found.table.rows count) before after
  pub own : PlaceSheet
  pub there : place_sheet_with sheet after.sheets ≡ Some own
  pub size : size_of own ≡ (found.table.rows + count, found.table.cols)

-- so many rows are added to the sheet, or a rule is broken
abbrev pub AreRowsAdded : ℕ → ℕ → PlaceSheet → PlaceBook → PlaceBook → Result (Unit {0}) Rule → Type 0
AreRowsAdded sheet count found before after (Ok done) =
    (broken_by_rows sheet count found before.sheets ≡ None) × AreThere sheet count found before after
AreRowsAdded sheet count found before after (Err broken) =
    broken_by_rows sheet count found before.sheets ≡ Some broken
