-- What an append of values makes of a spreadsheet, and what it answers (Google Sheets API v4 reference,
-- spreadsheets.values.append, InsertDataOption and AppendValuesResponse). Where the values begin is this project's
-- profile.
use Rattle.std.specs.Prelude.{◌≡◌, ℕ, Bool, true, ◌+◌, ◌-◌, ◌*◌, ◌++◌, ◌∷◌, ◌==◌, [], List, max, if◌then◌else◌}
use Rattle.std.specs.Prelude.{Option, None, Some, Result, Ok, Err, MatchResult, OnOk}
use Rattle.std.specs.List.{sum_by}
use Rattle.std.specs.Option.{option_map}
use Rattle.cell_value.specs.declared.cell.Block.{Block}
use Rattle.grid_range.specs.Area.{first_cell}
use Rattle.grid_range.specs.declared.area.Area.{Area}
use Rattle.grid_range.specs.declared.axis.Axis.{Axis}
use Rattle.grid_range.specs.declared.axis.Axis.TheVariants.{Rows, Columns}
use Rattle.grid_range.specs.declared.band.Band.TheVariants.{Span}
use Rattle.grid_range.specs.declared.change.Change.TheVariants.{Insert}
use Rattle.world_model.specs.Book.{PlaceBook}
use Rattle.world_model.specs.BookChange.{BookChange, AreChanges}
use Rattle.world_model.specs.Laws.{size_of}
use Rattle.world_model.specs.Sheet.{PlaceSheet}
use Rattle.world_model.specs.Sound.{place_sheet_with}
use Rattle.dimension_ops.specs.Broken.{first_passed}
use Rattle.dimension_ops.specs.Lines.{passes_size}
use Rattle.dimension_ops.specs.declared.rule.Limit.{Limit}
use Rattle.dimension_ops.specs.declared.rule.Rule.{Rule}
use Rattle.dimension_ops.specs.declared.rule.Rule.TheVariants.{PastLimit}
use Rattle.values_api.specs.declared.appending.Added.{Added}
use Rattle.values_api.specs.declared.table.Rectangle.{Rectangle}
use Rattle.values_api.specs.declared.writing.WrittenCells.{WrittenCells}
use Rattle.values_api.specs.Blocks.{contents_of, rows_needed, cols_needed}
use Rattle.values_api.specs.Denials.{IsWriteBy}
use Rattle.values_api.specs.Tables.{IsTableIn}

-- ---- where the values begin

-- in the row behind the table, at its first column, or at the area's first cell
abbrev pub start_of : Option Rectangle → Area → ℕ × ℕ
start_of None area = first_cell area
start_of (Some table) area = (table.bottom, table.left)

-- the one cell
abbrev pub cell_area : ℕ → ℕ × ℕ → Area
cell_area sheet cell =
    record { sheet = sheet; rows = Span cell.0 (cell.0 + 1); cols = Span cell.1 (cell.1 + 1) }

abbrev pub table_area : ℕ → Rectangle → Area
table_area sheet table =
    record { sheet = sheet; rows = Span table.top table.bottom; cols = Span table.left table.right }

-- ---- the lines that are added

-- values count as one row at least
abbrev pub rows_appended : Block → ℕ
rows_appended block = max 1 (rows_needed block)

-- so many of the lines from the first one on are behind the last one
abbrev pub missing : ℕ → ℕ → ℕ → ℕ
missing first count lines = first + count - lines

-- rows are inserted where the values begin, or those that are missing are added at the end; so are missing columns
abbrev pub lines_added : Bool → ℕ × ℕ → Block → PlaceSheet → Added
lines_added insert start block sheet = record {
  row = if insert then start.0 else sheet.table.rows;
  rows = if insert then rows_appended block else missing start.0 (rows_appended block) sheet.table.rows;
  col = sheet.table.cols;
  cols = missing start.1 (cols_needed block) sheet.table.cols;
}

-- so many lines are inserted, which may be none
abbrev pub added_on : ℕ → Axis → ℕ → ℕ → List BookChange
added_on sheet axis at count = if count == 0 then [] else BookChange.LinesChanged sheet axis (Insert at count) ∷ []

abbrev pub changes_of : ℕ → Added → List BookChange
changes_of sheet added = added_on sheet Rows added.row added.rows ++ added_on sheet Columns added.col added.cols

-- the size of the sheet with these lines
abbrev pub size_added : Added → PlaceSheet → ℕ × ℕ
size_added added sheet = (sheet.table.rows + added.rows, sheet.table.cols + added.cols)

-- how many places all sheets have then
abbrev pub places_added : ℕ → Added → List PlaceSheet → ℕ
places_added id added sheets = sum_by (λ sheet.
    let size = if sheet.id == id then size_added added sheet else size_of sheet in size.0 * size.1) sheets

-- the first limit that is passed with them
abbrev pub limit_passed : Added → PlaceSheet → List PlaceSheet → Option Limit
limit_passed added sheet sheets =
    first_passed (passes_size (size_added added sheet) (places_added sheet.id added sheets))

-- ---- the append

-- the answer of an append to that table whose values were written so
abbrev pub answer_with : ℕ → Option Rectangle → WrittenCells → Option Area × WrittenCells
answer_with sheet table written = (option_map (table_area sheet) table, written)

-- the lines are added, then the user's values are written as far as the sheet goes: which protected ranges deny him a
-- cell is taken once the lines are there, since it may be of a new one
pub record IsAppended (user : List ℕ) (sheet : ℕ) (added : Added) (start : ℕ × ℕ) (block : Block)
    (table : Option Rectangle) (changes : List BookChange) (before after : PlaceBook)
    (answer : Result (Option Area × WrittenCells) Rule) : Type 0 where
  pub between : PlaceBook
  pub lines : AreChanges (changes_of sheet added) before between
  pub own : PlaceSheet
  pub there : place_sheet_with sheet between.sheets ≡ Some own
  pub told : Result WrittenCells Rule
  pub write : IsWriteBy user true (cell_area sheet start) block own between after told
  pub answered : MatchResult told (λ written. answer ≡ Ok (answer_with sheet table written)) (λ rule. answer ≡ Err rule)
  pub changes_are : changes ≡ changes_of sheet added
      ++ BookChange.CellsUpdated sheet (contents_of write.is.entries) ∷ []

-- unless the lines pass a limit, which is told before those that the write may pass
abbrev pub IsAppendUnless : Option Limit → Type 0 → List BookChange → Result (Option Area × WrittenCells) Rule → Type 0
IsAppendUnless None IsDone changes answer = IsDone
IsAppendUnless (Some limit) IsDone changes answer = (changes ≡ []) × (answer ≡ Err (PastLimit limit))

-- an append of the user's block to the table that the area of the sheet has makes that of the spreadsheet, and is
-- answered so
pub record IsAppend (user : List ℕ) (insert : Bool) (area : Area) (block : Block) (sheet : PlaceSheet)
    (before after : PlaceBook) (answer : Result (Option Area × WrittenCells) Rule) : Type 0 where
  pub table : Option Rectangle
  pub found : IsTableIn area sheet.table table
  pub changes : List BookChange
  pub appended : IsAppendUnless
      (limit_passed (lines_added insert (start_of table area) block sheet) sheet before.sheets)
      (IsAppended user area.sheet (lines_added insert (start_of table area) block sheet) (start_of table area) block
      table changes before after answer)
      changes answer
  pub made : OnOk answer (AreChanges changes before after)
