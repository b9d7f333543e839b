-- Cells that a request, a write, a clear or an append doesn't touch keep what was entered into them, whoever's it is:
-- what a user does leaves each other cell than those that are touched.
use Rattle.std.specs.Prelude.{◌≡◌, ℕ, Bool, true, false, List, [], Option, Some, Result, Ok}
use Rattle.cell_value.specs.declared.cell.Block.{Block}
use Rattle.grid_range.specs.declared.area.Area.{Area}
use Rattle.grid_range.specs.declared.axis.Axis.TheVariants.{Rows}
use Rattle.json_requests.specs.declared.request.Request.{Request}
use Rattle.json_requests.specs.declared.request.Request.TheVariants as request
use Rattle.sheets_json.specs.declared.spreadsheet.Reply.{Reply}
use Rattle.world_model.specs.Book.{PlaceBook}
use Rattle.world_model.specs.BookChange.{BookChange}
use Rattle.world_model.specs.Sheet.{PlaceSheet}
use Rattle.world_model.specs.Sound.{place_sheet_with}
use Rattle.dimension_ops.specs.declared.rule.Rule.{Rule}
use Rattle.values_api.specs.Appends.{IsAppended, added_on, cell_area, changes_of}
use Rattle.values_api.specs.Blocks.{IsWrite, contents_of}
use Rattle.values_api.specs.Denials.{AreaCells, WriteCells}
use Rattle.values_api.specs.Updates.{cleared}
use Rattle.values_api.specs.declared.appending.Added.{Added}
use Rattle.values_api.specs.declared.table.Rectangle.{Rectangle}
use Rattle.values_api.specs.declared.writing.WrittenCells.{WrittenCells}
use Rattle.request_kinds.specs.AppendCells.{AreRowsWrittenBy}
use Rattle.request_kinds.specs.Requests.{IsDoneByKind}
use Rattle.request_kinds.specs.Telling.{cells_updated}
use Rattle.request_kinds.specs.Touching.{TouchedCells}
use Rattle.kept_cells.specs.Staying.{LeavesOthers}

-- the request isn't one that appends rows
abbrev pub appends_rows : Request → Bool
appends_rows (request.AppendCells sheet rows) = true
appends_rows _ = false

pub record UntouchedCellsKeep : Type 0 where
  pub request : (user project : List ℕ) (book : PlaceBook) (asked : Request) (reply : Reply) (changes : List BookChange)
      → appends_rows asked ≡ false → IsDoneByKind user project book asked (Ok (reply, changes))
      → LeavesOthers [] (TouchedCells book.sheets asked) book changes
  pub rows : (user : List ℕ) (sheet at count : ℕ) (rows : Block) (book : PlaceBook) (area : Area) (reply : Reply)
      (changes : List BookChange)
      → (written : AreRowsWrittenBy user (added_on sheet Rows at count) rows book area (Ok (reply, changes)))
      → LeavesOthers (added_on sheet Rows at count) (WriteCells written.between.sheets true area rows) book changes
  pub write : (one_cell : Bool) (area : Area) (block : Block) (sheet : PlaceSheet) (before after : PlaceBook)
      (answer : Result WrittenCells Rule) → (writes : IsWrite one_cell area block sheet before after answer)
      → place_sheet_with area.sheet before.sheets ≡ Some sheet
      → LeavesOthers [] (WriteCells before.sheets one_cell area block) before
      (cells_updated area.sheet (contents_of writes.entries))
  pub clear : (book : PlaceBook) (area : Area)
      → LeavesOthers [] (AreaCells book.sheets area) book (cells_updated area.sheet (cleared area))
  pub append : (user : List ℕ) (sheet : ℕ) (added : Added) (start : ℕ × ℕ) (block : Block) (table : Option Rectangle)
      (changes : List BookChange) (before after : PlaceBook) (answer : Option Area × WrittenCells)
      → (appended : IsAppended user sheet added start block table changes before after (Ok answer))
      → LeavesOthers (changes_of sheet added) (WriteCells appended.between.sheets true (cell_area sheet start) block)
      before changes
