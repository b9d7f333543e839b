-- A protected cell's entered content changes only for its editors and the owner (Google Sheets API v4 reference,
-- ProtectedRange: `range`, `unprotectedRanges`, `warningOnly` and `editors`): what a request, a write, a clear or an
-- append of another user makes leaves the cell where it is, with what was entered into it. Each is judged by the
-- protected ranges as they are before it, and what is written behind added lines once these are there.
use Rattle.std.specs.Prelude.{◌≡◌, ℕ, Bool, List, [], ◌++◌, Option, None, Some, Ok}
use Rattle.cell_value.specs.declared.cell.Block.{Block}
use Rattle.grid_range.specs.declared.area.Area.{Area}
use Rattle.world_model.specs.Book.{PlaceBook}
use Rattle.world_model.specs.BookChange.{AreChanges, BookChange}
use Rattle.world_model.specs.Sheet.{PlaceSheet}
use Rattle.world_model.specs.Sound.{place_sheet_with}
use Rattle.values_api.specs.Appends.{IsAppended}
use Rattle.values_api.specs.Blocks.{contents_of}
use Rattle.values_api.specs.Denials.{AreaCells, IsDenial, IsWriteBy}
use Rattle.values_api.specs.Updates.{cleared}
use Rattle.values_api.specs.declared.appending.Added.{Added}
use Rattle.values_api.specs.declared.table.Rectangle.{Rectangle}
use Rattle.values_api.specs.declared.writing.WrittenCells.{WrittenCells}
use Rattle.json_requests.specs.declared.request.Request.{Request}
use Rattle.sheets_json.specs.declared.spreadsheet.Reply.{Reply}
use Rattle.request_kinds.specs.Requests.{IsDoneAsAsked}
use Rattle.request_kinds.specs.Telling.{cells_updated}
use Rattle.kept_cells.specs.Staying.{LeavesProtectedInParts}

pub record ProtectedCellsKeep : Type 0 where
  pub request : (user project : List ℕ) (book : PlaceBook) (asked : Request) (reply : Reply) (changes : List BookChange)
      → IsDoneAsAsked user project book asked (Ok (reply, changes)) → LeavesProtectedInParts user book changes
  pub write : (user : List ℕ) (one_cell : Bool) (area : Area) (block : Block) (sheet : PlaceSheet)
      (before after : PlaceBook) (counts : WrittenCells) → place_sheet_with area.sheet before.sheets ≡ Some sheet
      → (writes : IsWriteBy user one_cell area block sheet before after (Ok counts))
      → LeavesProtectedInParts user before (cells_updated area.sheet (contents_of writes.is.entries))
  pub clear : (user : List ℕ) (book : PlaceBook) (area : Area) → IsDenial user book (AreaCells book.sheets area) None
      → LeavesProtectedInParts user book (cells_updated area.sheet (cleared area))
  pub append : (user : List ℕ) (sheet : ℕ) (added : Added) (start : ℕ × ℕ) (block : Block) (table : Option Rectangle)
      (changes : List BookChange) (before after : PlaceBook) (answer : Option Area × WrittenCells)
      → IsAppended user sheet added start block table changes before after (Ok answer)
      → LeavesProtectedInParts user before changes
  -- nothing that is done, and one thing that is done behind another
  pub nothing : (user : List ℕ) (book : PlaceBook) → LeavesProtectedInParts user book []
  pub both : (user : List ℕ) (book between : PlaceBook) (made others : List BookChange) → AreChanges made book between
      → LeavesProtectedInParts user book made → LeavesProtectedInParts user between others
      → LeavesProtectedInParts user book (made ++ others)
