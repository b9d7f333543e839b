-- Cells that a call on a range doesn't touch keep what was entered into them, whoever's it is: what it makes leaves
-- each other cell than those that are written, emptied or cleared.
use Rattle.std.specs.Prelude.{◌≡◌, ℕ, List, [], Some, Ok}
use Rattle.cell_value.specs.declared.cell.Block.{Block}
use Rattle.world_model.specs.Book.{PlaceBook}
use Rattle.world_model.specs.BookChange.{BookChange}
use Rattle.world_model.specs.Sheet.{PlaceSheet}
use Rattle.world_model.specs.Sound.{place_sheet_with}
use Rattle.values_api.specs.Denials.{AreaCells, WriteCells}
use Rattle.values_api.specs.Ranges.{FoundArea}
use Rattle.kept_cells.specs.Staying.{LeavesOthers}
use Rattle.batch_engine.specs.Values.{IsUpdate, Wrote, clear}

pub record RangesKeepOthers : Type 0 where
  pub write : (user : List ℕ) (book : PlaceBook) (block : Block) (found : FoundArea) (sheet : PlaceSheet)
      (wrote : Wrote)
      (changes : List BookChange) → place_sheet_with found.0.sheet book.sheets ≡ Some sheet
      → IsUpdate user book block found sheet (Ok (wrote, changes))
      → LeavesOthers [] (WriteCells book.sheets found.1 found.0 block) book changes
  pub clear : (book : PlaceBook) (found : FoundArea) (sheet : PlaceSheet)
      → LeavesOthers [] (AreaCells book.sheets found.0) book (clear found sheet).1
