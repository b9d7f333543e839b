-- Laws of reads, writes, appends and updates.
use Rattle.std.specs.Prelude.{◌≡◌, ℕ, Bool, List, IsSomeAnd, Option, Result, Some}
use Rattle.cell_value.specs.declared.cell.Block.{Block}
use Rattle.cell_value.specs.declared.cell.Cell.{Cell}
use Rattle.cell_value.specs.declared.cell.Render.{Render}
use Rattle.grid_range.specs.declared.area.Area.{Area}
use Rattle.world_model.specs.Book.{PlaceBook}
use Rattle.world_model.specs.Sheet.{PlaceSheet}
use Rattle.world_model.specs.Sound.{IsSound, place_sheet_with}
use Rattle.world_model.specs.Updating.{SheetUpdated, Updates}
use Rattle.dimension_ops.specs.declared.rule.Rule.{Rule}
use Rattle.values_api.specs.Appends.{IsAppend}
use Rattle.values_api.specs.Blocks.{IsWrite, contents_of}
use Rattle.values_api.specs.Shown.{IsAreaShown}
use Rattle.values_api.specs.Updates.{AreUpdated}
use Rattle.values_api.specs.declared.writing.WrittenCells.{WrittenCells}

-- a read shows one thing of an area of a sound spreadsheet
pub record ReadsOnce : Type 0 where
  pub once : (book : PlaceBook) (area : Area) (columns_first : Bool) (render : Render) (sheet : PlaceSheet)
      (lines lines' : List (List Cell)) → IsSound book → IsAreaShown book area columns_first render sheet lines
      → IsAreaShown book area columns_first render sheet lines' → lines ≡ lines'

-- a write makes one thing of the cells of a sound spreadsheet, and has one answer
pub record WritesOnce : Type 0 where
  pub once : (one_cell : Bool) (area : Area) (block : Block) (sheet : PlaceSheet) (before after after' : PlaceBook)
      (answer answer' : Result WrittenCells Rule) → IsSound before
      → (one : IsWrite one_cell area block sheet before after answer)
      → (other : IsWrite one_cell area block sheet before after' answer')
      → (contents_of one.entries ≡ contents_of other.entries) × (answer ≡ answer')

-- an append changes a sound spreadsheet in one way, and has one answer
pub record AppendsOnce : Type 0 where
  pub once : (user : List ℕ) (insert : Bool) (area : Area) (block : Block) (sheet : PlaceSheet)
      (before after after' : PlaceBook)
      (answer answer' : Result (Option Area × WrittenCells) Rule) → IsSound before
      → (one : IsAppend user insert area block sheet before after answer)
      → (other : IsAppend user insert area block sheet before after' answer')
      → (one.changes ≡ other.changes) × (answer ≡ answer')

-- an update makes one spreadsheet of a sound one, and that is sound; each sheet stays where it is, with its size
pub record UpdatesOnce : Type 0 where
  pub once : (sheet : ℕ) (updates : Updates) (before after after' : PlaceBook) → IsSound before
      → AreUpdated sheet updates before after → AreUpdated sheet updates before after' → after ≡ after'
  pub sound : (sheet : ℕ) (updates : Updates) (before after : PlaceBook) → IsSound before
      → AreUpdated sheet updates before after → IsSound after
  pub kept : (sheet : ℕ) (updates : Updates) (before after : PlaceBook) (id : ℕ) (own : PlaceSheet)
      → AreUpdated sheet updates before after → place_sheet_with id before.sheets ≡ Some own
      → IsSomeAnd (place_sheet_with id after.sheets) (SheetUpdated sheet updates own)
