-- A write on a range leaves the cells that it doesn't touch.
use Rattle.std.proofs.Common.{◌≡◌, ℕ, refl, subst, List, []}
use Rattle.std.specs.Prelude.{Some, Ok}
use Rattle.cell_value.specs.declared.cell.Block.{Block}
use Rattle.world_model.specs.Book.{PlaceBook}
use Rattle.world_model.specs.BookChange.{BookChange}
use Rattle.world_model.specs.Sheet.{PlaceSheet}
use Rattle.world_model.specs.Sound.{place_sheet_with}
use Rattle.values_api.specs.Blocks.{contents_of}
use Rattle.values_api.specs.Denials.{WriteCells}
use Rattle.values_api.specs.Ranges.{FoundArea}
use Rattle.request_kinds.specs.Telling.{cells_updated}
use Rattle.request_kinds.specs.TellingLaws.{match_changes}
use Rattle.kept_cells.specs.Staying.{LeavesOthers}
use Rattle.kept_cells.specs.Untouched.{UntouchedCellsKeep}
use Rattle.batch_engine.specs.Values.{IsUpdate, Wrote, update_of}

pub update_keeps : UntouchedCellsKeep → (user : List ℕ) (book : PlaceBook) (block : Block) (found : FoundArea)
    (sheet : PlaceSheet) (wrote : Wrote) (changes : List BookChange)
    → place_sheet_with found.0.sheet book.sheets ≡ Some sheet
    → IsUpdate user book block found sheet (Ok (wrote, changes))
    → LeavesOthers [] (WriteCells book.sheets found.1 found.0 block) book changes
update_keeps keep user book block found sheet wrote changes is update =
    let later = cells_updated found.0.sheet (contents_of update.writes.is.entries) in
    subst (LeavesOthers [] (WriteCells book.sheets found.1 found.0 block) book)
    (match_changes update.wrote (wrote, changes) (λ counts. ((update_of book sheet counts, counts), later)) later
    (λ counts. refl) update.tells)
    (keep.write found.1 found.0 block sheet book update.after update.writes.done update.writes.is is)
