-- The lines of an append can be added where no limit is passed.
use Rattle.std.proofs.Common.{◌≡◌, ◌≤◌, ℕ}
use Rattle.std.specs.Prelude.{None, Some}
use Rattle.world_model.specs.Book.{PlaceBook}
use Rattle.world_model.specs.ChangingLaws.{ChangesInTurn}
use Rattle.world_model.specs.Sheet.{PlaceSheet}
use Rattle.world_model.specs.Sound.{IsSound, place_sheet_with}
use Rattle.values_api.specs.Appends.{changes_of, limit_passed, size_added}
use Rattle.values_api.specs.declared.appending.Added.{Added as Lines}
use Rattle.answered_calls.proofs.LinesAdded.{Added, lines_added_unless}
use Rattle.answered_calls.proofs.LinesMade.{LinesChange}

pub lines_appended : LinesChange → ChangesInTurn → (id : ℕ) (lines : Lines) (book : PlaceBook) → IsSound book
    → (found : PlaceSheet) → place_sheet_with id book.sheets ≡ Some found → lines.row ≤ found.table.rows
    → lines.col ≤ found.table.cols → limit_passed lines found book.sheets ≡ None
    → Added id (size_added lines found) (changes_of id lines) book
lines_appended laws turns id lines book sound found is below below' none =
    lines_added_unless id lines.row lines.rows lines.col lines.cols laws turns book sound found is below below' none
