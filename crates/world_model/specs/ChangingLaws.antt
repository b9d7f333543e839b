-- How changes of a spreadsheet go together: they determine what it becomes, one can follow another, and what is done
-- by places is such a change.
use Rattle.std.specs.Prelude.{◌≡◌, ◌≤◌, ◌++◌, ◌∷◌, [], ℕ, List, IsSomeAnd}
use Rattle.grid_range.specs.Change.{Fits, count_after}
use Rattle.grid_range.specs.declared.axis.Axis.{Axis}
use Rattle.grid_range.specs.declared.change.Change.{Change}
use Rattle.cell_store.specs.Moved.{lines_on}
use Rattle.world_model.specs.Book.{NameBook, PlaceBook}
use Rattle.world_model.specs.BookChange.{BookChange, AreChanges}
use Rattle.world_model.specs.Counts.{grid_places}
use Rattle.world_model.specs.PlaceChange.{BookChanged}
use Rattle.world_model.specs.Sound.{IsLineCount, IsSound, most_places, place_sheet_with}
use Rattle.world_model.specs.StandsFor.{BookStandsFor}
use Rattle.world_model.specs.Updating.{Updates, book_updated}

-- the same changes of a spreadsheet make one spreadsheet of it
pub record ChangesApart : Type 0 where
  pub same : (changes : List BookChange) (before one other : PlaceBook) → IsSound before
      → AreChanges changes before one → AreChanges changes before other → one ≡ other

-- without a change it stays, changes can be made one after another, and what always holds of it holds afterwards
pub record ChangesInTurn : Type 0 where
  pub none : (book : PlaceBook) → AreChanges [] book book
  pub both : (first later : List BookChange) (before between after : PlaceBook) → AreChanges first before between
      → AreChanges later between after → AreChanges (first ++ later) before after
  pub sound : (changes : List BookChange) (before after : PlaceBook) → IsSound before → AreChanges changes before after
      → IsSound after

-- an update of cells, whatever the lines are called, is a change
pub record UpdatesAreChanges : Type 0 where
  pub changes : (before after : PlaceBook) (sheet : ℕ) (updates : Updates) → after.id ≡ before.id
      → ((names : NameBook) → BookStandsFor before names → BookStandsFor after (book_updated sheet updates names))
      → AreChanges (BookChange.CellsUpdated sheet updates ∷ []) before after

-- a change of the lines of a sheet that is there, by places, is a change, if its sheets don't get too many places
pub record LineChangesAreChanges : Type 0 where
  pub changes : (before after : PlaceBook) (id : ℕ) (axis : Axis) (count : ℕ) (change : Change)
      → Fits change count → IsLineCount axis (count_after change count)
      → IsSomeAnd (place_sheet_with id before.sheets)
      (λ sheet. lines_on axis sheet.table.rows sheet.table.cols ≡ count)
      → BookChanged id axis count change before after → grid_places after.sheets ≤ most_places
      → AreChanges (BookChange.LinesChanged id axis change ∷ []) before after
