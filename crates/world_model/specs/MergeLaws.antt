-- What is done to the merges of a sheet by places stands for what is meant by names, and keeps what always holds of a
-- spreadsheet.
use Rattle.std.specs.Prelude.{ℕ, List, [], ◌∷◌, IsSomeAnd}
use Rattle.grid_range.specs.declared.area.Area.{Area}
use Rattle.world_model.specs.Book.{PlaceBook}
use Rattle.world_model.specs.BookChange.{AreChanges, BookChange}
use Rattle.world_model.specs.SheetChange.{place_merges_set}
use Rattle.world_model.specs.Sound.{AreMergesOf, IsSound, place_sheet_with}

-- a sheet that is there gets merges that it can have
pub record MergesAreSet : Type 0 where
  pub stays : (book : PlaceBook) (id : ℕ) (merges : List Area) → IsSound book
      → IsSomeAnd (place_sheet_with id book.sheets) (λ sheet. AreMergesOf sheet merges)
      → IsSound (place_merges_set id merges book)
  pub changes : (book : PlaceBook) (id : ℕ) (merges : List Area)
      → IsSomeAnd (place_sheet_with id book.sheets) (λ sheet. AreMergesOf sheet merges)
      → AreChanges (BookChange.MergesSet id merges ∷ []) book (place_merges_set id merges book)
