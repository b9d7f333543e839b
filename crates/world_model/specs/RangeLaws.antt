-- What is done to named ranges and to words of formulas by places stands for what is meant by names, and keeps what
-- always holds of a spreadsheet.
use Rattle.std.specs.Prelude.{ℕ, List, [], ◌∷◌}
use Rattle.named_ranges.specs.declared.range.NamedRange.{NamedRange}
use Rattle.world_model.specs.Book.{PlaceBook}
use Rattle.world_model.specs.BookChange.{AreChanges, BookChange}
use Rattle.world_model.specs.RangeChange.{PlaceWordsRenamed, SomeWordsRenamed, place_range_added, place_range_changed, place_range_deleted}
use Rattle.world_model.specs.Sound.{IsOnSheet, IsSound}

-- a range on a sheet that is there can be put behind the others
pub record RangesAdded : Type 0 where
  pub stays : (book : PlaceBook) (range : NamedRange) → IsSound book → IsOnSheet book.sheets range.area
      → IsSound (place_range_added range book)
  pub changes : (book : PlaceBook) (range : NamedRange) → IsOnSheet book.sheets range.area
      → AreChanges (BookChange.RangeAdded range ∷ []) book (place_range_added range book)

-- and so can it be put in the place of the one with its id
pub record RangesChanged : Type 0 where
  pub stays : (book : PlaceBook) (range : NamedRange) → IsSound book → IsOnSheet book.sheets range.area
      → IsSound (place_range_changed range book)
  pub changes : (book : PlaceBook) (range : NamedRange) → IsOnSheet book.sheets range.area
      → AreChanges (BookChange.RangeChanged range ∷ []) book (place_range_changed range book)

-- a range that is taken out is gone by names, too
pub record RangesDeleted : Type 0 where
  pub stays : (book : PlaceBook) (id : List ℕ) → IsSound book → IsSound (place_range_deleted id book)
  pub changes : (book : PlaceBook) (id : List ℕ)
      → AreChanges (BookChange.RangeDeleted id ∷ []) book (place_range_deleted id book)

-- words are renamed by names, too, and no reference is another one, not even once some sheets' words are renamed
pub record WordsAreRenamed : Type 0 where
  pub stays : (before after : PlaceBook) (old new : List ℕ) → IsSound before → PlaceWordsRenamed old new before after
      → IsSound after
  pub changes : (before after : PlaceBook) (old new : List ℕ) → PlaceWordsRenamed old new before after
      → AreChanges (BookChange.WordsRenamed old new ∷ []) before after
  pub some : (before after : PlaceBook) (old new : List ℕ) → IsSound before → SomeWordsRenamed old new before after
      → IsSound after
