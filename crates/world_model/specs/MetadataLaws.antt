-- What is done to the developer metadata of a spreadsheet by places (createDeveloperMetadata, updateDeveloperMetadata
-- and deleteDeveloperMetadata of the Google Sheets API v4) stands for what is meant by names, and keeps what always
-- holds of a spreadsheet. A line where an item lies is followed as a range of one line is.
use Rattle.std.specs.Prelude.{◌≡◌, ℕ, List, [], ◌∷◌, IfSome}
use Rattle.std.specs.List.{All}
use Rattle.std.specs.Option.{option_map}
use Rattle.dev_metadata.specs.declared.types.Item.{Item}
use Rattle.grid_range.specs.Following.{follow}
use Rattle.grid_range.specs.NameBand.{NameBand}
use Rattle.grid_range.specs.Order.{IsOrder}
use Rattle.world_model.specs.Book.{PlaceBook}
use Rattle.world_model.specs.BookChange.{AreChanges, BookChange}
use Rattle.world_model.specs.LineChange.{LineChange, name_spot_followed}
use Rattle.world_model.specs.Metadata.{NameSpot}
use Rattle.world_model.specs.Sound.{IsItemWithin, IsSound}

-- the items are these and no others
abbrev pub place_metadata_set : List Item → PlaceBook → PlaceBook
place_metadata_set items book = record book { metadata = items }

-- a spreadsheet gets items that lie on it, on its sheets or on their lines
pub record MetadataIsSet : Type 0 where
  pub stays : (book : PlaceBook) (items : List Item) → IsSound book → All (IsItemWithin book.sheets) items
      → IsSound (place_metadata_set items book)
  pub changes : (book : PlaceBook) (items : List Item) → All (IsItemWithin book.sheets) items
      → AreChanges (BookChange.MetadataSet items ∷ []) book (place_metadata_set items book)

-- the band that has the line alone
abbrev pub line_alone : ℕ → NameBand
line_alone line = NameBand.Closed (line ∷ [])

-- a location on a line of the changed axis stays, or is lost, as the band does that has the line alone; and where this
-- band stays, it still has the line alone
pub record LinesFollowAlone : Type 0 where
  pub follows : (to : LineChange) (line : ℕ) → IsOrder to.order
      → name_spot_followed to (NameSpot.Line to.sheet to.axis line)
      ≡ option_map (λ band. NameSpot.Line to.sheet to.axis line) (follow to.order to.changed (line_alone line))
  pub alone : (order changed : List ℕ) (line : ℕ) → IsOrder order
      → IfSome (follow order changed (line_alone line)) (λ band. band ≡ line_alone line)
