-- What requests that create, change or delete developer metadata make of a spreadsheet (Google Sheets API v4 reference,
-- CreateDeveloperMetadataRequest, UpdateDeveloperMetadataRequest, DeleteDeveloperMetadataRequest). How many items there
-- may be is the caller's to say.
use Rattle.std.specs.Prelude.{◌≡◌, List, [], ◌∷◌, IfSome}
use Rattle.dev_metadata.specs.declared.types.Item.{Item}
use Rattle.dev_metadata.specs.declared.types.ItemPatch.{ItemPatch}
use Rattle.world_model.specs.Book.{PlaceBook}
use Rattle.world_model.specs.BookChange.{AreChanges, BookChange}
use Rattle.world_model.specs.MetadataLaws.{place_metadata_set}
use Rattle.world_model.specs.Sheet.{PlaceSheet}
use Rattle.world_model.specs.Sound.{IsSpotWithin}

-- the location that is given is the spreadsheet, or a sheet or a line that is there
abbrev pub IsItemPatchWithin : List PlaceSheet → ItemPatch → Type 0
IsItemPatchWithin sheets patch = IfSome patch.spot (IsSpotWithin sheets)

-- the spreadsheet has these items of metadata, and all else of it is as it was, by places, and whatever its lines are
-- called
pub record MetadataBecomes (items : List Item) (before after : PlaceBook) : Type 0 where
  pub set : after ≡ place_metadata_set items before
  pub names : AreChanges (BookChange.MetadataSet items ∷ []) before after
