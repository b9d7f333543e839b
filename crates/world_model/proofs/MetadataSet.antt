-- A spreadsheet that gets other metadata, by places and by names.
use Rattle.std.proofs.Common.{refl, List, [], ◌∷◌}
use Rattle.std.specs.List.{All}
use Rattle.dev_metadata.specs.declared.types.Item.{Item}
use Rattle.world_model.specs.Book.{PlaceBook}
use Rattle.world_model.specs.BookChange.{AreChanges, BookChange}
use Rattle.world_model.specs.MetadataLaws.{place_metadata_set}
use Rattle.world_model.specs.Sound.{IsItemWithin, IsSound}

pub set_sound : (book : PlaceBook) (items : List Item) → IsSound book → All (IsItemWithin book.sheets) items
    → IsSound (place_metadata_set items book)
set_sound book items sound within = record {
  distinct = sound.distinct;
  titles = sound.titles;
  visible = sound.visible;
  sheets = sound.sheets;
  few_sheets = sound.few_sheets;
  few_places = sound.few_places;
  ranges = sound.ranges;
  protections = sound.protections;
  metadata = within;
}

pub set_changes : (book : PlaceBook) (items : List Item) → All (IsItemWithin book.sheets) items
    → AreChanges (BookChange.MetadataSet items ∷ []) book (place_metadata_set items book)
set_changes book items within = record {
  id = refl;
  names = λ named is. record {
    stands = record {
      sound = set_sound book items is.stands.sound within;
      id = is.stands.id;
      title = is.stands.title;
      owner = is.stands.owner;
      sheets = is.stands.sheets;
      ranges = is.stands.ranges;
      protections = is.stands.protections;
      metadata = refl;
    };
    called = is.called;
  };
}
