-- A spreadsheet that gets other protections, by places and by names.
use Rattle.std.proofs.Common.{refl, List, [], ◌∷◌}
use Rattle.std.specs.List.{All}
use Rattle.protection.specs.declared.range.Protection.{Protection}
use Rattle.world_model.specs.Book.{PlaceBook}
use Rattle.world_model.specs.BookChange.{AreChanges, BookChange}
use Rattle.world_model.specs.ProtectionLaws.{place_protections_set}
use Rattle.world_model.specs.Sound.{IsProtectionWithin, IsSound}

pub set_sound : (book : PlaceBook) (protections : List Protection) → IsSound book
    → All (IsProtectionWithin book.sheets) protections → IsSound (place_protections_set protections book)
set_sound book protections sound within = record {
  distinct = sound.distinct;
  titles = sound.titles;
  visible = sound.visible;
  sheets = sound.sheets;
  few_sheets = sound.few_sheets;
  few_places = sound.few_places;
  ranges = sound.ranges;
  protections = within;
  metadata = sound.metadata;
}

pub set_changes : (book : PlaceBook) (protections : List Protection) → All (IsProtectionWithin book.sheets) protections
    → AreChanges (BookChange.ProtectionsSet protections ∷ []) book (place_protections_set protections book)
set_changes book protections within = record {
  id = refl;
  names = λ named is. record {
    stands = record {
      sound = set_sound book protections is.stands.sound within;
      id = is.stands.id;
      title = is.stands.title;
      owner = is.stands.owner;
      sheets = is.stands.sheets;
      ranges = is.stands.ranges;
      protections = refl;
      metadata = is.stands.metadata;
    };
    called = is.called;
  };
}
