-- updateDeveloperMetadata (Google Sheets API v4 reference, UpdateDeveloperMetadataRequest): the members that the mask
-- takes are set of each item that the project of the call sees and that one of the look-ups finds; these items are
-- replied. No cell is touched.
use Rattle.std.specs.Prelude.{◌≡◌, ◌++◌, ℕ, List, [], ◌∷◌, Result, Ok}
use Rattle.std.specs.Option.{option_map, option_map_or}
use Rattle.dev_metadata.specs.Listed.{AreIdsInOrder, found_by_some}
use Rattle.dev_metadata.specs.Lookup.{has_bad}
use Rattle.dev_metadata.specs.Patch.{with_patched}
use Rattle.dev_metadata.specs.declared.types.Item.{Item}
use Rattle.dev_metadata.specs.declared.types.ItemPatch.{ItemPatch}
use Rattle.world_model.specs.Book.{PlaceBook}
use Rattle.world_model.specs.BookChange.{BookChange}
use Rattle.dimension_ops.specs.Broken.{Broken, first_broken}
use Rattle.dimension_ops.specs.declared.rule.Rule.{Rule}
use Rattle.json_requests.specs.declared.request.Location.{Location}
use Rattle.json_requests.specs.declared.request.MetadataLookup.{MetadataLookup}
use Rattle.json_requests.specs.declared.request.MetadataPatch.{MetadataPatch}
use Rattle.sheets_json.specs.declared.spreadsheet.Reply.{Reply}
use Rattle.sheets_json.specs.declared.spreadsheet.Reply.TheVariants as reply
use Rattle.request_kinds.specs.Metadata.{broken_by_locations, items_seen, locations_of, lookups_of, spot_of}
use Rattle.request_kinds.specs.Telling.{Tells, UnlessBroken}

-- the members that are given
abbrev pub patch_of : MetadataPatch → ItemPatch
patch_of asked = record {
  key = asked.metadata_key;
  value = asked.metadata_value;
  spot = option_map spot_of asked.location;
  visibility = asked.visibility;
}

-- the locations of the look-ups, and the one that is given
abbrev pub locations_named : List MetadataLookup → MetadataPatch → List Location
locations_named asked patch = locations_of asked ++ option_map_or (λ given. given ∷ []) patch.location []

abbrev pub metadata_updated_broken : List MetadataLookup → MetadataPatch → PlaceBook → Broken
metadata_updated_broken asked patch book =
    record (broken_by_locations book.sheets (locations_named asked patch)) { bad_lookup = has_bad (lookups_of asked) }

abbrev pub metadata_updated : List ℕ → List MetadataLookup → MetadataPatch → PlaceBook → List Item
metadata_updated project asked patch book = with_patched (lookups_of asked) project (patch_of patch) book.metadata

-- they are replied as they are then, in order of id
pub record IsMetadataUpdated (project : List ℕ) (asked : List MetadataLookup) (patch : MetadataPatch) (book : PlaceBook)
    (told : Result (Reply × List BookChange) Rule) : Type 0 where
  pub ids : List ℕ
  pub in_order : AreIdsInOrder (found_by_some (lookups_of asked) project book.metadata) ids
  pub told_is : told ≡ Ok (
    reply.UpdateDeveloperMetadata (items_seen project ids (metadata_updated project asked patch book)),
    BookChange.MetadataSet (metadata_updated project asked patch book) ∷ [],
  )

abbrev pub IsUpdateDeveloperMetadata : List ℕ → List MetadataLookup → MetadataPatch → PlaceBook → Tells
IsUpdateDeveloperMetadata project asked patch book =
    UnlessBroken (first_broken (metadata_updated_broken asked patch book)) (IsMetadataUpdated project asked patch book)
