-- createDeveloperMetadata (Google Sheets API v4 reference, CreateDeveloperMetadataRequest): an item of metadata is
-- created and is replied. One that is seen by its project alone is seen under the project of the call. No cell is
-- touched.
use Rattle.std.specs.Prelude.{◌≡◌, ◌+◌, ℕ, List, [], ◌∷◌, length, unwrap_or, Result, Ok}
use Rattle.cell_value.specs.Ids.{IsLeastUnused, IsNewId, is_taken}
use Rattle.dev_metadata.specs.Listed.{has_id, with_one_more}
use Rattle.dev_metadata.specs.VisibilityKind.{visibility_given}
use Rattle.dev_metadata.specs.declared.types.Item.{Item}
use Rattle.world_model.specs.Book.{PlaceBook}
use Rattle.world_model.specs.BookChange.{BookChange}
use Rattle.dimension_ops.specs.Broken.{Broken, first_broken, first_passed}
use Rattle.dimension_ops.specs.declared.rule.Rule.{Rule}
use Rattle.json_requests.specs.declared.request.NewMetadata.{NewMetadata}
use Rattle.sheets_json.specs.declared.spreadsheet.Reply.{Reply}
use Rattle.sheets_json.specs.declared.spreadsheet.Reply.TheVariants as reply
use Rattle.request_kinds.specs.Metadata.{broken_by_location, passes_metadata, spot_of}
use Rattle.request_kinds.specs.Telling.{Tells, UnlessBroken}

-- an id that is given is taken also by an item that the project doesn't see
abbrev pub metadata_created_broken : NewMetadata → PlaceBook → Broken
metadata_created_broken asked book = record (broken_by_location book.sheets asked.location) {
  id_taken = is_taken (has_id book.metadata) asked.metadata_id;
  past_limit = first_passed (passes_metadata (length book.metadata + 1));
}

-- the item that is created, with its id; it has the empty value where none is given
abbrev pub item_made : List ℕ → NewMetadata → ℕ → Item
item_made project asked id = record {
  id = id;
  key = asked.metadata_key;
  value = unwrap_or asked.metadata_value [];
  spot = spot_of asked.location;
  visibility = visibility_given project asked.visibility;
}

-- it stands behind the others
abbrev pub with_item : Item → List Item → List Item
with_item item items = with_one_more item.id item.key item.value item.spot item.visibility items

-- and it is replied
abbrev pub item_put : PlaceBook → Item → Reply × List BookChange
item_put book item = (reply.CreateDeveloperMetadata item, BookChange.MetadataSet (with_item item book.metadata) ∷ [])

-- its id is the one that is given or the least from 1 on that none has
pub record IsMetadataCreated (project : List ℕ) (asked : NewMetadata) (book : PlaceBook)
    (told : Result (Reply × List BookChange) Rule) : Type 0 where
  pub id : ℕ
  pub new : IsNewId (IsLeastUnused (has_id book.metadata)) asked.metadata_id id
  pub told_is : told ≡ Ok (item_put book (item_made project asked id))

abbrev pub IsCreateDeveloperMetadata : List ℕ → NewMetadata → PlaceBook → Tells
IsCreateDeveloperMetadata project asked book =
    UnlessBroken (first_broken (metadata_created_broken asked book)) (IsMetadataCreated project asked book)
