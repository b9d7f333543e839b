-- createDeveloperMetadata, updateDeveloperMetadata and deleteDeveloperMetadata: where no rule is broken the items that
-- are set lie on the spreadsheet, on its sheets or on their lines.
use Rattle.std.proofs.Common.{◌≡◌, ℕ, Bool, false, refl, sym, ◌∙◌, List, [], ◌∷◌, ◌++◌}
use Rattle.std.specs.Prelude.{◌==◌, Option, None, Some, Ok, IfSome}
use Rattle.std.specs.List.{list_any}
use Rattle.std.specs.Option.{option_map, option_map_or}
use Rattle.std.proofs.lemmas.Bool.{eqb-true, or_parts}
use Rattle.std.proofs.lemmas.List.Folds.{list_any-append}
use Rattle.cell_value.specs.Ids.{IsLeastUnused, IsNewId}
use Rattle.dev_metadata.specs.Listed.{found, found_by_some, has_id, not_found}
use Rattle.dev_metadata.specs.Order.{HaveOrder}
use Rattle.dev_metadata.specs.declared.types.Item.{Item}
use Rattle.world_model.specs.Book.{PlaceBook}
use Rattle.world_model.specs.BookChange.{BookChange}
use Rattle.world_model.specs.MetadataLaws.{MetadataIsSet, place_metadata_set}
use Rattle.world_model.specs.Sheet.{PlaceSheet}
use Rattle.world_model.specs.Sound.{IsSound, IsSpotWithin}
use Rattle.dimension_ops.specs.Broken.{first_broken}
use Rattle.dimension_ops.specs.JudgingLaws.{breaks_none}
use Rattle.dimension_ops.specs.MetadataLaws.{fewer_within, more_within, patched_within}
use Rattle.json_requests.specs.declared.request.Location.{Location}
use Rattle.json_requests.specs.declared.request.MetadataLookup.{MetadataLookup}
use Rattle.json_requests.specs.declared.request.MetadataPatch.{MetadataPatch}
use Rattle.json_requests.specs.declared.request.NewMetadata.{NewMetadata}
use Rattle.sheets_json.specs.declared.spreadsheet.Reply.TheVariants as reply
use Rattle.request_kinds.specs.CreateDeveloperMetadata.{IsCreateDeveloperMetadata, IsMetadataCreated, item_made, item_put, metadata_created_broken, with_item}
use Rattle.request_kinds.specs.DeleteDeveloperMetadata.{IsDeleteDeveloperMetadata, IsMetadataDeleted}
use Rattle.request_kinds.specs.LocationsWithin.{spot_within}
use Rattle.request_kinds.specs.Metadata.{broken_by_location, broken_by_locations, broken_by_lookups, items_seen, locations_of, lookup_of, lookups_of, spot_of}
use Rattle.request_kinds.specs.UpdateDeveloperMetadata.{IsMetadataUpdated, IsUpdateDeveloperMetadata, metadata_updated, metadata_updated_broken, patch_of}
use Rattle.answered_calls.proofs.Telling.{IsMadeSome, unless_broken_made}
use Rattle.answered_calls.proofs.UnusedNumbers.{HasLeast, some_unused}

-- ---- locations

-- the one that is given, behind those of look-ups
last_fails : {A : Type 0} (test : A → Bool) (others : List A) (one : A) → list_any test (others ++ one ∷ []) ≡ false
    → test one ≡ false
last_fails test others one none =
    (or_parts (test one) false (or_parts (list_any test others) (list_any test (one ∷ []))
    (sym (list_any-append test others (one ∷ [])) ∙ none)).1).0

given_within : (sheets : List PlaceSheet) (others : List Location) (given : Option Location)
    → let broken = broken_by_locations sheets (others ++ option_map_or (λ given. given ∷ []) given []) in
    broken.no_sheet ≡ false → broken.bad_range ≡ false → broken.outside_grid ≡ false
    → IfSome (option_map spot_of given) (IsSpotWithin sheets)
given_within sheets others None there one within = tt
given_within sheets others (Some given) there one within =
    spot_within sheets given (last_fails (λ one. (broken_by_location sheets one).no_sheet) others given there)
    (last_fails (λ one. (broken_by_location sheets one).bad_range) others given one)
    (last_fails (λ one. (broken_by_location sheets one).outside_grid) others given within)

-- ---- an id that none has

unused_id : (items : List Item) → HasLeast (has_id items)
unused_id items = some_unused (λ (item : Item) id. id == item.id) items
    (λ item m n from from' to to' is is'. eqb-true m item.id is ∙ sym (eqb-true n item.id is'))

id_asked : (items : List Item) (given : Option ℕ) → (id : ℕ) × IsNewId (IsLeastUnused (has_id items)) given id
id_asked items None = unused_id items
id_asked items (Some id) = (id, refl)

-- ---- the requests

module _ (set : MetadataIsSet) (order : HaveOrder) (project : List ℕ) (book : PlaceBook) (sound : IsSound book) where
  pub create_metadata_made : (asked : NewMetadata) → IsMadeSome book (IsCreateDeveloperMetadata project asked book)
  create_metadata_made asked =
      unless_broken_made book (first_broken (metadata_created_broken asked book)) (IsMetadataCreated project asked book)
      (λ unbroken none.
      let kept = breaks_none (metadata_created_broken asked book) unbroken in
      let (id, new) = id_asked book.metadata asked.metadata_id in
      let item = item_made project asked id in
      let now = with_item item book.metadata in
      none (Ok (item_put book item)) (record { id = id; new = new; told_is = refl }) (
        place_metadata_set now book,
        set.changes book now (more_within book.sheets book.metadata sound.metadata id item.key item.value item.spot
            item.visibility (spot_within book.sheets asked.location kept.no_sheet kept.bad_range kept.outside_grid)),
      ))

  pub update_metadata_made : (asked : List MetadataLookup) (patch : MetadataPatch)
      → IsMadeSome book (IsUpdateDeveloperMetadata project asked patch book)
  update_metadata_made asked patch =
      unless_broken_made book (first_broken (metadata_updated_broken asked patch book))
      (IsMetadataUpdated project asked patch book) (λ unbroken none.
      let kept = breaks_none (metadata_updated_broken asked patch book) unbroken in
      let (ids, in_order) = order (found_by_some (lookups_of asked) project book.metadata) in
      let now = metadata_updated project asked patch book in
      none (Ok (reply.UpdateDeveloperMetadata (items_seen project ids now), BookChange.MetadataSet now ∷ []))
      (record { ids = ids; in_order = in_order; told_is = refl }) (
        place_metadata_set now book,
        set.changes book now (patched_within book.sheets book.metadata sound.metadata (lookups_of asked) project
            (patch_of patch) (given_within book.sheets (locations_of asked) patch.location kept.no_sheet kept.bad_range
            kept.outside_grid)),
      ))

  pub delete_metadata_made : (asked : MetadataLookup) → IsMadeSome book (IsDeleteDeveloperMetadata project asked book)
  delete_metadata_made asked =
      unless_broken_made book (first_broken (broken_by_lookups book.sheets (asked ∷ [])))
      (IsMetadataDeleted project asked book) (λ unbroken none.
      let (ids, in_order) = order (found (lookup_of asked) project book.metadata) in
      let now = not_found (lookup_of asked) project book.metadata in
      none (Ok (reply.DeleteDeveloperMetadata (items_seen project ids book.metadata), BookChange.MetadataSet now ∷ []))
      (record { ids = ids; in_order = in_order; told_is = refl }) (
        place_metadata_set now book,
        set.changes book now
            (fewer_within book.sheets book.metadata sound.metadata (lookup_of asked) project),
      ))
