-- What is told of a request that creates, changes or deletes developer metadata, from what is made of the spreadsheet.
use Rattle.std.proofs.Common.{◌≡◌, ◌+◌, ℕ, Bool, true, false, cond, ◌||◌, refl, sym, ap, subst, ◌∙◌}
use Rattle.std.proofs.Common.{List, [], ◌∷◌, ◌++◌, All, length}
use Rattle.std.specs.Prelude.{◌↔◌, ◌≢◌, Option, None, Some, Result, Ok, Err, IfSome, nat_lt, unwrap_or}
use Rattle.std.specs.Option.{option_map, option_map_or}
use Rattle.std.proofs.lemmas.Bool.{false_from_ne_true}
use Rattle.std.proofs.lemmas.List.Elements.{All-pop}
use Rattle.cell_value.specs.Ids.{IsLeastUnused, IsNewId, is_taken}
use Rattle.dev_metadata.specs.Listed.{AreIdsInOrder, AreInOrderOfId, HaveOwnIds, found, found_by_some, has_id, ids_of}
use Rattle.dev_metadata.specs.Listed.{not_found, with_one_more}
use Rattle.dev_metadata.specs.Lookup.{has_bad, is_bad}
use Rattle.dev_metadata.specs.VisibilityKind.{visibility_given}
use Rattle.dev_metadata.specs.declared.types.Item.{Item}
use Rattle.dev_metadata.specs.declared.types.MetaFault.{MetaFault}
use Rattle.dev_metadata.specs.declared.types.MetaFault.TheVariants as fault
use Rattle.dev_metadata.specs.declared.types.Visibility.{Visibility}
use Rattle.dev_metadata.specs.declared.types.Spot.{Spot}
use Rattle.world_model.specs.Book.{PlaceBook}
use Rattle.world_model.specs.BookChange.{BookChange}
use Rattle.world_model.specs.Sheet.{PlaceSheet}
use Rattle.world_model.specs.Sound.{IsSpotWithin}
use Rattle.dimension_ops.specs.Broken.{first_broken, first_passed}
use Rattle.dimension_ops.specs.MetadataRequests.{IsItemPatchWithin, MetadataBecomes}
use Rattle.dimension_ops.specs.Rules.{IsUnlessNoMemory}
use Rattle.dimension_ops.specs.declared.rule.Limit.{Limit}
use Rattle.dimension_ops.specs.declared.rule.Limit.TheVariants as limit
use Rattle.dimension_ops.specs.declared.rule.Rule.{Rule}
use Rattle.dimension_ops.specs.declared.rule.Rule.TheVariants as rule
use Rattle.json_requests.specs.declared.request.Location.{Location}
use Rattle.json_requests.specs.declared.request.MetadataLookup.{MetadataLookup}
use Rattle.json_requests.specs.declared.request.MetadataPatch.{MetadataPatch}
use Rattle.json_requests.specs.declared.request.NewMetadata.{NewMetadata}
use Rattle.sheets_json.specs.declared.spreadsheet.Reply.{Reply}
use Rattle.sheets_json.specs.declared.spreadsheet.Reply.TheVariants as reply
use Rattle.request_kinds.specs.CreateDeveloperMetadata.{IsCreateDeveloperMetadata, IsMetadataCreated, item_made, metadata_created_broken, with_item}
use Rattle.request_kinds.specs.DeleteDeveloperMetadata.{IsDeleteDeveloperMetadata, IsMetadataDeleted}
use Rattle.request_kinds.specs.Telling.{IsDoneTo, Tells, UnlessBroken}
use Rattle.request_kinds.specs.Metadata.{broken_by_locations, broken_by_lookups, items_seen, locations_of, lookup_of}
use Rattle.request_kinds.specs.Metadata.{lookups_of, most_metadata, passes_metadata, refusal_of, spot_of}
use Rattle.request_kinds.specs.UpdateDeveloperMetadata.{IsMetadataUpdated, IsUpdateDeveloperMetadata, locations_named}
use Rattle.request_kinds.specs.UpdateDeveloperMetadata.{metadata_updated, metadata_updated_broken, patch_of}
use Rattle.request_kinds.proofs.MetadataJudged.{created_behind, created_first, location_first, lookup_behind}
use Rattle.request_kinds.proofs.MetadataSeen.{ids_in_order, sorted_seen}

-- ---- what is told where a rule is broken

broken_is_told : (Is : Tells) (first : Option Rule) (broken : Rule) → first ≡ Some broken
    → UnlessBroken first Is (Err broken)
broken_is_told Is first broken is = subst (λ first. UnlessBroken first Is (Err broken)) (sym is) refl

done_is_told : (Is : Tells) (first : Option Rule) (told : Result (Reply × List BookChange) Rule) → first ≡ None
    → Is told → UnlessBroken first Is told
done_is_told Is first told none is = subst (λ first. UnlessBroken first Is told) (sym none) is

as_found : {A : Type 0} → A → Result A MetaFault
as_found one = Ok one

not_both : {A : Type 0} (told : Result A MetaFault) (one : A) (other : MetaFault) → told ≡ Ok one
    → told ≡ Err other → ⊥
not_both told one other is fails = cc

-- a fault that is told only where that is so isn't told where something is
pub not_so : {A : Type 0} (told : Result A MetaFault) (one : A) (other : MetaFault) (so : Bool)
    → (told ≡ Err other) ↔ (so ≡ true) → told ≡ Ok one → so ≡ false
not_so told one other so when is = false_from_ne_true so (λ holds. not_both told one other is (when.1 holds))

-- the fault of a look-up that is bad, or want of memory
pub lookup_refused : {A B : Type 0} (Is : Result B Rule → Type 0) (told : Result A MetaFault) (of : MetaFault)
    (bad : Bool) → told ≡ Err of → (told ≡ Err fault.BadLookup) ↔ (bad ≡ true)
    → (told ≢ Err fault.NoId) × (told ≢ Err fault.IdTaken) → (bad ≡ true → Is (Err rule.BadLookup))
    → IsUnlessNoMemory Is (Err (refusal_of of))
lookup_refused Is told fault.NoId bad is when no_other refused = absurd (no_other.0 is)
lookup_refused Is told fault.IdTaken bad is when no_other refused = absurd (no_other.1 is)
lookup_refused Is told fault.BadLookup bad is when no_other refused = refused (when.0 is)
lookup_refused Is told fault.NoMemory bad is when no_other refused = tt

-- ---- createDeveloperMetadata

-- which rule is broken first
module _ (asked : NewMetadata) (before : PlaceBook) where
  abbrev first_created : Option Rule
  first_created = first_broken (metadata_created_broken asked before)

  abbrev judged_location : Option Rule
  judged_location = first_broken (broken_by_locations before.sheets (asked.location ∷ []))

  abbrev is_id_taken : Bool
  is_id_taken = is_taken (has_id before.metadata) asked.metadata_id

  abbrev is_past : Bool
  is_past = nat_lt most_metadata (length before.metadata + 1)

  abbrev passed : Option Limit
  passed = first_passed (passes_metadata (length before.metadata + 1))

  abbrev past_rule : Bool → Option Rule
  past_rule past = option_map_or (λ limit. Some (rule.PastLimit limit)) (cond past (Some limit.Metadata) None) None

  pub location_broken : (broken : Rule) → judged_location ≡ Some broken → first_created ≡ Some broken
  location_broken broken is = created_first before.sheets is_id_taken passed asked.location broken is

  module _ (none : judged_location ≡ None) where
    first_is : first_created ≡ cond is_id_taken (Some rule.IdTaken) (past_rule is_past)
    first_is = created_behind before.sheets is_id_taken passed asked.location none

    pub taken_first : is_id_taken ≡ true → first_created ≡ Some rule.IdTaken
    taken_first taken = first_is ∙ ap (λ taken. cond taken (Some rule.IdTaken) (past_rule is_past)) taken

    limit_behind : is_id_taken ≡ false → first_created ≡ past_rule is_past
    limit_behind free = first_is ∙ ap (λ taken. cond taken (Some rule.IdTaken) (past_rule is_past)) free

    pub past_limit : is_id_taken ≡ false → is_past ≡ true → first_created ≡ Some (rule.PastLimit limit.Metadata)
    past_limit free past = limit_behind free ∙ ap (λ past. past_rule past) past

    pub none_created : is_id_taken ≡ false → is_past ≡ false → first_created ≡ None
    none_created free few = limit_behind free ∙ ap (λ past. past_rule past) few

-- what is told
module _ (project : List ℕ) (asked : NewMetadata) (before after : PlaceBook) where
  abbrev Created : Tells
  Created = IsCreateDeveloperMetadata project asked before

  abbrev Done : Tells
  Done = IsMetadataCreated project asked before

  pub creation_refused : (broken : Rule) → first_created asked before ≡ Some broken → Created (Err broken)
  creation_refused broken is = broken_is_told Done (first_created asked before) broken is

  module _ (id : ℕ) where
    abbrev made : List Item
    made = with_item (item_made project asked id) before.metadata

    -- an item of what is asked is put in
    pub put_in : (key value : List ℕ) (place : Spot) (visibility : Visibility) → key ≡ asked.metadata_key
        → value ≡ unwrap_or asked.metadata_value [] → place ≡ spot_of asked.location
        → visibility ≡ visibility_given project asked.visibility
        → MetadataBecomes (with_one_more id key value place visibility before.metadata) before after
        → MetadataBecomes made before after
    put_in key value place visibility key_is value_is place_is visibility_is becomes =
        let same : with_one_more id key value place visibility before.metadata ≡ made =
        rw (key_is, value_is, place_is, visibility_is) refl in
        subst (λ items. MetadataBecomes items before after) same becomes

    abbrev told_created : Item → Result (Reply × List BookChange) Rule
    told_created item = Ok (reply.CreateDeveloperMetadata item, BookChange.MetadataSet made ∷ [])

    pub item_created : first_created asked before ≡ None
        → IsNewId (IsLeastUnused (has_id before.metadata)) asked.metadata_id id → MetadataBecomes made before after
        → (item : Item) → item ≡ item_made project asked id
        → IsDoneTo Created before after (Ok (reply.CreateDeveloperMetadata item))
    item_created none new becomes item is = (
      BookChange.MetadataSet made ∷ [],
      done_is_told Done (first_created asked before) (told_created item) none
          (record { id = id; new = new; told_is = ap (λ item. told_created item) is }),
      becomes.names,
    )

-- ---- updateDeveloperMetadata

-- the location that is given is within the spreadsheet, since it stands among those that are judged
given_within : (sheets : List PlaceSheet) (others : List Location) (given : Option Location)
    → All (λ one. IsSpotWithin sheets (spot_of one)) (others ++ option_map_or (λ given. given ∷ []) given [])
    → IfSome (option_map spot_of given) (IsSpotWithin sheets)
given_within sheets others None within = tt
given_within sheets others (Some given) within =
    (All-pop (λ one. IsSpotWithin sheets (spot_of one)) (others ++ given ∷ []) others (Some given) refl within).1

pub patch_within : (sheets : List PlaceSheet) (asked : List MetadataLookup) (patch : MetadataPatch)
    → All (λ one. IsSpotWithin sheets (spot_of one)) (locations_named asked patch)
    → IsItemPatchWithin sheets (patch_of patch)
patch_within sheets asked patch within = given_within sheets (locations_of asked) patch.location within

module _ (project : List ℕ) (asked : List MetadataLookup) (patch : MetadataPatch) (before : PlaceBook) where
  abbrev Updated : Tells
  Updated = IsUpdateDeveloperMetadata project asked patch before

  abbrev judged_named : Option Rule
  judged_named = first_broken (broken_by_locations before.sheets (locations_named asked patch))

  abbrev first_updated : Option Rule
  first_updated = first_broken (metadata_updated_broken asked patch before)

  pub named_broken : (broken : Rule) → judged_named ≡ Some broken → Updated (Err broken)
  named_broken broken is =
      broken_is_told (IsMetadataUpdated project asked patch before) first_updated broken
      (location_first before.sheets (locations_named asked patch) (has_bad (lookups_of asked)) broken is)

  module _ (none : judged_named ≡ None) where
    bad_is : (bad : Bool) → has_bad (lookups_of asked) ≡ bad → first_updated ≡ cond bad (Some rule.BadLookup) None
    bad_is bad is =
        lookup_behind before.sheets (locations_named asked patch) (has_bad (lookups_of asked)) none
        ∙ ap (λ bad. cond bad (Some rule.BadLookup) None) is

    pub bad_updated : has_bad (lookups_of asked) ≡ true → Updated (Err rule.BadLookup)
    bad_updated bad =
        broken_is_told (IsMetadataUpdated project asked patch before) first_updated rule.BadLookup (bad_is true bad)

    pub items_updated : (after : PlaceBook) (ids : List ℕ) (items : List Item) → has_bad (lookups_of asked) ≡ false
        → AreIdsInOrder (found_by_some (lookups_of asked) project before.metadata) ids
        → MetadataBecomes (metadata_updated project asked patch before) before after
        → items ≡ items_seen project ids after.metadata
        → IsDoneTo Updated before after (Ok (reply.UpdateDeveloperMetadata items))
    items_updated after ids items good in_order becomes seen = (
      BookChange.MetadataSet (metadata_updated project asked patch before) ∷ [],
      done_is_told (IsMetadataUpdated project asked patch before) first_updated
          (Ok (
            reply.UpdateDeveloperMetadata items,
            BookChange.MetadataSet (metadata_updated project asked patch before) ∷ [],
          ))
          (bad_is false good)
          (record {
            ids = ids;
            in_order = in_order;
            told_is = ap (λ items. Ok (
              reply.UpdateDeveloperMetadata items,
              BookChange.MetadataSet (metadata_updated project asked patch before) ∷ [],
            ))
                (seen ∙ ap (λ (book : PlaceBook). items_seen project ids book.metadata) becomes.set);
          }),
      becomes.names,
    )

-- ---- deleteDeveloperMetadata

or_false : (b : Bool) → (b || false) ≡ b
or_false true = refl
or_false false = refl

module _ (project : List ℕ) (asked : MetadataLookup) (before : PlaceBook) where
  abbrev Deleted : Tells
  Deleted = IsDeleteDeveloperMetadata project asked before

  abbrev judged_place : Option Rule
  judged_place = first_broken (broken_by_locations before.sheets (locations_of (asked ∷ [])))

  abbrev first_deleted : Option Rule
  first_deleted = first_broken (broken_by_lookups before.sheets (asked ∷ []))

  pub place_broken : (broken : Rule) → judged_place ≡ Some broken → Deleted (Err broken)
  place_broken broken is =
      broken_is_told (IsMetadataDeleted project asked before) first_deleted broken
      (location_first before.sheets (locations_of (asked ∷ [])) (has_bad (lookups_of (asked ∷ []))) broken is)

  module _ (none : judged_place ≡ None) where
    bad_place_is : (bad : Bool) → is_bad (lookup_of asked) ≡ bad → first_deleted ≡ cond bad (Some rule.BadLookup) None
    bad_place_is bad is =
        lookup_behind before.sheets (locations_of (asked ∷ [])) (has_bad (lookups_of (asked ∷ []))) none
        ∙ ap (λ bad. cond bad (Some rule.BadLookup) None) (or_false (is_bad (lookup_of asked)) ∙ is)

    pub bad_deleted : is_bad (lookup_of asked) ≡ true → Deleted (Err rule.BadLookup)
    bad_deleted bad =
        broken_is_told (IsMetadataDeleted project asked before) first_deleted rule.BadLookup (bad_place_is true bad)

    pub items_deleted : (after : PlaceBook) (items : List Item) → is_bad (lookup_of asked) ≡ false
        → HaveOwnIds before.metadata → AreInOrderOfId (found (lookup_of asked) project before.metadata) items
        → MetadataBecomes (not_found (lookup_of asked) project before.metadata) before after
        → IsDoneTo Deleted before after (Ok (reply.DeleteDeveloperMetadata items))
    items_deleted after items good own in_order becomes = (
      BookChange.MetadataSet (not_found (lookup_of asked) project before.metadata) ∷ [],
      done_is_told (IsMetadataDeleted project asked before) first_deleted
          (Ok (
            reply.DeleteDeveloperMetadata items,
            BookChange.MetadataSet (not_found (lookup_of asked) project before.metadata) ∷ [],
          ))
          (bad_place_is false good)
          (record {
            ids = ids_of items;
            in_order = ids_in_order project (lookup_of asked) before.metadata items in_order;
            told_is = ap (λ items. Ok (
              reply.DeleteDeveloperMetadata items,
              BookChange.MetadataSet (not_found (lookup_of asked) project before.metadata) ∷ [],
            ))
                (sorted_seen project (lookup_of asked) before.metadata items in_order own);
          }),
      becomes.names,
    )
