-- What requests and calls on developer metadata have in common (Google Sheets API v4 reference,
-- DeveloperMetadataLocation and DeveloperMetadataLookup). How many items there can be is this project's profile.
use Rattle.std.specs.Prelude.{◌≡◌, ℕ, Bool, true, false, not, ◌+◌, ◌==◌, nat_lt, List, [], ◌∷◌, map, None, Some, Result}
use Rattle.std.specs.Prelude.{IfErr, IfOk}
use Rattle.std.specs.List.{filter_map, list_any}
use Rattle.std.specs.Option.{is_none, is_some, option_map, option_map_or}
use Rattle.dev_metadata.specs.Listed.{AreIdsInOrder, found, seen_with_id}
use Rattle.dev_metadata.specs.Lookup.{has_bad}
use Rattle.dev_metadata.specs.declared.types.Item.{Item}
use Rattle.dev_metadata.specs.declared.types.Lookup.{Lookup}
use Rattle.dev_metadata.specs.declared.types.MetaFault.{MetaFault}
use Rattle.dev_metadata.specs.declared.types.MetaFault.TheVariants as fault
use Rattle.dev_metadata.specs.declared.types.Spot.{Spot}
use Rattle.dev_metadata.specs.declared.types.Spot.TheVariants as spot
use Rattle.world_model.specs.Book.{PlaceBook}
use Rattle.world_model.specs.Sheet.{PlaceSheet}
use Rattle.world_model.specs.Sound.{place_sheet_with}
use Rattle.dimension_ops.specs.Broken.{Broken, Passes, first_broken, unbroken}
use Rattle.dimension_ops.specs.declared.rule.Limit.TheVariants as limit
use Rattle.dimension_ops.specs.declared.rule.Rule.{Rule}
use Rattle.dimension_ops.specs.declared.rule.Rule.TheVariants as rule
use Rattle.dimension_ops.specs.declared.rule.RuleOr.{RuleOr}
use Rattle.dimension_ops.specs.declared.rule.RuleOr.TheVariants as refusal
use Rattle.json_requests.specs.declared.request.DimensionRange.{DimensionRange}
use Rattle.json_requests.specs.declared.request.Location.{Location}
use Rattle.json_requests.specs.declared.request.Location.TheVariants as location
use Rattle.json_requests.specs.declared.request.MatchingStrategy.{MatchingStrategy}
use Rattle.json_requests.specs.declared.request.MatchingStrategy.TheVariants as strategy
use Rattle.json_requests.specs.declared.request.MetadataLookup.{MetadataLookup}
use Rattle.request_kinds.specs.Dimensions.{end_of, lines_there}

-- ---- locations

-- where an item lies that is put there: on the one line of a stretch
abbrev pub spot_of : Location → Spot
spot_of location.Spreadsheet = spot.Spreadsheet
spot_of (location.Sheet sheet) = spot.Sheet sheet
spot_of (location.DimensionRange range) = spot.Line range.sheet_id range.dimension range.start_index

-- its sheet isn't there, the stretch isn't one line, or this isn't there
abbrev pub broken_by_line : DimensionRange → List PlaceSheet → Broken
broken_by_line range sheets = record unbroken {
  no_sheet = is_none (place_sheet_with range.sheet_id sheets);
  bad_range = not (end_of range sheets == range.start_index + 1);
  outside_grid = nat_lt (lines_there range.sheet_id range.dimension sheets) (end_of range sheets);
}

-- the rules that a location breaks
abbrev pub broken_by_location : List PlaceSheet → Location → Broken
broken_by_location sheets location.Spreadsheet = unbroken
broken_by_location sheets (location.Sheet id) = record unbroken { no_sheet = is_none (place_sheet_with id sheets) }
broken_by_location sheets (location.DimensionRange range) = broken_by_line range sheets

-- the rules that one of them breaks
abbrev pub broken_by_locations : List PlaceSheet → List Location → Broken
broken_by_locations sheets locations = record unbroken {
  no_sheet = list_any (λ one. (broken_by_location sheets one).no_sheet) locations;
  bad_range = list_any (λ one. (broken_by_location sheets one).bad_range) locations;
  outside_grid = list_any (λ one. (broken_by_location sheets one).outside_grid) locations;
}

-- ---- look-ups

abbrev pub is_intersecting : MatchingStrategy → Bool
is_intersecting strategy.Exact = false
is_intersecting strategy.Intersecting = true

-- what is asked of items
abbrev pub lookup_of : MetadataLookup → Lookup
lookup_of asked = record {
  kind = asked.location_type;
  spot = option_map spot_of asked.metadata_location;
  intersecting = option_map_or is_intersecting asked.location_matching_strategy true;
  strategy_given = is_some asked.location_matching_strategy;
  id = asked.metadata_id;
  key = asked.metadata_key;
  value = asked.metadata_value;
  visibility = asked.visibility;
}

abbrev pub lookups_of : List MetadataLookup → List Lookup
lookups_of asked = map lookup_of asked

-- the locations that look-ups give
abbrev pub locations_of : List MetadataLookup → List Location
locations_of asked = filter_map (λ one. one.metadata_location) asked

-- the rules that one of them breaks
abbrev pub broken_by_lookups : List PlaceSheet → List MetadataLookup → Broken
broken_by_lookups sheets asked =
    record (broken_by_locations sheets (locations_of asked)) { bad_lookup = has_bad (lookups_of asked) }

-- the items with those ids that the project sees, in the order of the ids; an id is that of one item (`HaveOwnIds`)
abbrev pub items_seen : List ℕ → List ℕ → List Item → List Item
items_seen project ids items = filter_map (λ id. seen_with_id id project items) ids

-- the ids of the items that the project sees and that the look-up finds, in order, or the first rule that it breaks
pub record AreIdsFound (project : List ℕ) (asked : MetadataLookup) (book : PlaceBook) (ids : Result (List ℕ) Rule)
    : Type 0 where
  pub broken : IfErr ids (λ broken. first_broken (broken_by_lookups book.sheets (asked ∷ [])) ≡ Some broken)
  pub unbroken : IfOk ids (λ _. first_broken (broken_by_lookups book.sheets (asked ∷ [])) ≡ None)
  pub in_order : IfOk ids (AreIdsInOrder (found (lookup_of asked) project book.metadata))

-- ---- faults

-- what a fault of the metadata is to a request and to a call
abbrev pub refusal_of : MetaFault → RuleOr
refusal_of fault.NoId = refusal.Rule rule.NoId
refusal_of fault.IdTaken = refusal.Rule rule.IdTaken
refusal_of fault.BadLookup = refusal.Rule rule.BadLookup
refusal_of fault.NoMemory = refusal.NoMemory

-- ---- how many there are

-- the most items that a spreadsheet can have
abbrev pub most_metadata : ℕ
most_metadata = 10000

-- so many of them are past that limit
abbrev pub passes_metadata : ℕ → Passes
passes_metadata count limit.Metadata = nat_lt most_metadata count
passes_metadata count _ = false
