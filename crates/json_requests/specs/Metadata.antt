-- DeveloperMetadata, its location, its look-up and data filters (Google Sheets API v4 reference), and the requests for
-- metadata.
use Rattle.std.specs.Prelude.{ℕ, Bool, true, false, ◌&&◌, List, codes, length, nat_lt, nat_le, if◌then◌else◌, Option, None, Some, option_map, unwrap_or, Ok, Err}
use Rattle.std.specs.Str.{bytes_eq}
use Rattle.serde_json.specs.Data.{Data, null, boolean, number, string, array, object}
use Rattle.serde_json.specs.Find.{as_str}
use Rattle.dev_metadata.specs.declared.types.SpotKind.{SpotKind}
use Rattle.dev_metadata.specs.declared.types.SpotKind.TheVariants as spot
use Rattle.dev_metadata.specs.declared.types.VisibilityKind.{VisibilityKind}
use Rattle.dev_metadata.specs.declared.types.VisibilityKind.TheVariants as visibility
use Rattle.json_requests.specs.declared.metadata.StatedMetadata.{StatedMetadata}
use Rattle.json_requests.specs.declared.request.DataFilter.{DataFilter}
use Rattle.json_requests.specs.declared.request.DataFilter.TheVariants as filter
use Rattle.json_requests.specs.declared.request.Location.{Location}
use Rattle.json_requests.specs.declared.request.Location.TheVariants as location
use Rattle.json_requests.specs.declared.request.MetadataLookup.{MetadataLookup}
use Rattle.json_requests.specs.declared.request.MetadataPatch.{MetadataPatch}
use Rattle.json_requests.specs.declared.request.MatchingStrategy.{MatchingStrategy}
use Rattle.json_requests.specs.declared.request.MatchingStrategy.TheVariants as strategy
use Rattle.json_requests.specs.declared.request.NewMetadata.{NewMetadata}
use Rattle.json_requests.specs.declared.request.Request.{Request}
use Rattle.json_requests.specs.declared.request.Request.TheVariants as request
use Rattle.json_shapes.specs.declared.fault.ShapeFault.TheVariants.{BadShape, Unsupported}
use Rattle.json_shapes.specs.Reading.{Reading, Shape, made}
use Rattle.json_shapes.specs.Members.{Fields, optional, required, also, making, way, or_else, just_one, first_part, object_of}
use Rattle.json_shapes.specs.Shapes.{text, word, anything, list_of, such_that}
use Rattle.json_shapes.specs.Scalars.{index}
use Rattle.json_shapes.specs.Masks.{PathList, states, taken, masked}
use Rattle.json_requests.specs.Areas.{grid_range}
use Rattle.json_requests.specs.Dimensions.{dimension_range}

-- ---- locations

-- true, and nothing else
abbrev pub only_true : Shape Location
only_true null = Err BadShape
only_true (boolean true) = Ok location.Spreadsheet
only_true (boolean false) = Err BadShape
only_true (number n) = Err BadShape
only_true (string bytes) = Err BadShape
only_true (array items) = Err BadShape
only_true (object _) = Err BadShape

abbrev pub sheet_location : Shape Location
sheet_location value = made location.Sheet (index value)

abbrev pub line_location : Shape Location
line_location value = made location.DimensionRange (object_of dimension_range value)

abbrev pub place : Fields Location
place = just_one (or_else (or_else
    (way (codes "spreadsheet") only_true)
    (way (codes "sheetId") sheet_location))
    (way (codes "dimensionRange") line_location))

-- what kind of location it is, is passed over
abbrev pub metadata_location : Fields Location
metadata_location = making first_part (also place (optional (codes "locationType") anything))

-- ---- words

abbrev pub location_type_named : List ℕ → Option SpotKind
location_type_named name =
    if bytes_eq name (codes "ROW") then Some spot.Row
    else if bytes_eq name (codes "COLUMN") then Some spot.Column
    else if bytes_eq name (codes "SHEET") then Some spot.Sheet
    else if bytes_eq name (codes "SPREADSHEET") then Some spot.Spreadsheet
    else None

abbrev pub strategy_named : List ℕ → Option MatchingStrategy
strategy_named name =
    if bytes_eq name (codes "EXACT_LOCATION") then Some strategy.Exact
    else if bytes_eq name (codes "INTERSECTING_LOCATION") then Some strategy.Intersecting
    else None

abbrev pub visibility_named : List ℕ → Option VisibilityKind
visibility_named name =
    if bytes_eq name (codes "DOCUMENT") then Some visibility.Document
    else if bytes_eq name (codes "PROJECT") then Some visibility.Project
    else None

-- ---- items

-- 1 to 1,000 bytes
abbrev pub is_key : List ℕ → Bool
is_key key = nat_lt 0 (length key) && nat_le (length key) 1000

abbrev pub is_key_text : Data → Bool
is_key_text value = unwrap_or (option_map is_key (as_str value)) false

abbrev pub metadata_key : Shape (List ℕ)
metadata_key = such_that is_key_text text

abbrev pub new_metadata_of :
    (((Option ℕ × List ℕ) × Option (List ℕ)) × Location) × VisibilityKind → NewMetadata
new_metadata_of parts = record {
  metadata_id = parts.0.0.0.0;
  metadata_key = parts.0.0.0.1;
  metadata_value = parts.0.0.1;
  location = parts.0.1;
  visibility = parts.1;
}

-- the members of which an update takes none
abbrev pub new_metadata_texts : Fields ((Option ℕ × List ℕ) × Option (List ℕ))
new_metadata_texts =
    also (also
    (optional (codes "metadataId") index)
    (required (codes "metadataKey") metadata_key))
    (optional (codes "metadataValue") text)

abbrev pub new_metadata : Fields NewMetadata
new_metadata =
    making new_metadata_of (also (also
    new_metadata_texts
    (required (codes "location") (object_of metadata_location)))
    (required (codes "visibility") (word visibility_named)))

abbrev pub create_developer_metadata : Fields Request
create_developer_metadata =
    making request.CreateDeveloperMetadata (required (codes "developerMetadata") (object_of new_metadata))

-- ---- look-ups

abbrev pub lookup_place : Fields ((Option SpotKind × Option Location) × Option MatchingStrategy)
lookup_place =
    also (also
    (optional (codes "locationType") (word location_type_named))
    (optional (codes "metadataLocation") (object_of metadata_location)))
    (optional (codes "locationMatchingStrategy") (word strategy_named))

abbrev pub lookup_texts : Fields ((Option ℕ × Option (List ℕ)) × Option (List ℕ))
lookup_texts =
    also (also
    (optional (codes "metadataId") index)
    (optional (codes "metadataKey") text))
    (optional (codes "metadataValue") text)

abbrev pub lookup_of : (((Option SpotKind × Option Location) × Option MatchingStrategy)
    × ((Option ℕ × Option (List ℕ)) × Option (List ℕ))) × Option VisibilityKind → MetadataLookup
lookup_of parts = record {
  location_type = parts.0.0.0.0;
  metadata_location = parts.0.0.0.1;
  location_matching_strategy = parts.0.0.1;
  metadata_id = parts.0.1.0.0;
  metadata_key = parts.0.1.0.1;
  metadata_value = parts.0.1.1;
  visibility = parts.1;
}

abbrev pub metadata_lookup : Fields MetadataLookup
metadata_lookup =
    making lookup_of (also (also lookup_place lookup_texts) (optional (codes "visibility") (word visibility_named)))

-- ---- data filters

abbrev pub lookup_filter : Shape DataFilter
lookup_filter value = made filter.DeveloperMetadataLookup (object_of metadata_lookup value)

abbrev pub text_filter : Shape DataFilter
text_filter value = made filter.A1Range (text value)

abbrev pub area_filter : Shape DataFilter
area_filter value = made filter.GridRange (object_of grid_range value)

abbrev pub data_filter : Fields DataFilter
data_filter = just_one (or_else (or_else
    (way (codes "developerMetadataLookup") lookup_filter)
    (way (codes "a1Range") text_filter))
    (way (codes "gridRange") area_filter))

-- where metadata is looked for, a filter of cells is unsupported
abbrev pub looked_up : DataFilter → Reading MetadataLookup
looked_up (filter.DeveloperMetadataLookup lookup) = Ok lookup
looked_up (filter.A1Range range) = Err Unsupported
looked_up (filter.GridRange area) = Err Unsupported

abbrev pub if_looked_up : Reading DataFilter → Reading MetadataLookup
if_looked_up (Ok asked) = looked_up asked
if_looked_up (Err fault) = Err fault

abbrev pub lookup_alone : Shape MetadataLookup
lookup_alone value = if_looked_up (object_of data_filter value)

-- ---- an update

abbrev pub changed_texts : Fields ((Option ℕ × Option (List ℕ)) × Option (List ℕ))
changed_texts =
    also (also
    (optional (codes "metadataId") index)
    (optional (codes "metadataKey") metadata_key))
    (optional (codes "metadataValue") text)

abbrev pub patch_of : (((Option ℕ × Option (List ℕ)) × Option (List ℕ)) × Option Location) × Option VisibilityKind
    → MetadataPatch
patch_of parts = record {
  metadata_key = parts.0.0.0.1;
  metadata_value = parts.0.0.1;
  location = parts.0.1;
  visibility = parts.1;
}

abbrev pub changed_metadata : Fields MetadataPatch
changed_metadata =
    making patch_of (also (also
    changed_texts
    (optional (codes "location") (object_of metadata_location)))
    (optional (codes "visibility") (word visibility_named)))

-- what the metadata of a request states
abbrev pub stated_metadata : Option Data → StatedMetadata
stated_metadata body = record {
  key = states (codes "metadataKey") body;
  value = states (codes "metadataValue") body;
  location = states (codes "location") body;
  visibility = states (codes "visibility") body;
}

abbrev pub metadata_paths : StatedMetadata → PathList
metadata_paths stated path =
    if bytes_eq path (codes "metadataKey") then Some stated.key
    else if bytes_eq path (codes "metadataValue") then Some stated.value
    else if bytes_eq path (codes "location") then Some stated.location
    else if bytes_eq path (codes "visibility") then Some stated.visibility
    else None

-- what the mask takes of it
abbrev pub masked_metadata : MetadataPatch × List ℕ → MetadataPatch
masked_metadata parts = record {
  metadata_key = taken parts.1 (codes "metadataKey") parts.0.metadata_key;
  metadata_value = taken parts.1 (codes "metadataValue") parts.0.metadata_value;
  location = taken parts.1 (codes "location") parts.0.location;
  visibility = taken parts.1 (codes "visibility") parts.0.visibility;
}

abbrev pub update_of : List MetadataLookup × (MetadataPatch × List ℕ) → Request
update_of parts = request.UpdateDeveloperMetadata parts.0 (masked_metadata parts.1)

abbrev pub update_developer_metadata : Fields Request
update_developer_metadata =
    making update_of (also
    (required (codes "dataFilters") (list_of lookup_alone))
    (masked (codes "developerMetadata") (object_of changed_metadata) (λ body. metadata_paths (stated_metadata body))))

-- ---- a removal

abbrev pub delete_developer_metadata : Fields Request
delete_developer_metadata = making request.DeleteDeveloperMetadata (required (codes "dataFilter") lookup_alone)
