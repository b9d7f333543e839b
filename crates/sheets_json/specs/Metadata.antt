-- Metadata and data filters as JSON values (Google Sheets API v4 reference, DeveloperMetadata,
-- DeveloperMetadataLocation, DeveloperMetadataLookup and DataFilter). Members are put into an object in the order of
-- their names.
use Rattle.std.specs.Prelude.{◌+◌, true, codes, Some}
use Rattle.serde_json.specs.Data.{Data, object, Members, no_members, put}
use Rattle.grid_range.specs.declared.axis.Axis.{Axis}
use Rattle.grid_range.specs.declared.axis.Axis.TheVariants.{Rows, Columns}
use Rattle.dev_metadata.specs.declared.types.Item.{Item}
use Rattle.dev_metadata.specs.declared.types.Visibility.{Visibility}
use Rattle.dev_metadata.specs.declared.types.Visibility.TheVariants as seen
use Rattle.dev_metadata.specs.declared.types.VisibilityKind.{VisibilityKind}
use Rattle.dev_metadata.specs.declared.types.VisibilityKind.TheVariants as visibility
use Rattle.dev_metadata.specs.declared.types.Spot.{Spot}
use Rattle.dev_metadata.specs.declared.types.Spot.TheVariants as place
use Rattle.dev_metadata.specs.declared.types.SpotKind.{SpotKind}
use Rattle.dev_metadata.specs.declared.types.SpotKind.TheVariants as spot
use Rattle.json_requests.specs.declared.request.DataFilter.{DataFilter}
use Rattle.json_requests.specs.declared.request.DataFilter.TheVariants as filter
use Rattle.json_requests.specs.declared.request.DimensionRange.{DimensionRange}
use Rattle.json_requests.specs.declared.request.Location.{Location}
use Rattle.json_requests.specs.declared.request.Location.TheVariants as location
use Rattle.json_requests.specs.declared.request.MatchingStrategy.{MatchingStrategy}
use Rattle.json_requests.specs.declared.request.MatchingStrategy.TheVariants as strategy
use Rattle.json_requests.specs.declared.request.MetadataLookup.{MetadataLookup}
use Rattle.sheets_json.specs.Written.{text_data, truth_data, count_data, put_given, put_filled}
use Rattle.sheets_json.specs.Areas.{area_data, lines_data}

-- ---- words

abbrev pub location_type_data : SpotKind → Data
location_type_data spot.Row = text_data (codes "ROW")
location_type_data spot.Column = text_data (codes "COLUMN")
location_type_data spot.Sheet = text_data (codes "SHEET")
location_type_data spot.Spreadsheet = text_data (codes "SPREADSHEET")

abbrev pub strategy_data : MatchingStrategy → Data
strategy_data strategy.Exact = text_data (codes "EXACT_LOCATION")
strategy_data strategy.Intersecting = text_data (codes "INTERSECTING_LOCATION")

abbrev pub visibility_data : VisibilityKind → Data
visibility_data visibility.Document = text_data (codes "DOCUMENT")
visibility_data visibility.Project = text_data (codes "PROJECT")

-- ---- locations

abbrev pub dimension_range_data : DimensionRange → Data
dimension_range_data range = lines_data range.sheet_id range.dimension range.start_index range.end_index

abbrev pub put_location : Location → Members → Members
put_location location.Spreadsheet members = put (codes "spreadsheet") (truth_data true) members
put_location (location.Sheet sheet) members = put (codes "sheetId") (count_data sheet) members
put_location (location.DimensionRange range) members = put (codes "dimensionRange") (dimension_range_data range) members

-- a location as it is asked for
abbrev pub location_data : Location → Data
location_data asked = object (put_location asked no_members)

abbrev pub line_kind : Axis → SpotKind
line_kind Rows = spot.Row
line_kind Columns = spot.Column

-- the kind of location that a place is
abbrev pub kind_of : Spot → SpotKind
kind_of place.Spreadsheet = spot.Spreadsheet
kind_of (place.Sheet sheet) = spot.Sheet
kind_of (place.Line sheet axis at) = line_kind axis

-- a row or a column is a stretch of one line
abbrev pub location_of : Spot → Location
location_of place.Spreadsheet = location.Spreadsheet
location_of (place.Sheet sheet) = location.Sheet sheet
location_of (place.Line sheet axis at) = location.DimensionRange (record {
  sheet_id = sheet;
  dimension = axis;
  start_index = at;
  end_index = Some (at + 1);
})

-- where an item lies, and what kind of location that is
abbrev pub spot_data : Spot → Data
spot_data lies =
    object (put_location (location_of lies) (put (codes "locationType") (location_type_data (kind_of lies)) no_members))

-- ---- items

-- that an item is one of a project is said, and not of which
abbrev pub visibility_of : Visibility → VisibilityKind
visibility_of seen.Document = visibility.Document
visibility_of (seen.Project project) = visibility.Project

-- a value is said where there is one
abbrev pub item_data : Item → Data
item_data item = object (
    put (codes "location") (spot_data item.spot) (
    put (codes "metadataId") (count_data item.id) (
    put (codes "metadataKey") (text_data item.key) (
    put_filled (codes "metadataValue") item.value (
    put (codes "visibility") (visibility_data (visibility_of item.visibility)) no_members)))))

-- ---- filters of data

-- what items say that are looked up
abbrev pub put_texts : MetadataLookup → Members → Members
put_texts lookup members =
    put_given (codes "metadataId") count_data lookup.metadata_id (
    put_given (codes "metadataKey") text_data lookup.metadata_key (
    put_given (codes "metadataValue") text_data lookup.metadata_value members))

abbrev pub lookup_data : MetadataLookup → Data
lookup_data lookup = object (
    put_given (codes "locationMatchingStrategy") strategy_data lookup.location_matching_strategy (
    put_given (codes "locationType") location_type_data lookup.location_type (
    put_given (codes "metadataLocation") location_data lookup.metadata_location (
    put_texts lookup (
    put_given (codes "visibility") visibility_data lookup.visibility no_members)))))

-- a filter as it is asked for
abbrev pub data_filter_data : DataFilter → Data
data_filter_data (filter.DeveloperMetadataLookup lookup) =
    object (put (codes "developerMetadataLookup") (lookup_data lookup) no_members)
data_filter_data (filter.A1Range range) = object (put (codes "a1Range") (text_data range) no_members)
data_filter_data (filter.GridRange area) = object (put (codes "gridRange") (area_data area) no_members)
