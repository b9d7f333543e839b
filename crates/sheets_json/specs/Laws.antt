-- What is written is read again as the same value.
use Rattle.std.specs.Prelude.{◌≡◌, ◌≤◌, ◌⊎◌, ℕ, ℤ, unsigned_abs, Bool, true, false, List, [], ◌∷◌, Option, None, Some, IfSome, Ok, ⊤, IsTrue}
use Rattle.std.specs.List.{All}
use Rattle.std.specs.Fmt.{decimal}
use Rattle.std.specs.Ordering.{nat_cmp}
use Rattle.std.specs.Cmp.Lexicographic.{slice_cmp}
use Rattle.std.specs.declared.cmp.Ordering.TheVariants.{Less}
use Rattle.basic_filter.specs.declared.types.Condition.{Condition}
use Rattle.basic_filter.specs.declared.types.Condition.TheVariants as condition
use Rattle.basic_filter.specs.declared.types.Criterion.{Criterion}
use Rattle.basic_filter.specs.declared.types.Filter.{Filter}
use Rattle.cell_value.specs.Limits.{largest}
use Rattle.grid_range.specs.declared.band.Band.{Band}
use Rattle.grid_range.specs.declared.band.Band.TheVariants.{Whole, From, Span}
use Rattle.grid_range.specs.declared.area.Area.{Area}
use Rattle.dev_metadata.specs.declared.types.Item.{Item}
use Rattle.named_ranges.specs.declared.range.NamedRange.{NamedRange}
use Rattle.json_requests.specs.declared.request.DimensionRange.{DimensionRange}
use Rattle.json_requests.specs.declared.request.Location.{Location}
use Rattle.json_requests.specs.declared.request.Location.TheVariants as location
use Rattle.json_requests.specs.declared.request.NewMetadata.{NewMetadata}
use Rattle.json_requests.specs.declared.request.NewNamedRange.{NewNamedRange}
use Rattle.json_requests.specs.declared.request.Request.{Request}
use Rattle.json_requests.specs.declared.request.Request.TheVariants as request
use Rattle.sheets_json.specs.declared.spreadsheet.ShownProtection.{ShownProtection}
use Rattle.json_shapes.specs.Members.{object_of}
use Rattle.json_shapes.specs.Shapes.{such_that}
use Rattle.json_shapes.specs.Scalars.{greatest_index}
use Rattle.json_requests.specs.Areas.{grid_range}
use Rattle.json_requests.specs.Filters.{basic_filter}
use Rattle.json_requests.specs.Metadata.{is_key, metadata_location, new_metadata}
use Rattle.json_requests.specs.NamedRanges.{is_range_id, new_named_range}
use Rattle.json_requests.specs.ProtectedRanges.{keeps_parts, new_protected_range}
use Rattle.sheets_json.specs.Areas.{area_data}
use Rattle.sheets_json.specs.Filters.{filter_data}
use Rattle.sheets_json.specs.Metadata.{location_data, location_of, visibility_of, item_data}
use Rattle.sheets_json.specs.Spreadsheets.{named_range_data, protection_data}

-- the lines at which a band begins and ends are indices
abbrev pub HasIndices : Band → Type 0
HasIndices Whole = ⊤
HasIndices (From start) = start ≤ greatest_index
HasIndices (Span start end) = (start ≤ greatest_index) × (end ≤ greatest_index)

-- an area of which JSON has all the numbers
pub record IsIndexed (area : Area) : Type 0 where
  pub sheet : area.sheet ≤ greatest_index
  pub rows : HasIndices area.rows
  pub cols : HasIndices area.cols

-- an area is read again
abbrev pub AreasAreReadAgain : Type 0
AreasAreReadAgain = (area : Area) → IsIndexed area → object_of grid_range (area_data area) ≡ Ok area

-- the request for a named range such as this one
abbrev pub asked_again : NamedRange → NewNamedRange
asked_again named = record { named_range_id = Some named.id; name = named.name; range = named.area }

-- a named range is read again
abbrev pub NamedRangesAreReadAgain : Type 0
NamedRangesAreReadAgain =
    (named : NamedRange) → IsTrue (is_range_id named.id) → IsIndexed named.area
    → object_of new_named_range (named_range_data named) ≡ Ok (asked_again named)

-- ---- metadata

-- lines of which JSON has all the numbers
pub record AreIndexed (range : DimensionRange) : Type 0 where
  pub sheet : range.sheet_id ≤ greatest_index
  pub start : range.start_index ≤ greatest_index
  pub end : IfSome range.end_index (λ end. end ≤ greatest_index)

-- a location of which JSON has all the numbers
abbrev pub IsIndexedLocation : Location → Type 0
IsIndexedLocation location.Spreadsheet = ⊤
IsIndexedLocation (location.Sheet sheet) = sheet ≤ greatest_index
IsIndexedLocation (location.DimensionRange range) = AreIndexed range

-- a location is read again
abbrev pub LocationsAreReadAgain : Type 0
LocationsAreReadAgain =
    (asked : Location) → IsIndexedLocation asked → object_of metadata_location (location_data asked) ≡ Ok asked

-- a text, if there is one
abbrev pub if_filled : List ℕ → Option (List ℕ)
if_filled [] = None
if_filled (byte ∷ bytes) = Some (byte ∷ bytes)

-- the request for an item such as this one
abbrev pub item_asked : Item → NewMetadata
item_asked item = record {
  metadata_id = Some item.id;
  metadata_key = item.key;
  metadata_value = if_filled item.value;
  location = location_of item.spot;
  visibility = visibility_of item.visibility;
}

-- an item is read again
abbrev pub ItemsAreReadAgain : Type 0
ItemsAreReadAgain =
    (item : Item) → item.id ≤ greatest_index → IsTrue (is_key item.key) → IsIndexedLocation (location_of item.spot)
    → object_of new_metadata (item_data item) ≡ Ok (item_asked item)

-- ---- protected ranges

-- every cell of a sheet
abbrev pub IsWhole : Area → Type 0
IsWhole area = (area.rows ≡ Whole) × (area.cols ≡ Whole)

-- a protected range of which JSON has all the numbers, and whose ranges are left open in a whole sheet
pub record IsProtection (shown : ShownProtection) : Type 0 where
  pub id : shown.protected_range_id ≤ greatest_index
  pub range : IsIndexed shown.range
  pub unprotected : All IsIndexed shown.unprotected_ranges
  pub opens : (shown.unprotected_ranges ≡ []) ⊎ (IsWhole shown.range)

-- what holds, if it does
abbrev pub if_true : Bool → Option Bool
if_true true = Some true
if_true false = None

-- some ranges, if there are some
abbrev pub if_some : List Area → Option (List Area)
if_some [] = None
if_some (area ∷ areas) = Some (area ∷ areas)

-- the request for a protected range such as this one
abbrev pub protection_asked : ShownProtection → Request
protection_asked shown = request.AddProtectedRange (Some shown.protected_range_id) (record {
  area = Some shown.range;
  description = if_filled shown.description;
  warning_only = if_true shown.warning_only;
  unprotected = if_some shown.unprotected_ranges;
  editors = shown.editors;
})

-- a protected range is read again
abbrev pub ProtectionsAreReadAgain : Type 0
ProtectionsAreReadAgain =
    (shown : ShownProtection) → IsProtection shown
    → such_that keeps_parts (object_of new_protected_range) (protection_data shown) ≡ Ok (protection_asked shown)

-- ---- filters

-- a number that a condition may have
abbrev pub IsKept : ℤ → Type 0
IsKept number = unsigned_abs number ≤ largest

abbrev pub HasNumbers : Condition → Type 0
HasNumbers (condition.NumberGreater number) = IsKept number
HasNumbers (condition.NumberGreaterThanEq number) = IsKept number
HasNumbers (condition.NumberLess number) = IsKept number
HasNumbers (condition.NumberLessThanEq number) = IsKept number
HasNumbers (condition.NumberEq number) = IsKept number
HasNumbers (condition.NumberNotEq number) = IsKept number
HasNumbers (condition.NumberBetween first last) = IsKept first × IsKept last
HasNumbers (condition.TextContains part) = ⊤
HasNumbers (condition.TextNotContains part) = ⊤
HasNumbers (condition.TextStartsWith start) = ⊤
HasNumbers (condition.TextEndsWith end) = ⊤
HasNumbers (condition.TextEq other) = ⊤
HasNumbers condition.Blank = ⊤
HasNumbers condition.NotBlank = ⊤

-- a criterion that JSON has
pub record IsCriterion (criterion : Criterion) : Type 0 where
  pub column : criterion.column ≤ greatest_index
  pub condition : IfSome criterion.condition HasNumbers

-- each column stands once, in the byte order of their decimals
abbrev pub AreInOrder : List Criterion → Type 0
AreInOrder [] = ⊤
AreInOrder (first ∷ []) = ⊤
AreInOrder (first ∷ second ∷ criteria) =
    (slice_cmp nat_cmp (decimal first.column) (decimal second.column) ≡ Less) × AreInOrder (second ∷ criteria)

-- a filter is read again
abbrev pub FiltersAreReadAgain : Type 0
FiltersAreReadAgain =
    (shown : Filter) → IsIndexed shown.area → All IsCriterion shown.criteria → AreInOrder shown.criteria
    → object_of basic_filter (filter_data shown) ≡ Ok shown
