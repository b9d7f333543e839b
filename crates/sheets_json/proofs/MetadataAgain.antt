-- Locations and items of metadata that are written are read again.
use Rattle.std.proofs.Common.{◌≡◌, ◌≤◌, ℕ, List, [], ◌∷◌, true, cond, IsTrue, nat_le, Option, None, Some, refl, ap, ◌+◌, ◌∙◌}
use Rattle.std.specs.Prelude.{Ok, Err, IfSome}
use Rattle.serde_json.specs.Data.{no_members}
use Rattle.grid_range.specs.declared.axis.Axis.{Axis}
use Rattle.grid_range.specs.declared.axis.Axis.TheVariants.{Rows, Columns}
use Rattle.dev_metadata.specs.declared.types.Visibility.{Visibility}
use Rattle.dev_metadata.specs.declared.types.Visibility.TheVariants as seen
use Rattle.dev_metadata.specs.declared.types.VisibilityKind.{VisibilityKind}
use Rattle.dev_metadata.specs.declared.types.Spot.{Spot}
use Rattle.dev_metadata.specs.declared.types.Spot.TheVariants as place
use Rattle.json_shapes.specs.declared.fault.ShapeFault.TheVariants.{BadShape}
use Rattle.json_requests.specs.declared.request.Location.{Location}
use Rattle.json_requests.specs.declared.request.Location.TheVariants as location
use Rattle.json_requests.specs.declared.request.NewMetadata.{NewMetadata}
use Rattle.json_shapes.specs.Reading.{Reading, both, made}
use Rattle.json_shapes.specs.Members.{nothing_left, first_part, object_of}
use Rattle.json_shapes.specs.Scalars.{greatest_index, index}
use Rattle.json_requests.specs.Metadata.{is_key, metadata_key, metadata_location, new_metadata, new_metadata_of}
use Rattle.sheets_json.specs.Written.{text_data, count_data}
use Rattle.sheets_json.specs.Metadata.{location_data, location_of, spot_data, visibility_of, item_data}
use Rattle.sheets_json.specs.Laws.{IsIndexedLocation, LocationsAreReadAgain, ItemsAreReadAgain, if_filled}
use Rattle.sheets_json.proofs.ReadAgain.{is_index}

-- the lines of a sheet
abbrev lines : ℕ → Axis → ℕ → Option ℕ → Location
lines sheet dimension start end = location.DimensionRange (record {
  sheet_id = sheet;
  dimension = dimension;
  start_index = start;
  end_index = end;
})

lines_again : (sheet : ℕ) (dimension : Axis) (start : ℕ) (end : Option ℕ) → nat_le sheet greatest_index ≡ true
    → nat_le start greatest_index ≡ true → IfSome end (λ line. line ≤ greatest_index)
    → object_of metadata_location (location_data (lines sheet dimension start end))
    ≡ Ok (lines sheet dimension start end)
lines_again sheet Rows start None s b e = simp (s, b) refl
lines_again sheet Columns start None s b e = simp (s, b) refl
lines_again sheet Rows start (Some end) s b e = simp (s, b, is_index end e) refl
lines_again sheet Columns start (Some end) s b e = simp (s, b, is_index end e) refl

pub locations_again : LocationsAreReadAgain
locations_again location.Spreadsheet has = refl
locations_again (location.Sheet sheet) has = simp (is_index sheet has) refl
locations_again (location.DimensionRange range) has =
    lines_again range.sheet_id range.dimension range.start_index range.end_index (is_index range.sheet_id has.sheet)
    (is_index range.start_index has.start) has.end

-- where an item lies is read as the location that it is
line_again : (sheet : ℕ) (axis : Axis) (at : ℕ) → nat_le sheet greatest_index ≡ true → nat_le at greatest_index ≡ true
    → nat_le (at + 1) greatest_index ≡ true
    → object_of metadata_location (spot_data (place.Line sheet axis at)) ≡ Ok (location_of (place.Line sheet axis at))
line_again sheet Rows at s b e = simp (s, b, e) refl
line_again sheet Columns at s b e = simp (s, b, e) refl

spot_again : (lies : Spot) → IsIndexedLocation (location_of lies)
    → object_of metadata_location (spot_data lies) ≡ Ok (location_of lies)
spot_again place.Spreadsheet has = refl
spot_again (place.Sheet sheet) has = simp (is_index sheet has) refl
spot_again (place.Line sheet axis at) has =
    line_again sheet axis at (is_index sheet has.sheet) (is_index at has.start) (is_index (at + 1) has.end)

key_again : (key : List ℕ) → IsTrue (is_key key) → metadata_key (text_data key) ≡ Ok key
key_again key holds = ap (λ b. cond b (Ok key) (Err BadShape)) holds

pub id_again : (id : ℕ) → id ≤ greatest_index → index (count_data id) ≡ Ok id
id_again id small = simp (is_index id small) refl

-- what is read of the parts of an item
abbrev read_of : Reading ℕ → Reading (List ℕ) → Option (List ℕ) → Reading Location → VisibilityKind
    → Reading NewMetadata
read_of id key value lies visibility =
    made first_part (both
    (made new_metadata_of (both (both (both (both (made Some id) key) (Ok value)) lies) (Ok visibility)))
    (nothing_left no_members))

parts_read : (id : ℕ) (key value : List ℕ) (lies : Spot) (visibility : Visibility)
    → object_of new_metadata
    (item_data (record { id = id; key = key; value = value; spot = lies; visibility = visibility }))
    ≡ read_of (index (count_data id)) (metadata_key (text_data key)) (if_filled value)
    (object_of metadata_location (spot_data lies)) (visibility_of visibility)
parts_read id key [] lies seen.Document = refl
parts_read id key [] lies (seen.Project project) = refl
parts_read id key (byte ∷ bytes) lies seen.Document = refl
parts_read id key (byte ∷ bytes) lies (seen.Project project) = refl

pub items_again : ItemsAreReadAgain
items_again item small is indexed =
    parts_read item.id item.key item.value item.spot item.visibility
    ∙ ap (λ id. read_of id (metadata_key (text_data item.key)) (if_filled item.value)
    (object_of metadata_location (spot_data item.spot)) (visibility_of item.visibility)) (id_again item.id small)
    ∙ ap (λ key. read_of (Ok item.id) key (if_filled item.value) (object_of metadata_location (spot_data item.spot))
    (visibility_of item.visibility)) (key_again item.key is)
    ∙ ap (λ lies. read_of (Ok item.id) (Ok item.key) (if_filled item.value) lies (visibility_of item.visibility))
    (spot_again item.spot indexed)
