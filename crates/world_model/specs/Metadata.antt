-- Developer metadata by the names of lines: the `DeveloperMetadata` of the Google Sheets API v4.
use Rattle.std.specs.Prelude.{ℕ, Bool, false, List, filter, get_or, not, ◌==◌}
use Rattle.grid_range.specs.declared.axis.Axis.{Axis}
use Rattle.dev_metadata.specs.declared.types.Item.{Item}
use Rattle.dev_metadata.specs.declared.types.Visibility.{Visibility}
use Rattle.dev_metadata.specs.declared.types.Spot.{Spot}
use Rattle.dev_metadata.specs.declared.types.Spot.TheVariants as spot
use Rattle.world_model.specs.Area.{Orders}

-- where an item lies: on the spreadsheet, on a sheet, or on a line of a sheet's axis
pub data NameSpot : Type 0 where
  Spreadsheet : NameSpot
  Sheet : (sheet : ℕ) → NameSpot
  Line : (sheet : ℕ) (axis : Axis) (line : ℕ) → NameSpot

pub record NameItem : Type 0 where
  pub id : ℕ
  pub key : List ℕ
  pub value : List ℕ
  pub spot : NameSpot
  pub visibility : Visibility

-- the location on the line at the place of a location
abbrev pub spot_named : Orders → Spot → NameSpot
spot_named orders spot.Spreadsheet = NameSpot.Spreadsheet
spot_named orders (spot.Sheet sheet) = NameSpot.Sheet sheet
spot_named orders (spot.Line sheet axis place) = NameSpot.Line sheet axis (get_or (orders sheet axis) place 0)

abbrev pub item_named : Orders → Item → NameItem
item_named orders item = record {
  id = item.id;
  key = item.key;
  value = item.value;
  spot = spot_named orders item.spot;
  visibility = item.visibility;
}

-- the location is the sheet or a line of it
abbrev pub is_name_spot_on : ℕ → NameSpot → Bool
is_name_spot_on id NameSpot.Spreadsheet = false
is_name_spot_on id (NameSpot.Sheet sheet) = sheet == id
is_name_spot_on id (NameSpot.Line sheet axis line) = sheet == id

-- the items that are neither on the sheet nor on a line of it
abbrev pub name_items_elsewhere : ℕ → List NameItem → List NameItem
name_items_elsewhere sheet items = filter (λ item. not (is_name_spot_on sheet item.spot)) items
