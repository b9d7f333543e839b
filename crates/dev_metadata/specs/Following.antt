-- What the metadata of a spreadsheet becomes when lines of one of its sheets are inserted, deleted or
-- moved, or when a sheet is deleted: insertDimension, deleteDimension, moveDimension and deleteSheet of
-- the Google Sheets API v4.
use Rattle.std.specs.Prelude.{ℕ, ◌≡◌, ◌<◌, Bool, true, not, ◌&&◌, ◌==◌, List, Option, Some, ⊤, filter, if◌then◌else◌}
use Rattle.std.specs.Option.{option_map}
use Rattle.grid_range.specs.declared.axis.Axis.{Axis}
use Rattle.grid_range.specs.declared.change.Change.{Change}
use Rattle.grid_range.specs.Tracking.{place_of}
use Rattle.dev_metadata.specs.declared.types.Item.{Item}
use Rattle.dev_metadata.specs.declared.types.Spot.{Spot}
use Rattle.dev_metadata.specs.declared.types.Spot.TheVariants.{Spreadsheet, Sheet, Line}
use Rattle.dev_metadata.specs.Spot.{is_same_axis, is_on_sheet}

-- the line is one of that axis of that sheet
abbrev pub is_changed : ℕ → Axis → ℕ → Axis → Bool
is_changed sheet axis its_sheet its_axis = its_sheet == sheet && is_same_axis its_axis axis

-- on that axis of that sheet a line where an item lies is below `count`
abbrev pub IsSpotBelow : ℕ → Axis → ℕ → Spot → Type 0
IsSpotBelow sheet axis count Spreadsheet = ⊤
IsSpotBelow sheet axis count (Sheet _) = ⊤
IsSpotBelow sheet axis count (Line its_sheet its_axis index) =
    is_changed sheet axis its_sheet its_axis ≡ true → index < count

abbrev pub IsBelow : ℕ → Axis → ℕ → Item → Type 0
IsBelow sheet axis count item = IsSpotBelow sheet axis count item.spot

-- a location follows its line; None where the line is deleted
abbrev pub spot_followed : ℕ → Axis → Change → Spot → Option Spot
spot_followed sheet axis change Spreadsheet = Some Spreadsheet
spot_followed sheet axis change (Sheet its_sheet) = Some (Sheet its_sheet)
spot_followed sheet axis change (Line its_sheet its_axis index) =
    if is_changed sheet axis its_sheet its_axis
    then option_map (Line its_sheet its_axis) (place_of change index)
    else Some (Line its_sheet its_axis index)

-- an item follows with its location, and goes with it
abbrev pub item_followed : ℕ → Axis → Change → Item → Option Item
item_followed sheet axis change item =
    option_map (λ spot. record item { spot = spot }) (spot_followed sheet axis change item.spot)

-- the items that are neither on the sheet nor on a line of it
abbrev pub items_elsewhere : ℕ → List Item → List Item
items_elsewhere sheet items = filter (λ item. not (is_on_sheet sheet item.spot)) items
