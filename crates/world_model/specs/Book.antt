-- A spreadsheet by the names of its lines, and by their places: the `Spreadsheet` of the Google Sheets API v4.
use Rattle.std.specs.Prelude.{ℕ, List, [], Option, ◌==◌}
use Rattle.std.specs.List.{find}
use Rattle.std.specs.Option.{option_map_or}
use Rattle.dev_metadata.specs.declared.types.Item.{Item}
use Rattle.named_ranges.specs.declared.range.NamedRange.{NamedRange}
use Rattle.protection.specs.declared.range.Protection.{Protection}
use Rattle.world_model.specs.Area.{Orders}
use Rattle.world_model.specs.Metadata.{NameItem}
use Rattle.world_model.specs.Protections.{NameProtection}
use Rattle.world_model.specs.Ranges.{NameRange}
use Rattle.world_model.specs.Sheet.{NameSheet, PlaceSheet, lines_of}

-- the sheets are in their order, the named ranges and the metadata in order of creation, and the protected ranges in
-- order of id
pub record NameBook : Type 0 where
  pub id : List ℕ
  pub title : List ℕ
  pub owner : List ℕ
  pub sheets : List NameSheet
  pub ranges : List NameRange
  pub protections : List NameProtection
  pub metadata : List NameItem

pub record PlaceBook : Type 0 where
  pub id : List ℕ
  pub title : List ℕ
  pub owner : List ℕ
  pub sheets : List PlaceSheet
  pub ranges : List NamedRange
  pub protections : List Protection
  pub metadata : List Item

-- the sheet with the id
abbrev pub sheet_with : ℕ → List NameSheet → Option NameSheet
sheet_with id sheets = find (λ sheet. sheet.id == id) sheets

-- the lines of each of the sheets; one that isn't there has none
abbrev pub orders_of : List NameSheet → Orders
orders_of sheets id axis = option_map_or (λ sheet. lines_of sheet axis) (sheet_with id sheets) []
