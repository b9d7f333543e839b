-- The values of cells (Google Sheets API v4 reference, CellData, `effectiveValue`).
use Rattle.std.specs.Prelude.{◌≡◌, Option, None, Some}
use Rattle.cell_value.specs.declared.cell.Value.{Value}
use Rattle.cell_value.specs.declared.cell.Value.TheVariants as value
use Rattle.cell_calc.specs.Book.{Place}
use Rattle.cell_calc.specs.Calculated.{IsValueIn}
use Rattle.ref_rewrite.specs.declared.cell_content.Content.{Content}
use Rattle.ref_rewrite.specs.declared.cell_content.Content.TheVariants as content
use Rattle.world_model.specs.Book.{PlaceBook}
use Rattle.world_model.specs.Sound.{IsSound}
use Rattle.values_api.specs.Sheets.{stored_in}

-- a cell of a sound spreadsheet has one value at most
pub record CellsHaveOneValue : Type 0 where
  pub once : (book : PlaceBook) (place : Place) (one other : Value) → IsSound book
      → IsValueIn (stored_in book) place one → IsValueIn (stored_in book) place other → one ≡ other

-- ---- what the private functions hand to one another

-- the value of what is stored, unless that is a formula
abbrev pub plain_value : Content → Option Value
plain_value (content.Number number) = Some (value.Number number)
plain_value (content.Text text) = Some (value.Text text)
plain_value (content.Truth truth) = Some (value.Truth truth)
plain_value (content.Formula formula) = None

-- and of nothing
abbrev pub value_alone : Option Content → Option Value
value_alone None = Some value.Blank
value_alone (Some item) = plain_value item
