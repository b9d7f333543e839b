-- Laws of reads and clears: none is without an answer. That there is one is told by that it can't be that none is
-- there, where it isn't given.
use Rattle.std.specs.Prelude.{ℕ, Bool, List, Result, Ok}
use Rattle.std.specs.Option.{IsSome}
use Rattle.cell_value.specs.declared.cell.Cell.{Cell}
use Rattle.cell_value.specs.declared.cell.Render.{Render}
use Rattle.cell_value.specs.declared.cell.Value.{Value}
use Rattle.grid_range.specs.declared.area.Area.{Area}
use Rattle.cell_calc.specs.Book.{Place}
use Rattle.cell_calc.specs.Calculated.{IsValueIn}
use Rattle.world_model.specs.Book.{PlaceBook}
use Rattle.world_model.specs.Sheet.{PlaceSheet}
use Rattle.world_model.specs.Sound.{IsSound, place_sheet_with}
use Rattle.dimension_ops.specs.declared.rule.Rule.{Rule}
use Rattle.values_api.specs.Ranges.{FoundArea, Resolves}
use Rattle.values_api.specs.Sheets.{stored_in}
use Rattle.values_api.specs.Shown.{IsAreaShown}
use Rattle.values_api.specs.Updates.{AreUpdated, cleared}

-- a range text names an area, or breaks a rule, and the area's sheet is there; each cell has a value; and a read shows
-- something of each area
pub record ReadsAnswered : Type 0 where
  pub resolves : (text : List ℕ) (book : PlaceBook)
      → ¬ ((answer : Result FoundArea Rule) → ¬ (Resolves text book answer))
  pub there : (text : List ℕ) (book : PlaceBook) (found : FoundArea) → IsSound book → Resolves text book (Ok found)
      → IsSome (place_sheet_with found.0.sheet book.sheets)
  pub valued : (book : PlaceBook) → IsSound book
      → ¬ ((values : Place → Value) → ¬ ((place : Place) → IsValueIn (stored_in book) place (values place)))
  pub shown : (book : PlaceBook) (area : Area) (columns_first : Bool) (render : Render) (sheet : PlaceSheet)
      → IsSound book → ¬ ((lines : List (List Cell)) → ¬ (IsAreaShown book area columns_first render sheet lines))

-- the cells of an area can be emptied whose sheet is there
abbrev pub AreasEmpty : Type 0
AreasEmpty = (book : PlaceBook) (area : Area) → IsSound book → IsSome (place_sheet_with area.sheet book.sheets)
    → (after : PlaceBook) × AreUpdated area.sheet (cleared area) book after
