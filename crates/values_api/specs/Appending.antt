-- An append of values, as the program goes about it: it is judged before anything is changed, then lines are added on
-- one axis after the other.
use Rattle.std.specs.Prelude.{◌≡◌, ◌<◌, ◌≤◌, ℕ, Bool, ◌+◌, List, None, Some, Result, MatchResult, IsSomeAnd}
use Rattle.std.specs.List.{AllZip}
use Rattle.cell_value.specs.declared.cell.Block.{Block}
use Rattle.grid_range.specs.declared.area.Area.{Area}
use Rattle.grid_range.specs.declared.axis.Axis.{Axis}
use Rattle.grid_range.specs.declared.axis.Axis.TheVariants.{Rows, Columns}
use Rattle.grid_range.specs.declared.change.Change.TheVariants.{Insert}
use Rattle.world_model.specs.Book.{PlaceBook}
use Rattle.world_model.specs.BookChange.{AreChanges}
use Rattle.world_model.specs.Laws.{size_of}
use Rattle.world_model.specs.Sheet.{PlaceSheet}
use Rattle.world_model.specs.Sound.{most_on, most_places, place_sheet_with}
use Rattle.dimension_ops.specs.Lines.{lines_of_sheet, places_changed, size_changed}
use Rattle.dimension_ops.specs.declared.rule.Limit.{Limit}
use Rattle.dimension_ops.specs.declared.rule.Rule.{Rule}
use Rattle.dimension_ops.specs.declared.rule.Rule.TheVariants.{PastLimit}
use Rattle.values_api.specs.declared.appending.Added.{Added}
use Rattle.values_api.specs.declared.appending.Plan.{Plan}
use Rattle.values_api.specs.Appends.{added_on, changes_of, limit_passed, lines_added, places_added, size_added, start_of}
use Rattle.values_api.specs.Tables.{IsTableIn}

-- the cell is one of the sheet's columns, and of its rows or the one behind them
pub record StartsInside (start : ℕ × ℕ) (sheet : PlaceSheet) : Type 0 where
  pub row : start.0 ≤ sheet.table.rows
  pub col : start.1 < sheet.table.cols

-- where the values begin, behind which table, and what lines are added; or the limit that these pass
pub record IsPlanOf (insert : Bool) (area : Area) (block : Block) (sheet : PlaceSheet) (plan : Plan) : Type 0 where
  pub found : IsTableIn area sheet.table plan.table
  pub start : plan.start ≡ start_of plan.table area
  pub inside : StartsInside plan.start sheet
  pub added : plan.added ≡ lines_added insert plan.start block sheet

pub record IsPlan (insert : Bool) (area : Area) (block : Block) (sheet : PlaceSheet) (sheets : List PlaceSheet)
    (answer : Result Plan Rule) : Type 0 where
  pub plan : Plan
  pub is : IsPlanOf insert area block sheet plan
  pub judged : MatchResult answer
      (λ made. (made ≡ plan) × (limit_passed plan.added sheet sheets ≡ None))
      (λ rule. (limit : Limit) × (limit_passed plan.added sheet sheets ≡ Some limit) × (rule ≡ PastLimit limit))

-- so many lines can be inserted on the axis of the sheet with the id, whose size is within the limits
pub record IsRoom (id : ℕ) (axis : Axis) (at count : ℕ) (sheets : List PlaceSheet) : Type 0 where
  pub own : PlaceSheet
  pub there : place_sheet_with id sheets ≡ Some own
  pub begins : at ≤ lines_of_sheet axis own
  pub lines : lines_of_sheet axis own + count ≤ most_on axis
  pub rows : own.table.rows ≤ most_on Rows
  pub cols : own.table.cols ≤ most_on Columns
  pub places : places_changed id axis (Insert at count) sheets ≤ most_places

-- the rows can be inserted, and with them the columns
pub record CanAdd (id : ℕ) (added : Added) (own : PlaceSheet) (sheets : List PlaceSheet) : Type 0 where
  pub row : added.row ≤ own.table.rows
  pub col : added.col ≤ own.table.cols
  pub rows : own.table.rows + added.rows ≤ most_on Rows
  pub cols : own.table.cols + added.cols ≤ most_on Columns
  pub places : places_added id added sheets ≤ most_places

-- each sheet has its size after that
abbrev pub HasSizeAdded : ℕ → Axis → ℕ → ℕ → PlaceSheet → PlaceSheet → Type 0
HasSizeAdded id axis at count before after =
    (after.id ≡ before.id) × (size_of after ≡ size_changed id axis (Insert at count) before)

-- they are inserted, and may be none
pub record IsAddedOn (id : ℕ) (axis : Axis) (at count : ℕ) (before after : PlaceBook) : Type 0 where
  pub changes : AreChanges (added_on id axis at count) before after
  pub sizes : AllZip (HasSizeAdded id axis at count) before.sheets after.sheets

-- the lines are added on both axes
pub record AreAdded (id : ℕ) (added : Added) (sheet : PlaceSheet) (before after : PlaceBook) : Type 0 where
  pub changes : AreChanges (changes_of id added) before after
  pub size : IsSomeAnd (place_sheet_with id after.sheets) (λ own. size_of own ≡ size_added added sheet)
