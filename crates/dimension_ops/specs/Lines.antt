-- Which rules a change of the lines of a sheet breaks, and what it makes of sizes (InsertDimensionRequest,
-- DeleteDimensionRequest, MoveDimensionRequest and AppendDimensionRequest of the Google Sheets API v4 reference).
use Rattle.std.specs.Prelude.{◌≡◌, ◌≤◌, ◌*◌, ◌∷◌, [], ℕ, Bool, false, List, None, Result, IfSome, IsSomeAnd, OnErr, OnOk}
use Rattle.std.specs.Prelude.{◌==◌, ◌&&◌, nat_le, nat_lt, option_and_then, if◌then◌else◌}
use Rattle.std.specs.List.{list_any, sum_by}
use Rattle.std.specs.Option.{option_map, option_map_or}
use Rattle.basic_filter.specs.Following.{filter_followed}
use Rattle.grid_range.specs.Change.{Fits, count_after}
use Rattle.grid_range.specs.declared.axis.Axis.{Axis}
use Rattle.grid_range.specs.declared.axis.Axis.TheVariants.{Rows, Columns}
use Rattle.grid_range.specs.declared.change.Change.{Change}
use Rattle.grid_range.specs.declared.change.Change.TheVariants.{Insert, Delete, Move}
use Rattle.cell_store.specs.Moved.{GoesWithLines, lines_on, size_after}
use Rattle.merge_ranges.specs.Calls.{ListsJust}
use Rattle.merge_ranges.specs.Following.{CameFrom, KeepsAll}
use Rattle.merge_ranges.specs.Tests.{tears_merge}
use Rattle.world_model.specs.Book.{PlaceBook}
use Rattle.world_model.specs.BookChange.{BookChange, AreChanges}
use Rattle.world_model.specs.Laws.{size_of}
use Rattle.world_model.specs.PlaceChange.{BookChanged, FollowsInPlace}
use Rattle.world_model.specs.Sheet.{PlaceSheet}
use Rattle.world_model.specs.Sound.{IsLineCount, most_on, most_places, place_sheet_with}
use Rattle.dimension_ops.specs.Broken.{Broken, Passes, first_broken, first_passed, judged_by, unbroken}
use Rattle.dimension_ops.specs.References.{TearsNone}
use Rattle.dimension_ops.specs.declared.rule.Limit.{Limit}
use Rattle.dimension_ops.specs.declared.rule.Limit.TheVariants as limit
use Rattle.dimension_ops.specs.declared.rule.Rule.{Rule}

-- the lines of the sheet on the axis
abbrev pub lines_of_sheet : Axis → PlaceSheet → ℕ
lines_of_sheet axis sheet = lines_on axis sheet.table.rows sheet.table.cols

-- where there are `count` lines, each stays where it is: lines come behind the last one, or some are moved to where
-- they stand
abbrev pub keeps_places : Change → ℕ → Bool
keeps_places (Insert at inserted) count = at == count
keeps_places (Delete start end) count = false
keeps_places (Move start end to) count = nat_le start to && nat_le to end

-- the limit of the lines on the axis
abbrev pub limit_on : Axis → Limit
limit_on Rows = limit.Rows
limit_on Columns = limit.Columns

-- how many rows and columns the sheet has after the change of the lines of the one with the id
abbrev pub size_changed : ℕ → Axis → Change → PlaceSheet → ℕ × ℕ
size_changed id axis change sheet =
    if sheet.id == id then size_after axis change sheet.table.rows sheet.table.cols else size_of sheet

-- how many places all sheets have then
abbrev pub places_changed : ℕ → Axis → Change → List PlaceSheet → ℕ
places_changed id axis change sheets =
    sum_by (λ sheet. let size = size_changed id axis change sheet in size.0 * size.1) sheets

-- a sheet of that size, beside others with as many places in all, is past such limits
abbrev pub passes_size : ℕ × ℕ → ℕ → Passes
passes_size size places limit.Rows = nat_lt (most_on Rows) size.0
passes_size size places limit.Columns = nat_lt (most_on Columns) size.1
passes_size size places limit.Cells = nat_lt most_places places
passes_size size places _ = false

-- the rules that the change of the lines of the sheet with the id breaks; a move can tear its merges
abbrev pub lines_broken : ℕ → Axis → Change → List PlaceSheet → Broken
lines_broken id axis change sheets = option_map_or (λ sheet. record unbroken {
  last_line = count_after change (lines_of_sheet axis sheet) == 0;
  past_limit = first_passed (passes_size (size_after axis change sheet.table.rows sheet.table.cols)
      (places_changed id axis change sheets));
  merge_cut = list_any (tears_merge axis (lines_of_sheet axis sheet) change) sheet.merges;
}) (place_sheet_with id sheets) unbroken

-- the change breaks no rule where the sheet has `count` lines on the axis
pub record IsUnbroken (id : ℕ) (axis : Axis) (change : Change) (sheets : List PlaceSheet) (count : ℕ) : Type 0 where
  pub unbroken : first_broken (lines_broken id axis change sheets) ≡ None
  pub long : IsSomeAnd (place_sheet_with id sheets) (λ sheet. lines_of_sheet axis sheet ≡ count)
  pub fits : Fits change count
  pub room : IsLineCount axis (count_after change count)
  pub few : places_changed id axis change sheets ≤ most_places
  pub untorn : IfSome (place_sheet_with id sheets) (λ sheet. TearsNone axis count change sheet.merges)

-- each sheet has the size that the change gives it
abbrev pub HasSizesChanged : ℕ → Axis → Change → PlaceBook → PlaceBook → Type 0
HasSizesChanged id axis change before after = (other : ℕ)
    → option_map size_of (place_sheet_with other after.sheets)
    ≡ option_map (size_changed id axis change) (place_sheet_with other before.sheets)

-- the items of the sheet, which has `count` lines on the axis, went with its lines, its merges and its filter followed,
-- and all else of it is as it was
pub record SheetMoves (axis : Axis) (count : ℕ) (change : Change) (before after : PlaceSheet) : Type 0 where
  pub id : after.id ≡ before.id
  pub title : after.title ≡ before.title
  pub hidden : after.hidden ≡ before.hidden
  pub goes : GoesWithLines axis change before.table after.table
  pub whole : KeepsAll axis count change before.merges
  pub merges : ListsJust (CameFrom axis count change before.merges) after.merges
  pub filter : after.filter ≡ option_and_then (filter_followed axis count change) before.filter

-- each of its items followed in its place, and all else of it is as it was
pub record SheetFollows (changed : ℕ) (axis : Axis) (count : ℕ) (change : Change) (before after : PlaceSheet) : Type
    0 where
  pub id : after.id ≡ before.id
  pub title : after.title ≡ before.title
  pub hidden : after.hidden ≡ before.hidden
  pub followed : FollowsInPlace changed axis count change before.table after.table
  pub merges : after.merges ≡ before.merges
  pub filter : after.filter ≡ before.filter

-- the answer to a change of the lines of the sheet with the id: the first rule that it breaks, and then the spreadsheet
-- is as it was, or else the change, whatever lines are called, and by their places
pub record IsLinesAnswer (id : ℕ) (axis : Axis) (change : Change) (before after : PlaceBook)
    (answer : Result (Unit {0}) Rule) : Type 0 where
  pub judged : answer ≡ judged_by (lines_broken id axis change before.sheets) tt
  pub changed : OnOk answer (AreChanges (BookChange.LinesChanged id axis change ∷ []) before after)
  pub places : OnOk answer (IsSomeAnd (place_sheet_with id before.sheets)
      (λ sheet. BookChanged id axis (lines_of_sheet axis sheet) change before after))
  pub sizes : OnOk answer (HasSizesChanged id axis change before after)
  pub unchanged : OnErr answer (after ≡ before)
