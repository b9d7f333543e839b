-- mergeCells (Google Sheets API v4 reference, MergeCellsRequest and MergeType): all cells of an area become one, or
-- those of each of its columns or of its rows. The merges that the area holds whole are dissolved first, and only the
-- upper-left cell of those that become one keeps its content. Every cell of the area is touched. That the area is cut
-- at the grid, and how many merges there can be, is this project's profile.
use Rattle.std.specs.Prelude.{ℕ, ◌+◌, ◌∷◌, nat_lt, List, [], length, filter}
use Rattle.std.specs.Prelude.{Option, None, Some, IsSomeAnd, Result, if◌then◌else◌}
use Rattle.std.specs.Option.{option_map_or}
use Rattle.grid_range.specs.Area.{band_on, with_band}
use Rattle.grid_range.specs.Band.{end_line, first_line}
use Rattle.grid_range.specs.declared.area.Area.{Area}
use Rattle.grid_range.specs.declared.axis.Axis.{Axis}
use Rattle.grid_range.specs.declared.axis.Axis.TheVariants as axis
use Rattle.grid_range.specs.declared.band.Band.{Band}
use Rattle.grid_range.specs.declared.band.Band.TheVariants.{Span}
use Rattle.merge_ranges.specs.Calls.{IsLeftOrPart}
use Rattle.merge_ranges.specs.Merges.{is_covered}
use Rattle.merge_ranges.specs.Tests.{has_many_cells, has_many_lines, left_count, lines_of, past_line}
use Rattle.world_model.specs.Book.{PlaceBook}
use Rattle.world_model.specs.BookChange.{BookChange}
use Rattle.world_model.specs.Sheet.{PlaceSheet}
use Rattle.world_model.specs.Sound.{place_sheet_with}
use Rattle.world_model.specs.Updating.{Updates, no_updates}
use Rattle.dimension_ops.specs.declared.rule.Limit.{Limit}
use Rattle.dimension_ops.specs.declared.rule.Limit.TheVariants as limit
use Rattle.dimension_ops.specs.declared.rule.Rule.{Rule}
use Rattle.values_api.specs.Updates.{cleared}
use Rattle.json_requests.specs.declared.request.MergeType.{MergeType}
use Rattle.json_requests.specs.declared.request.MergeType.TheVariants as merge
use Rattle.sheets_json.specs.declared.spreadsheet.Reply.{Reply}
use Rattle.request_kinds.specs.Telling.{cells_updated}
use Rattle.request_kinds.specs.Merging.{AreMergesAsked}
use Rattle.request_kinds.specs.Rows.{OnArea, area_or_broken}

-- the band's lines, as they stand among `count`
abbrev pub with_ends : ℕ → Band → Band
with_ends count band = Span (first_line band) (end_line band count)

-- the area's rows and columns, as they stand on the sheet
abbrev pub rectangle_on : PlaceSheet → Area → Area
rectangle_on sheet area =
    record area { rows = with_ends sheet.table.rows area.rows; cols = with_ends sheet.table.cols area.cols }

-- ---- the merges

-- the parts of the area each of which becomes one merge: all of it, or each of its columns or of its rows; a part of
-- one cell becomes none
abbrev pub parts_of : MergeType → Area → List Area
parts_of merge.All area = filter has_many_cells (area ∷ [])
parts_of merge.Columns area = lines_of axis.Columns area
parts_of merge.Rows area = lines_of axis.Rows area

-- the merges of a sheet that the area doesn't hold whole are left, and each part is one from then on
abbrev pub IsMergeAfter : MergeType → Area → List Area → Area → Type 0
IsMergeAfter type area merges = IsLeftOrPart area merges (parts_of type area)

-- the most merges that a sheet can have
abbrev pub most_merges : ℕ
most_merges = 10000

-- the limit on them, where the sheet would have more
abbrev pub merges_passed : MergeType → Area → PlaceSheet → Option Limit
merges_passed type area sheet =
    if nat_lt most_merges (left_count area sheet.merges + length (parts_of type area)) then Some limit.Merges else None

-- ---- the cells

-- of the cells of a part only the upper-left one keeps its content: those that the part covers are emptied
abbrev pub covered_cleared : MergeType → Area → Updates
covered_cleared type area row col = if is_covered (parts_of type area) row col then Some None else None

abbrev pub covered_emptied : MergeType → Area → List BookChange
covered_emptied type area = cells_updated area.sheet (covered_cleared type area)

-- ---- mergeCells

-- the cells of the area, whose bands have both ends, are merged
abbrev pub AreCellsMerged : MergeType → Area → PlaceSheet → Result (Reply × List BookChange) Rule → Type 0
AreCellsMerged type area sheet =
    AreMergesAsked area (merges_passed type area sheet) (IsMergeAfter type area) (covered_emptied type area) sheet

-- those of the area on its sheet
abbrev pub AreMergedOn : MergeType → PlaceBook → Area → Result (Reply × List BookChange) Rule → Type 0
AreMergedOn type book area told = IsSomeAnd (place_sheet_with area.sheet book.sheets)
    (λ sheet. AreCellsMerged type (rectangle_on sheet area) sheet told)

abbrev pub IsMergeCells : Area → MergeType → PlaceBook → Result (Reply × List BookChange) Rule → Type 0
IsMergeCells range type book = OnArea (area_or_broken book.sheets range) (AreMergedOn type book)

-- ---- what the private functions hand to one another

-- the area's lines on the axis behind its first one, if there are more
abbrev pub behind_first : Axis → Area → Option Area
behind_first on area =
    let band = band_on on area in
    if has_many_lines band then Some (with_band on area (Span (first_line band + 1) (past_line band))) else None

-- they are emptied
abbrev pub behind_cleared : Axis → Area → Updates
behind_cleared on area = option_map_or cleared (behind_first on area) no_updates
