-- insertDimension, deleteDimension, appendDimension and moveDimension (Google Sheets API v4 reference,
-- InsertDimensionRequest, DeleteDimensionRequest, AppendDimensionRequest and MoveDimensionRequest). Every cell of lines
-- that are deleted or moved is touched, and no other one.
use Rattle.std.specs.Prelude.{◌≡◌, ℕ, Bool, false, ◌-◌, ◌==◌, ◌&&◌, ◌||◌, nat_le, nat_lt, List, [], ◌∷◌, unwrap_or}
use Rattle.std.specs.Prelude.{Result, Err, if◌then◌else◌}
use Rattle.std.specs.Option.{is_none, option_map_or}
use Rattle.grid_range.specs.Area.{with_band}
use Rattle.grid_range.specs.declared.area.Area.{Area}
use Rattle.grid_range.specs.declared.axis.Axis.{Axis}
use Rattle.grid_range.specs.declared.band.Band.TheVariants.{Whole, Span}
use Rattle.grid_range.specs.declared.change.Change.{Change}
use Rattle.grid_range.specs.declared.change.Change.TheVariants.{Insert, Delete, Move}
use Rattle.protection.specs.Denial.{Cells}
use Rattle.world_model.specs.BookChange.{BookChange}
use Rattle.world_model.specs.Sheet.{PlaceSheet}
use Rattle.world_model.specs.Sound.{place_sheet_with}
use Rattle.dimension_ops.specs.Broken.{Broken, first_broken, judged_by, unbroken}
use Rattle.dimension_ops.specs.Lines.{keeps_places, lines_broken, lines_of_sheet}
use Rattle.dimension_ops.specs.declared.rule.Rule.{Rule}
use Rattle.values_api.specs.Denials.{AreaCells}
use Rattle.json_requests.specs.declared.request.DimensionRange.{DimensionRange}
use Rattle.sheets_json.specs.declared.spreadsheet.Reply.{Reply}
use Rattle.sheets_json.specs.declared.spreadsheet.Reply.TheVariants as reply

-- how many lines the sheet with the id has on the axis; none where it isn't there
abbrev pub lines_there : ℕ → Axis → List PlaceSheet → ℕ
lines_there sheet axis sheets = option_map_or (lines_of_sheet axis) (place_sheet_with sheet sheets) 0

-- the line behind the last one of a range; without it the range goes to the sheet's end
abbrev pub end_of : DimensionRange → List PlaceSheet → ℕ
end_of range sheets = unwrap_or range.end_index (lines_there range.sheet_id range.dimension sheets)

-- the sheet isn't there, a start isn't below its end, a line isn't there, or there is none to inherit from
abbrev pub broken_before : ℕ → Bool → Bool → Bool → List PlaceSheet → Broken
broken_before sheet reversed outside at_zero sheets = record unbroken {
  no_sheet = is_none (place_sheet_with sheet sheets);
  bad_range = reversed;
  outside_grid = outside;
  inherit_at_zero = at_zero;
}

-- what is told of a change of lines: the rule that it breaks by these, or else by what it makes of the sheet
abbrev pub lines_told : Broken → ℕ → Axis → Change → List PlaceSheet → Result (Reply × List BookChange) Rule
lines_told broken sheet axis change sheets = option_map_or Err (first_broken broken)
    (judged_by (lines_broken sheet axis change sheets) (reply.Empty, BookChange.LinesChanged sheet axis change ∷ []))

-- all cells of the sheet
abbrev pub whole_sheet : ℕ → Area
whole_sheet sheet = record { sheet = sheet; rows = Whole; cols = Whole }

-- the lines of a range
abbrev pub lines_area : DimensionRange → List PlaceSheet → Area
lines_area range sheets =
    with_band range.dimension (whole_sheet range.sheet_id) (Span range.start_index (end_of range sheets))

-- ---- insertDimension

-- lines may be inserted behind the last one only where they are to be like it
abbrev pub insert_broken : DimensionRange → Bool → List PlaceSheet → Broken
insert_broken range inherits sheets =
    let lines = lines_there range.sheet_id range.dimension sheets in
    broken_before range.sheet_id (nat_le (end_of range sheets) range.start_index)
    (if inherits then nat_lt lines range.start_index else nat_le lines range.start_index)
    (inherits && range.start_index == 0) sheets

abbrev pub insertion : DimensionRange → List PlaceSheet → Change
insertion range sheets = Insert range.start_index (end_of range sheets - range.start_index)

abbrev pub dimension_inserted : DimensionRange → Bool → List PlaceSheet → Result (Reply × List BookChange) Rule
dimension_inserted range inherits sheets =
    lines_told (insert_broken range inherits sheets) range.sheet_id range.dimension (insertion range sheets) sheets

-- ---- deleteDimension

abbrev pub delete_broken : DimensionRange → List PlaceSheet → Broken
delete_broken range sheets =
    let end = end_of range sheets in
    broken_before range.sheet_id (nat_le end range.start_index)
    (nat_lt (lines_there range.sheet_id range.dimension sheets) end) false sheets

abbrev pub dimension_deleted : DimensionRange → List PlaceSheet → Result (Reply × List BookChange) Rule
dimension_deleted range sheets =
    lines_told (delete_broken range sheets) range.sheet_id range.dimension
    (Delete range.start_index (end_of range sheets)) sheets

abbrev pub DeletedCells : DimensionRange → List PlaceSheet → Cells
DeletedCells range sheets = AreaCells sheets (lines_area range sheets)

-- ---- moveDimension

-- the destination is counted before the lines are taken away, and may be behind the last line
abbrev pub move_broken : DimensionRange → ℕ → List PlaceSheet → Broken
move_broken range to sheets =
    let end = end_of range sheets in
    let lines = lines_there range.sheet_id range.dimension sheets in
    broken_before range.sheet_id (nat_le end range.start_index) (nat_lt lines end || nat_lt lines to)
    false sheets

abbrev pub dimension_moved : DimensionRange → ℕ → List PlaceSheet → Result (Reply × List BookChange) Rule
dimension_moved range to sheets =
    lines_told (move_broken range to sheets) range.sheet_id range.dimension
    (Move range.start_index (end_of range sheets) to) sheets

-- a destination from the range's start to its end leaves the lines where they are: then none is touched
abbrev pub MovedCells : DimensionRange → ℕ → List PlaceSheet → Cells
MovedCells range to sheets id row col =
    (keeps_places (Move range.start_index (end_of range sheets) to)
    (lines_there range.sheet_id range.dimension sheets) ≡ false)
    × AreaCells sheets (lines_area range sheets) id row col

-- ---- appendDimension

abbrev pub append_broken : ℕ → ℕ → List PlaceSheet → Broken
append_broken sheet length sheets =
    broken_before sheet (length == 0) false false sheets

abbrev pub dimension_appended : ℕ → Axis → ℕ → List PlaceSheet → Result (Reply × List BookChange) Rule
dimension_appended sheet axis length sheets =
    lines_told (append_broken sheet length sheets) sheet axis (Insert (lines_there sheet axis sheets) length) sheets
