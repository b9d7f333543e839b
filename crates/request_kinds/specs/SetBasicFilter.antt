-- setBasicFilter (Google Sheets API v4 reference, SetBasicFilterRequest): the sheet of the filter's range gets the
-- filter, in the place of the one that it has. No cell is touched. That the range is cut at the grid, and that each
-- criterion is of a column of the range as it is given, and of one that the sheet has, is this project's profile.
use Rattle.std.specs.Prelude.{Bool, false, ◌||◌, not, nat_le, List, [], ◌∷◌, Option, Some, Result}
use Rattle.std.specs.List.{list_any}
use Rattle.std.specs.Option.{option_map_or}
use Rattle.basic_filter.specs.declared.types.Filter.{Filter}
use Rattle.grid_range.specs.declared.area.Area.{Area}
use Rattle.merge_ranges.specs.Tests.{has_line}
use Rattle.world_model.specs.BookChange.{BookChange}
use Rattle.world_model.specs.Sheet.{PlaceSheet}
use Rattle.world_model.specs.Sound.{place_sheet_with}
use Rattle.dimension_ops.specs.Broken.{Broken, judged_by}
use Rattle.dimension_ops.specs.declared.rule.Rule.{Rule}
use Rattle.sheets_json.specs.declared.spreadsheet.Reply.{Reply}
use Rattle.sheets_json.specs.declared.spreadsheet.Reply.TheVariants as reply
use Rattle.request_kinds.specs.Rows.{begins_on, broken_by_area, cut_on, is_reversed}

-- some criterion is of a column that the range doesn't have
abbrev pub asks_outside : Filter → Bool
asks_outside filter = list_any (λ criterion. not (has_line filter.area.cols criterion.column)) filter.criteria

-- some criterion is of a column that the sheet doesn't have
abbrev pub asks_past : Filter → PlaceSheet → Bool
asks_past filter sheet = list_any (λ criterion. nat_le sheet.table.cols criterion.column) filter.criteria

-- the rules that the filter breaks, on the sheet that has the id of its range
abbrev pub broken_by_filter : Option PlaceSheet → Filter → Broken
broken_by_filter found filter = record (broken_by_area found filter.area) {
  bad_range = is_reversed filter.area.rows || is_reversed filter.area.cols || asks_outside filter;
  outside_grid = option_map_or (λ sheet. asks_past filter sheet || not (begins_on filter.area sheet)) found false;
}

-- what is told where the filter gets the range that is cut
abbrev pub put_on : Filter → Area → Reply × List BookChange
put_on filter area =
    (reply.Empty, BookChange.FilterSet filter.area.sheet (Some (record filter { area = area })) ∷ [])

abbrev pub basic_filter_set : Filter → List PlaceSheet → Result (Reply × List BookChange) Rule
basic_filter_set filter sheets =
    let found = place_sheet_with filter.area.sheet sheets in
    judged_by (broken_by_filter found filter) (put_on filter (cut_on found filter.area))
