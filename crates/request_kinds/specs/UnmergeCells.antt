-- unmergeCells (Google Sheets API v4 reference, UnmergeCellsRequest): the merges in an area are dissolved. Every cell
-- of the area is touched. That the area is cut at the grid is this project's profile.
use Rattle.std.specs.Prelude.{List, [], None, IsSomeAnd, Result}
use Rattle.grid_range.specs.declared.area.Area.{Area}
use Rattle.merge_ranges.specs.Calls.{IsLeft}
use Rattle.world_model.specs.Book.{PlaceBook}
use Rattle.world_model.specs.BookChange.{BookChange}
use Rattle.world_model.specs.Sound.{place_sheet_with}
use Rattle.dimension_ops.specs.declared.rule.Rule.{Rule}
use Rattle.sheets_json.specs.declared.spreadsheet.Reply.{Reply}
use Rattle.request_kinds.specs.Merging.{AreMergesAsked}
use Rattle.request_kinds.specs.Rows.{OnArea, area_or_broken}

-- the merges that the area doesn't hold whole are left
abbrev pub AreUnmergedOn : PlaceBook → Area → Result (Reply × List BookChange) Rule → Type 0
AreUnmergedOn book area told = IsSomeAnd (place_sheet_with area.sheet book.sheets)
    (λ sheet. AreMergesAsked area None (IsLeft area) [] sheet told)

abbrev pub IsUnmergeCells : Area → PlaceBook → Result (Reply × List BookChange) Rule → Type 0
IsUnmergeCells range book = OnArea (area_or_broken book.sheets range) (AreUnmergedOn book)
