-- What a spreadsheet becomes when lines of a sheet are inserted, deleted or moved, by the names of lines:
-- insertDimension, deleteDimension and moveDimension of the Google Sheets API v4. Cells keep their names, and the
-- cells of lines that went are gone; each reference to the sheet, each named range, each protected range and each item
-- of metadata of it, each of its merges and its basic filter follows its lines.
use Rattle.std.specs.Prelude.{ℕ, Bool, false, List, length, map, not, Option, None, Some, option_and_then, nat_lt, ◌==◌, ◌&&◌, ◌||◌, if◌then◌else◌}
use Rattle.std.specs.List.{filter_map}
use Rattle.std.specs.Option.{option_map, option_map_or}
use Rattle.dev_metadata.specs.Following.{is_changed}
use Rattle.grid_range.specs.Following.{follow}
use Rattle.grid_range.specs.NameBand.{NameBand}
use Rattle.grid_range.specs.Order.{is_among}
use Rattle.grid_range.specs.OrderChange.{OrderChange, order_after, changed_names}
use Rattle.grid_range.specs.declared.axis.Axis.{Axis}
use Rattle.grid_range.specs.declared.axis.Axis.TheVariants.{Rows, Columns}
use Rattle.world_model.specs.Area.{NameArea, name_band_on, with_name_band}
use Rattle.world_model.specs.Book.{NameBook, orders_of}
use Rattle.world_model.specs.Content.{NameRef, NamePiece, NameContent}
use Rattle.world_model.specs.Filters.{NameCriterion, NameFilter}
use Rattle.world_model.specs.Metadata.{NameItem, NameSpot}
use Rattle.world_model.specs.Protections.{NameProtection}
use Rattle.world_model.specs.Ranges.{NameRange}
use Rattle.world_model.specs.Sheet.{NameSheet}

-- the lines of a sheet on an axis in their order after a change, and those that it inserted or moved
pub record LineChange : Type 0 where
  pub sheet : ℕ
  pub axis : Axis
  pub order : List ℕ
  pub changed : List ℕ

-- an area of the sheet is followed by its lines on the axis, and lost with them; another stays
abbrev pub name_area_followed : LineChange → NameArea → Option NameArea
name_area_followed to area =
    if area.sheet == to.sheet
    then option_map (with_name_band to.axis area) (follow to.order to.changed (name_band_on to.axis area))
    else Some area

-- a reference follows with its area; without it, it is lost for good
abbrev pub reference_followed : LineChange → NameRef → NamePiece
reference_followed to reference =
    option_map_or (λ area. NamePiece.Ref (record reference { area = area }))
    (name_area_followed to reference.area) NamePiece.Lost

abbrev pub name_piece_followed : LineChange → NamePiece → NamePiece
name_piece_followed to (NamePiece.Text text) = NamePiece.Text text
name_piece_followed to (NamePiece.Word word) = NamePiece.Word word
name_piece_followed to (NamePiece.Ref reference) = reference_followed to reference
name_piece_followed to NamePiece.Lost = NamePiece.Lost

-- the references of a formula follow, and all else stays
abbrev pub name_content_followed : LineChange → NameContent → NameContent
name_content_followed to (NameContent.Number number) = NameContent.Number number
name_content_followed to (NameContent.Text text) = NameContent.Text text
name_content_followed to (NameContent.Truth truth) = NameContent.Truth truth
name_content_followed to (NameContent.Formula pieces) = NameContent.Formula (map (name_piece_followed to) pieces)

-- a range follows with its area, and goes with it; its id and its name stay
abbrev pub name_range_followed : LineChange → NameRange → Option NameRange
name_range_followed to range = option_map (λ area. record range { area = area }) (name_area_followed to range.area)

-- a protection follows with its area, and goes with it; its open areas follow, too, and those that are lost go
abbrev pub name_protection_followed : LineChange → NameProtection → Option NameProtection
name_protection_followed to protection =
    option_map
    (λ area. record protection {
      area = area;
      unprotected = filter_map (name_area_followed to) protection.unprotected;
    })
    (name_area_followed to protection.area)

-- a location on a line stays there while the sheet has the line, and is lost with it
abbrev pub name_spot_followed : LineChange → NameSpot → Option NameSpot
name_spot_followed to NameSpot.Spreadsheet = Some NameSpot.Spreadsheet
name_spot_followed to (NameSpot.Sheet sheet) = Some (NameSpot.Sheet sheet)
name_spot_followed to (NameSpot.Line sheet axis line) =
    if is_changed to.sheet to.axis sheet axis && not (is_among to.order line) then None
    else Some (NameSpot.Line sheet axis line)

-- an item follows with its location, and goes with it
abbrev pub name_item_followed : LineChange → NameItem → Option NameItem
name_item_followed to item = option_map (λ spot. record item { spot = spot }) (name_spot_followed to item.spot)

-- the band is one of more than one line side by side
abbrev pub has_many_names : NameBand → Bool
has_many_names (NameBand.Closed names) = nat_lt 1 (length names)
has_many_names NameBand.Whole = false
has_many_names (NameBand.Open names) = false

-- a merge follows as any area does, and goes where it is lost, or where one cell of it is left
abbrev pub name_merge_followed : LineChange → NameArea → Option NameArea
name_merge_followed to merge =
    option_and_then (λ area. if has_many_names area.rows || has_many_names area.cols then Some area else None)
    (name_area_followed to merge)

-- a criterion stays with its column while the sheet has that, and goes with it
abbrev pub name_criterion_followed : LineChange → ℕ → NameCriterion → Option NameCriterion
name_criterion_followed to sheet criterion =
    if is_changed to.sheet to.axis sheet Columns && not (is_among to.order criterion.column) then None
    else Some criterion

-- a filter follows with its area, and is lost with it
abbrev pub name_filter_followed : LineChange → NameFilter → Option NameFilter
name_filter_followed to filter =
    option_map
    (λ area. record {
      area = area;
      criteria = filter_map (name_criterion_followed to filter.area.sheet) filter.criteria;
    })
    (name_area_followed to filter.area)

-- the sheet with other lines on the axis
abbrev pub with_lines : Axis → List ℕ → NameSheet → NameSheet
with_lines Rows order sheet = record sheet { rows = order }
with_lines Columns order sheet = record sheet { cols = order }

-- each cell of the lines that the sheet has keeps what it holds, which follows
abbrev pub cells_followed : LineChange → NameSheet → ℕ → ℕ → Option NameContent
cells_followed to sheet row col =
    if is_among sheet.rows row && is_among sheet.cols col
    then option_map (name_content_followed to) (sheet.cells row col)
    else None

-- its cells follow, and so do its merges and its filter
abbrev pub with_all_followed : LineChange → NameSheet → NameSheet
with_all_followed to sheet = record sheet {
  cells = cells_followed to sheet;
  merges = filter_map (name_merge_followed to) sheet.merges;
  filter = option_and_then (name_filter_followed to) sheet.filter;
}

-- the sheet that is changed has the new order, and the cells, merges and filters of all sheets follow
abbrev pub sheet_followed : LineChange → NameSheet → NameSheet
sheet_followed to sheet =
    with_all_followed to (if sheet.id == to.sheet then with_lines to.axis to.order sheet else sheet)

-- the change of the order of a sheet's lines on an axis
abbrev pub line_change : List NameSheet → ℕ → Axis → OrderChange → LineChange
line_change sheets id axis change =
    let order = orders_of sheets id axis in
    record { sheet = id; axis = axis; order = order_after change order; changed = changed_names change order }

-- the spreadsheet after the change: its sheets follow, and so do its ranges, its protections and its metadata
abbrev pub book_changed : ℕ → Axis → OrderChange → NameBook → NameBook
book_changed id axis change book =
    let to = line_change book.sheets id axis change in
    record book {
      sheets = map (sheet_followed to) book.sheets;
      ranges = filter_map (name_range_followed to) book.ranges;
      protections = filter_map (name_protection_followed to) book.protections;
      metadata = filter_map (name_item_followed to) book.metadata;
    }
