-- What always holds of a spreadsheet: it has a visible sheet, no two sheets have one id or one title, a sheet has a
-- row and a column, its items stand in it, and each reference of a formula is to a sheet that is there, to lines
-- that this has, and of a form that A1 notation has. Each named range is on a sheet that is there, too, and of lines
-- that this has; so is the area of each protected range, and each range that it leaves unprotected. Each item of
-- metadata that lies on a sheet or a line lies on one that is there. The merges of a sheet lie in it, and none overlaps
-- another; the area of its filter lies in it, and each criterion is of one of its columns. The sheets and their places
-- are within the limits.
use Rattle.std.specs.Prelude.{◌≡◌, ◌≢◌, ◌<◌, ◌≤◌, ℕ, false, List, length, Option, ◌==◌, IsSomeAnd, IfSome, ⊤}
use Rattle.std.specs.List.{All, AllPairs, find, list_all}
use Rattle.std.specs.Option.{IsSome}
use Rattle.std.specs.Str.{str_eq_ignore_ascii_case}
use Rattle.basic_filter.specs.declared.types.Filter.{Filter}
use Rattle.cell_store.specs.Moved.{lines_on}
use Rattle.dev_metadata.specs.declared.types.Item.{Item}
use Rattle.dev_metadata.specs.declared.types.Spot.{Spot}
use Rattle.dev_metadata.specs.declared.types.Spot.TheVariants as spot
use Rattle.grid_range.specs.Area.{AreaWithin}
use Rattle.grid_range.specs.declared.area.Area.{Area}
use Rattle.grid_range.specs.declared.axis.Axis.{Axis}
use Rattle.grid_range.specs.declared.axis.Axis.TheVariants.{Rows, Columns}
use Rattle.grid_range.specs.declared.band.Band.{Band}
use Rattle.grid_range.specs.declared.band.Band.TheVariants.{Whole, Span}
use Rattle.cell_store.specs.Table.{HasItemsInside, item_at}
use Rattle.merge_ranges.specs.Merges.{AreMerges}
use Rattle.protection.specs.declared.range.Protection.{Protection}
use Rattle.ref_rewrite.specs.declared.cell_content.Content.{Content}
use Rattle.ref_rewrite.specs.declared.cell_content.Content.TheVariants as content
use Rattle.ref_rewrite.specs.declared.pieces.Piece.{Piece}
use Rattle.ref_rewrite.specs.declared.pieces.Piece.TheVariants as piece
use Rattle.world_model.specs.declared.limits.TheConstants.{MOST_COLUMNS, MOST_PLACES, MOST_ROWS, MOST_SHEETS}
use Rattle.world_model.specs.Book.{PlaceBook}
use Rattle.world_model.specs.Counts.{grid_places}
use Rattle.world_model.specs.Sheet.{PlaceSheet}

-- the sheet with the id
abbrev pub place_sheet_with : ℕ → List PlaceSheet → Option PlaceSheet
place_sheet_with id sheets = find (λ sheet. sheet.id == id) sheets

-- A1 notation has such an area: some columns, or some rows of all columns (Sheets API v4 guide, A1 notation)
abbrev pub HasNotation : Band → Band → Type 0
HasNotation rows (Span start end) = ⊤
HasNotation (Span start end) Whole = ⊤
HasNotation _ _ = ⊥

-- the area is on a sheet that is there, and both bands are within it
abbrev pub IsOnSheet : List PlaceSheet → Area → Type 0
IsOnSheet sheets area = IsSomeAnd (place_sheet_with area.sheet sheets)
    (λ sheet. AreaWithin area sheet.table.rows sheet.table.cols)

-- and A1 notation has it
abbrev pub IsAreaWithin : List PlaceSheet → Area → Type 0
IsAreaWithin sheets area = IsOnSheet sheets area × HasNotation area.rows area.cols

abbrev pub IsPieceWithin : List PlaceSheet → Piece → Type 0
IsPieceWithin sheets (piece.Ref reference) = IsAreaWithin sheets reference.area
IsPieceWithin sheets (piece.Text text) = ⊤
IsPieceWithin sheets (piece.Word word) = ⊤
IsPieceWithin sheets piece.Lost = ⊤

-- each reference is
abbrev pub IsContentWithin : List PlaceSheet → Content → Type 0
IsContentWithin sheets (content.Formula formula) = All (IsPieceWithin sheets) formula.pieces
IsContentWithin sheets (content.Number number) = ⊤
IsContentWithin sheets (content.Text text) = ⊤
IsContentWithin sheets (content.Truth truth) = ⊤

-- the protection's area is on a sheet that is there, and within it, and so is each range that it leaves unprotected
abbrev pub IsProtectionWithin : List PlaceSheet → Protection → Type 0
IsProtectionWithin sheets protection =
    IsOnSheet sheets protection.area × All (IsOnSheet sheets) protection.unprotected

-- the sheet is there, and so is the line
abbrev pub IsSpotWithin : List PlaceSheet → Spot → Type 0
IsSpotWithin sheets spot.Spreadsheet = ⊤
IsSpotWithin sheets (spot.Sheet id) = IsSome (place_sheet_with id sheets)
IsSpotWithin sheets (spot.Line id axis place) = IsSomeAnd (place_sheet_with id sheets)
    (λ sheet. place < lines_on axis sheet.table.rows sheet.table.cols)

-- the item lies on the spreadsheet, or on a sheet or a line that is there
abbrev pub IsItemWithin : List PlaceSheet → Item → Type 0
IsItemWithin sheets item = IsSpotWithin sheets item.spot

-- the sheet can have these merges: rectangles of more than one cell, none of which overlaps another, by first row, then
-- by first column; and each is of the sheet, and of lines that this has
abbrev pub AreMergesOf : PlaceSheet → List Area → Type 0
AreMergesOf sheet merges = AreMerges merges
    × All (λ merge. (merge.sheet ≡ sheet.id) × AreaWithin merge sheet.table.rows sheet.table.cols) merges

-- the sheet can have this filter: its area is of the sheet, and of lines that this has, and each criterion is of a
-- column of the sheet, in the area or not
pub record IsFilterOf (sheet : PlaceSheet) (filter : Filter) : Type 0 where
  pub own : filter.area.sheet ≡ sheet.id
  pub within : AreaWithin filter.area sheet.table.rows sheet.table.cols
  pub columns : All (λ criterion. criterion.column < sheet.table.cols) filter.criteria

-- how many rows, and how many columns, a sheet can have (Google Drive help, files you can store: a sheet's last
-- column is ZZZ; the bound on rows is this project's)
abbrev pub most_on : Axis → ℕ
most_on Rows = MOST_ROWS
most_on Columns = MOST_COLUMNS

-- a sheet can have as many lines on the axis
abbrev pub IsLineCount : Axis → ℕ → Type 0
IsLineCount axis lines = (0 < lines) × (lines ≤ most_on axis)

-- how many sheets a spreadsheet can have (Google Drive help, files you can store: 200)
abbrev pub most_sheets : ℕ
most_sheets = MOST_SHEETS

-- how many places its sheets can have together (Google Drive help, files you can store: 10 million cells)
abbrev pub most_places : ℕ
most_places = MOST_PLACES

-- the sheet has a title, a row and a column, each item stands in it, its references are within, and so are its merges
-- and its filter
pub record IsSheetSound (sheets : List PlaceSheet) (sheet : PlaceSheet) : Type 0 where
  pub titled : 0 < length sheet.title
  pub rows : IsLineCount Rows sheet.table.rows
  pub cols : IsLineCount Columns sheet.table.cols
  pub inside : HasItemsInside sheet.table
  pub within : (row col : ℕ) → IfSome (item_at sheet.table row col) (IsContentWithin sheets)
  pub merges : AreMergesOf sheet sheet.merges
  pub filter : IfSome sheet.filter (IsFilterOf sheet)

-- titles are one ignoring ASCII case
pub record IsSound (book : PlaceBook) : Type 0 where
  pub distinct : AllPairs (λ one other. one.id ≢ other.id) book.sheets
  pub titles : AllPairs (λ one other. str_eq_ignore_ascii_case one.title other.title ≡ false) book.sheets
  pub visible : list_all (λ sheet. sheet.hidden) book.sheets ≡ false
  pub sheets : All (IsSheetSound book.sheets) book.sheets
  pub few_sheets : length book.sheets ≤ most_sheets
  pub few_places : grid_places book.sheets ≤ most_places
  pub ranges : All (λ range. IsOnSheet book.sheets range.area) book.ranges
  pub protections : All (IsProtectionWithin book.sheets) book.protections
  pub metadata : All (IsItemWithin book.sheets) book.metadata
