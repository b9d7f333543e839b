-- What a user does on the cells of a range: they are shown, emptied or written, or values are appended to its table,
-- and what is told of it (Google Sheets API v4 reference, ValueRange, UpdateValuesResponse and AppendValuesResponse).
-- What touches a cell that a protected range denies the user is refused.
use Rattle.std.specs.Prelude.{◌≡◌, ℕ, Bool, true, false, List, [], ◌∷◌, length, Option, Some, None, unwrap_or, Result, Ok, Err}
use Rattle.std.specs.Prelude.{IsSomeAnd, MatchResult, option_map}
use Rattle.grid_range.specs.declared.area.Area.{Area}
use Rattle.grid_range.specs.declared.axis.Axis.{Axis}
use Rattle.grid_range.specs.declared.axis.Axis.TheVariants.{Rows, Columns}
use Rattle.cell_value.specs.declared.cell.Cell.{Cell}
use Rattle.cell_value.specs.declared.cell.Block.{Block}
use Rattle.cell_value.specs.declared.cell.Render.{Render}
use Rattle.cell_value.specs.declared.cell.Render.TheVariants.{Formatted}
use Rattle.world_model.specs.Book.{PlaceBook}
use Rattle.world_model.specs.BookChange.{BookChange}
use Rattle.world_model.specs.Sheet.{PlaceSheet}
use Rattle.world_model.specs.Sound.{place_sheet_with}
use Rattle.dimension_ops.specs.declared.rule.Rule.{Rule}
use Rattle.dimension_ops.specs.declared.rule.Rule.TheVariants as rule
use Rattle.values_api.specs.Appends.{IsAppend}
use Rattle.values_api.specs.Blocks.{contents_of}
use Rattle.values_api.specs.Denials.{AreaCells, IsUnlessDenied, IsWriteBy}
use Rattle.values_api.specs.Ranges.{FoundArea, Resolves, area_text}
use Rattle.values_api.specs.Shown.{IsAreaShown}
use Rattle.values_api.specs.Updates.{cleared}
use Rattle.values_api.specs.declared.writing.WrittenCells.{WrittenCells}
use Rattle.json_shapes.specs.Reading.{Reading}
use Rattle.sheets_json.specs.declared.answer.ShownRange.{ShownRange}
use Rattle.sheets_json.specs.declared.answer.Update.{Update as UpdateAnswer}
use Rattle.sheets_json.specs.declared.call.InsertData.{InsertData}
use Rattle.sheets_json.specs.declared.call.InsertData.TheVariants.{InsertRows}
use Rattle.sheets_json.specs.declared.call.RangeBlock.{RangeBlock}
use Rattle.sheets_json.specs.declared.call.ValueRange.{ValueRange}
use Rattle.json_shapes.specs.declared.fault.ShapeFault.{ShapeFault}
use Rattle.json_shapes.specs.declared.fault.ShapeFault.TheVariants as fault
use Rattle.request_kinds.specs.Telling.{cells_updated}
use Rattle.batch_engine.specs.Ranges.{IsTarget}

-- what is on the cells of a range is done there, or refused by the rule that the range breaks
pub data OnRange {A : Type 0} (Found : Result FoundArea Rule → Type 0) (sheets : List PlaceSheet)
    (IsDone : FoundArea → PlaceSheet → Result A Rule → Type 0) (told : Result A Rule) : Type 0 where
  done : (found : FoundArea) (sheet : PlaceSheet) → Found (Ok found)
      → place_sheet_with found.0.sheet sheets ≡ Some sheet → IsDone found sheet told → OnRange Found sheets IsDone told
  refused : (broken : Rule) → Found (Err broken) → told ≡ Err broken → OnRange Found sheets IsDone told

-- the rule that a shape breaks
abbrev pub rule_of : ShapeFault → Rule
rule_of fault.BadShape = rule.BadShape
rule_of fault.Unsupported = rule.Unsupported
rule_of fault.BadNumber = rule.BadNumber
rule_of fault.TextLong = rule.TextLong

-- ---- reads

abbrev pub is_columns : Axis → Bool
is_columns Rows = false
is_columns Columns = true

-- rows are listed, and cells are shown as texts, where nothing else is asked for
abbrev pub axis_or_rows : Option Axis → Axis
axis_or_rows dimension = unwrap_or dimension Rows

abbrev pub render_or_formatted : Option Render → Render
render_or_formatted render = unwrap_or render Formatted

-- the list, unless it is empty
abbrev pub unless_empty : {A : Type 0} → List A → Option (List A)
unless_empty [] = None
unless_empty (one ∷ others) = Some (one ∷ others)

abbrev pub shown_range : Axis → Area → PlaceSheet → List (List Cell) → ShownRange
shown_range axis area sheet lines = record {
  range = area_text sheet area;
  major_dimension = axis;
  values = unless_empty lines;
}

-- the cells are shown by their values, or as they were entered
pub record IsRead (book : PlaceBook) (dimension : Option Axis) (render : Option Render) (found : FoundArea)
    (sheet : PlaceSheet) (told : Result ShownRange Rule) : Type 0 where
  pub lines : List (List Cell)
  pub shown : IsAreaShown book found.0 (is_columns (axis_or_rows dimension)) (render_or_formatted render) sheet lines
  pub told_is : told ≡ Ok (shown_range (axis_or_rows dimension) found.0 sheet lines)

-- what a range shows
abbrev pub IsShown : Option Axis → Option Render → PlaceBook → List ℕ → Result ShownRange Rule → Type 0
IsShown dimension render book range = OnRange (Resolves range book) book.sheets (IsRead book dimension render)

-- ---- clears

abbrev pub clear : FoundArea → PlaceSheet → List ℕ × List BookChange
clear found sheet = (area_text sheet found.0, cells_updated found.0.sheet (cleared found.0))

-- each cell of the area is touched, also one that a merge covers
abbrev pub IsClear : List ℕ → PlaceBook → FoundArea → PlaceSheet → Result (List ℕ × List BookChange) Rule → Type 0
IsClear user book found sheet =
    IsUnlessDenied user book (AreaCells book.sheets found.0) (λ told. told ≡ Ok (clear found sheet))

-- the range as text, and its cells emptied by the user; a text whose shape is broken is no range
abbrev pub IsCleared : List ℕ → PlaceBook → Reading (List ℕ) → Result (List ℕ × List BookChange) Rule → Type 0
IsCleared user book (Ok range) told = OnRange (Resolves range book) book.sheets (IsClear user book) told
IsCleared user book (Err shape) told = told ≡ Err (rule_of shape)

-- ---- writes

abbrev pub update_of : PlaceBook → PlaceSheet → WrittenCells → UpdateAnswer
update_of book sheet counts = record {
  spreadsheet_id = book.id;
  updated_cells = counts.cells;
  updated_columns = length counts.cols;
  updated_range = area_text sheet counts.area;
  updated_rows = length counts.rows;
}

-- what a write did, as it is told, and as it is counted with others
abbrev pub Wrote : Type 0
Wrote = UpdateAnswer × WrittenCells

-- the user's values are written, or a rule is broken
pub record IsUpdate (user : List ℕ) (book : PlaceBook) (block : Block) (found : FoundArea) (sheet : PlaceSheet)
    (told : Result (Wrote × List BookChange) Rule) : Type 0 where
  pub after : PlaceBook
  pub wrote : Result WrittenCells Rule
  pub writes : IsWriteBy user found.1 found.0 block sheet book after wrote
  pub tells : MatchResult wrote
      (λ counts. told ≡ Ok (
        (update_of book sheet counts, counts),
        cells_updated found.0.sheet (contents_of writes.is.entries),
      ))
      (λ broken. told ≡ Err broken)

-- values for a range are written by the user; those whose shape is broken are refused whatever the range is
abbrev pub IsWritten : List ℕ → List ℕ → PlaceBook → Reading ValueRange → Result (Wrote × List BookChange) Rule → Type 0
IsWritten user range book (Ok values) told =
    OnRange (IsTarget range values.range book) book.sheets (IsUpdate user book values.block) told
IsWritten user range book (Err shape) told = told ≡ Err (rule_of shape)

-- and those that say their range
abbrev pub IsUpdated : List ℕ → PlaceBook → Reading RangeBlock → Result (Wrote × List BookChange) Rule → Type 0
IsUpdated user book (Ok values) told =
    OnRange (Resolves values.range book) book.sheets (IsUpdate user book values.block) told
IsUpdated user book (Err shape) told = told ≡ Err (rule_of shape)

-- ---- appends

-- rows are inserted for the values where that is asked for
abbrev pub inserts : Option InsertData → Bool
inserts (Some InsertRows) = true
inserts _ = false

-- what an append did, as it is told: the range of the table, if there was one, and what was written
abbrev pub Appended : Type 0
Appended = Option (List ℕ) × UpdateAnswer

abbrev pub appended_of : PlaceBook → PlaceSheet → Option Area × WrittenCells → Appended
appended_of book sheet (table, counts) = (option_map (area_text sheet) table, update_of book sheet counts)

-- the user's values are appended to the table of the area, or a rule is broken; it is told by the sheet as it is then
pub record IsAppendOn (user : List ℕ) (book : PlaceBook) (insert : Bool) (block : Block) (area : Area)
    (sheet : PlaceSheet) (told : Result (Appended × List BookChange) Rule) : Type 0 where
  pub after : PlaceBook
  pub appended : Result (Option Area × WrittenCells) Rule
  pub appends : IsAppend user insert area block sheet book after appended
  pub tells : MatchResult appended
      (λ made. (own : PlaceSheet) × (place_sheet_with area.sheet after.sheets ≡ Some own)
      × (told ≡ Ok (appended_of after own made, appends.changes)))
      (λ broken. told ≡ Err broken)

-- values for a range are appended by the user; those whose shape is broken are refused whatever the range is
abbrev pub IsAppended : List ℕ → List ℕ → Bool → PlaceBook → Reading ValueRange
    → Result (Appended × List BookChange) Rule → Type 0
IsAppended user range insert book (Ok values) told =
    OnRange (IsTarget range values.range book) book.sheets
    (λ found. IsAppendOn user book insert values.block found.0) told
IsAppended user range insert book (Err shape) told = told ≡ Err (rule_of shape)

-- ---- what the private functions hand to one another

-- the area, if there is one, as text
abbrev pub IsTextOf : Option Area → List PlaceSheet → Option (List ℕ) → Type 0
IsTextOf None sheets text = text ≡ None
IsTextOf (Some area) sheets text =
    IsSomeAnd (place_sheet_with area.sheet sheets) (λ sheet. text ≡ Some (area_text sheet area))
