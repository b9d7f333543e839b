-- A write of values, as the program goes over them: line by line, as far as the ends.
use Rattle.std.specs.Prelude.{◌≡◌, ◌≢◌, ◌<◌, ◌≤◌, ◌⊎◌, ◌↔◌, ◌+◌, ◌-◌, ℕ, nat_le, ◌==◌, Bool, false, ◌&&◌, not}
use Rattle.std.specs.Prelude.{List, [], length, get_or, Contains, slice_index_or, if◌then◌else◌}
use Rattle.std.specs.Prelude.{Option, None, Some, Result, MatchResult, IfSome, IsSomeAnd}
use Rattle.std.specs.List.{AllPairs, list_any}
use Rattle.std.specs.Option.{IsSome, is_some}
use Rattle.cell_value.specs.declared.entered.Input.{Input}
use Rattle.formula_reader.specs.declared.fault.FormulaFault.{FormulaFault}
use Rattle.grid_range.specs.Area.{cut_area}
use Rattle.grid_range.specs.Band.{first_line}
use Rattle.grid_range.specs.declared.area.Area.{Area}
use Rattle.grid_range.specs.declared.axis.Axis.{Axis}
use Rattle.grid_range.specs.declared.axis.Axis.TheVariants.{Rows, Columns}
use Rattle.merge_ranges.specs.Lines.{LineAsked, covered_of, covered_places, places_in}
use Rattle.merge_ranges.specs.Merges.{is_covered}
use Rattle.ref_rewrite.specs.declared.cell_content.Content.{Content}
use Rattle.world_model.specs.Book.{PlaceBook}
use Rattle.world_model.specs.Sheet.{PlaceSheet}
use Rattle.world_model.specs.Sound.{most_on, place_sheet_with}
use Rattle.dimension_ops.specs.Rules.{IsUnlessNoMemory}
use Rattle.dimension_ops.specs.declared.rule.Rule.{Rule}
use Rattle.dimension_ops.specs.declared.rule.RuleOr.{RuleOr}
use Rattle.values_api.specs.declared.given.Given.{Given}
use Rattle.values_api.specs.declared.writing.WrittenCells.{WrittenCells}
use Rattle.values_api.specs.Blocks.{area_written, rows_needed, cols_needed, input_at, given_value, lies_in}
use Rattle.values_api.specs.Blocks.{Entry, rank, AreCells, AreEntries, IsFirstPassed, contents_of}
use Rattle.values_api.specs.Blocks.{broken_by_write, IsWritten}
use Rattle.values_api.specs.Sheets.{formula_sheets}
use Rattle.values_api.specs.Shown.{cell_along}
use Rattle.values_api.specs.Updates.{AreUpdated}

-- the corner, and how far it is to the ends
abbrev pub first_row : Given → ℕ
first_row given = first_line given.area.now.rows

abbrev pub first_col : Given → ℕ
first_col given = first_line given.area.now.cols

-- the corner stands before the ends, which a sheet can have
pub record HasRoom (given : Given) : Type 0 where
  pub row : first_row given < given.end_row
  pub col : first_col given < given.end_col
  pub rows : given.end_row ≤ most_on Rows
  pub cols : given.end_col ≤ most_on Columns

-- the ends are within the area's sheet
abbrev pub IsWithinSheet : List PlaceSheet → Given → Type 0
IsWithinSheet sheets given = IsSomeAnd (place_sheet_with given.area.now.sheet sheets)
    (λ sheet. (given.end_row ≤ sheet.table.rows) × (given.end_col ≤ sheet.table.cols))

-- the value that is for a place, whether a merge covers it or not
abbrev pub value_by : Given → ℕ → ℕ → Option Input
value_by given row col =
    if lies_in (first_row given) given.end_row row && lies_in (first_col given) given.end_col col
    then given_value (input_at given.block.now (row - first_row given) (col - first_col given))
    else None

-- the value that is written to a place: none where a merge covers it
abbrev pub value_uncovered : List Area → Given → ℕ → ℕ → Option Input
value_uncovered merges given row col = if is_covered merges row col then None else value_by given row col

-- the cell is listed
abbrev pub is_listed : List (ℕ × ℕ) → ℕ → ℕ → Bool
is_listed cells row col = list_any (λ cell. row == cell.0 && col == cell.1) cells

-- the value that is for a place of a list
abbrev pub value_listed : List (ℕ × ℕ) → Given → ℕ → ℕ → Option Input
value_listed cells given row col = if is_listed cells row col then value_by given row col else None

-- for each of the cells there is a value, and none is listed twice
abbrev pub AreGiven : Given → List (ℕ × ℕ) → Type 0
AreGiven given cells = AreCells (value_listed cells given) cells

abbrev pub fits_by : Given → Bool
fits_by given =
    nat_le (first_row given + rows_needed given.block.now) given.end_row
    && nat_le (first_col given + cols_needed given.block.now) given.end_col

-- so many rows and columns as lines and places in them, or the other way round
abbrev pub turned : Given → ℕ → ℕ → ℕ × ℕ
turned given = cell_along given.block.now.columns_first (λ line place. (line, place))

-- the lines are rows or columns
abbrev pub axis_of : Given → Axis
axis_of given = if given.block.now.columns_first then Columns else Rows

-- the first line, and the first place in a line
abbrev pub corner : Given → ℕ × ℕ
corner given = turned given (first_row given) (first_col given)

-- how many lines there are as far as the ends, and how many places in each
abbrev pub room : Given → ℕ × ℕ
room given = turned given (given.end_row - first_row given) (given.end_col - first_col given)

-- the cell of the value at a place of a line
abbrev pub cell_for : Given → ℕ → ℕ → ℕ × ℕ
cell_for given line place =
    (first_row given + (turned given line place).0, first_col given + (turned given line place).1)

-- the values of a line
abbrev pub line_given : Given → ℕ → List Input
line_given given line = get_or given.block.now.values line []

-- a place of a line is before another, line by line
abbrev pub IsBefore : ℕ → ℕ → ℕ × ℕ → Type 0
IsBefore line place other = (other.0 < line) ⊎ ((other.0 ≡ line) × (other.1 < place))

-- the cells that are written or emptied by the values before a place of a line
pub record AreGivenBefore (merges : List Area) (given : Given) (line place : ℕ) (cells : List (ℕ × ℕ)) : Type 0 where
  pub exactly : (row col : ℕ) → Contains cells (row, col)
      ↔ (IsSome (value_uncovered merges given row col)
      × IsBefore line place (turned given (row - first_row given) (col - first_col given)))
  pub once : AllPairs (λ one other. one ≢ other) cells

-- a value is written or empties its cell, unless it is left out or a merge covers the cell
abbrev pub is_written : Input → Bool → Bool
is_written value covered = is_some (given_value value) && not covered

-- the rectangle of the values, as far as the ends
abbrev pub area_reached : Given → Area
area_reached given = cut_area (area_written given.area.now given.block.now) given.end_row given.end_col

-- how many places of a line are in it
abbrev pub places_given : Given → ℕ
places_given given = places_in (axis_of given) (area_reached given)

-- it is told which places of its lines merges cover, so far of lines before this one
pub record TellsCovered (merges : List Area) (given : Given) (line : ℕ) (asked : LineAsked) : Type 0 where
  pub covered : covered_of asked ≡ covered_places (axis_of given) (area_reached given) merges
  pub axis : asked.axis ≡ axis_of given
  pub area : asked.area ≡ area_reached given
  pub before : IfSome asked.line (λ last. last < (corner given).0 + line)

-- for each of these places of a line it is told whether a merge covers the cell there
pub record AreCovered (merges : List Area) (given : Given) (line : ℕ) (covered : List Bool) : Type 0 where
  pub long : length covered ≡ places_given given
  pub told : (place : ℕ) → place < length covered
      → slice_index_or covered place false
      ≡ is_covered merges (cell_for given line place).0 (cell_for given line place).1

-- a cell's row, or its column
abbrev pub line_on : Axis → ℕ × ℕ → ℕ
line_on Rows cell = cell.0
line_on Columns cell = cell.1

-- what a cell is to hold, and the first limit that its formula passes
abbrev pub entry_of : Option Content × Option FormulaFault → Entry
entry_of entry = record { content = entry.0; limit = entry.1 }

-- the first of two limits, in the order in which they are told
abbrev pub earlier : FormulaFault → Option FormulaFault → FormulaFault
earlier limit None = limit
earlier limit (Some other) = if nat_le (rank limit) (rank other) then limit else other

abbrev pub first_of : Option FormulaFault → Option FormulaFault → Option FormulaFault
first_of None other = other
first_of (Some limit) other = Some (earlier limit other)

-- the cells that have a value hold that, and this is the first limit that one of their formulas passes
pub record ArePut (given : Given) (values : ℕ → ℕ → Option Input) (before after : PlaceBook)
    (limit : Option FormulaFault) : Type 0 where
  pub entries : ℕ → ℕ → Option Entry
  pub entered : AreEntries (formula_sheets before.sheets) given.area.now.sheet values entries
  pub updated : AreUpdated given.area.now.sheet (contents_of entries) before after
  pub first : IsFirstPassed entries limit

-- what is answered once the cells are written
abbrev pub IsAnswer : Given → (ℕ → ℕ → Option Input) → Option FormulaFault → PlaceBook
    → Result WrittenCells Rule → Type 0
IsAnswer given values limit book answer = MatchResult answer
    (λ written. (broken_by_write limit (fits_by given) book ≡ None)
    × IsWritten given.area.now given.block.now values written)
    (λ rule. broken_by_write limit (fits_by given) book ≡ Some rule)

-- what is done and answered
pub record IsDone (given : Given) (values : ℕ → ℕ → Option Input) (before after : PlaceBook)
    (answer : Result WrittenCells Rule) : Type 0 where
  pub limit : Option FormulaFault
  pub put : ArePut given values before after limit
  pub answered : IsAnswer given values limit after answer

-- the same, where the cells have values but for those that a merge of their sheet covers
abbrev pub IsDoneOnSheet : Given → PlaceBook → PlaceBook → Result WrittenCells RuleOr → Type 0
IsDoneOnSheet given before after answer = IsSomeAnd (place_sheet_with given.area.now.sheet before.sheets)
    (λ sheet. IsUnlessNoMemory (IsDone given (value_uncovered sheet.merges given) before after) answer)
