-- What a write of values makes of the cells, and what its answer counts (Google Sheets API v4 reference,
-- spreadsheets.values.update, ValueRange and UpdateValuesResponse).
use Rattle.std.specs.Prelude.{◌≡◌, ◌≢◌, ◌<◌, ◌≤◌, ◌↔◌, ◌+◌, ◌-◌, ℕ, Bool, ◌&&◌, not, nat_le, nat_lt}
use Rattle.std.specs.Prelude.{List, [], length, max, get_or}
use Rattle.std.specs.Prelude.{if◌then◌else◌, Option, None, Some, Result, MatchResult, Contains, IfSome, IsSomeAnd}
use Rattle.std.specs.Prelude.{option_map, option_and_then}
use Rattle.std.specs.List.{fold, AllPairs}
use Rattle.std.specs.Option.{IsSome}
use Rattle.cell_value.specs.declared.cell.Block.{Block}
use Rattle.cell_value.specs.declared.entered.Input.{Input}
use Rattle.cell_value.specs.declared.entered.Input.TheVariants as input
use Rattle.grid_range.specs.Band.{first_line, end_line}
use Rattle.grid_range.specs.declared.area.Area.{Area}
use Rattle.grid_range.specs.declared.band.Band.{Band}
use Rattle.grid_range.specs.declared.band.Band.TheVariants.{Span}
use Rattle.merge_ranges.specs.Merges.{is_covered}
use Rattle.ref_rewrite.specs.declared.cell_content.Content.{Content}
use Rattle.ref_rewrite.specs.declared.cell_content.Content.TheVariants as content
use Rattle.world_model.specs.Book.{PlaceBook}
use Rattle.formula_reader.specs.Pieces.{IsRead}
use Rattle.formula_reader.specs.Sheets.{Sheets}
use Rattle.formula_reader.specs.declared.fault.FormulaFault.{FormulaFault}
use Rattle.formula_reader.specs.declared.fault.FormulaFault.TheVariants as fault
use Rattle.ref_rewrite.specs.declared.pieces.Formula.{Formula}
use Rattle.world_model.specs.Counts.{filled_of, formulas_of}
use Rattle.world_model.specs.Sheet.{PlaceSheet}
use Rattle.world_model.specs.Updating.{Updates}
use Rattle.dimension_ops.specs.declared.rule.Limit.TheVariants.{Filled, Formulas, Tokens, References, Depth}
use Rattle.dimension_ops.specs.declared.rule.Rule.{Rule}
use Rattle.dimension_ops.specs.declared.rule.Rule.TheVariants.{PastLimit, ValuesPastRange}
use Rattle.values_api.specs.declared.writing.TheConstants.{MOST_FORMULAS, MOST_STORED}
use Rattle.values_api.specs.declared.writing.WrittenCells.{WrittenCells}
use Rattle.values_api.specs.Sheets.{formula_sheets}
use Rattle.values_api.specs.Shown.{cell_along}
use Rattle.values_api.specs.Updates.{AreUpdated}

-- ---- the values of a block

-- how many values the longest line has
abbrev pub longest : List (List Input) → ℕ
longest lines = fold (λ most inputs. max most (length inputs)) 0 lines

-- the values need as many rows and columns as that, whatever stands in them
abbrev pub rows_needed : Block → ℕ
rows_needed block = if block.columns_first then longest block.values else length block.values

abbrev pub cols_needed : Block → ℕ
cols_needed block = if block.columns_first then length block.values else longest block.values

-- the value for the cell that is so many rows below the corner, and so many columns behind it; cells beside the values
-- are left alone
abbrev pub input_at : Block → ℕ → ℕ → Input
input_at block = cell_along block.columns_first (λ line place. get_or (get_or block.values line []) place input.Skip)

-- the value, unless it is null, which leaves its cell alone
abbrev pub given_value : Input → Option Input
given_value input.Skip = None
given_value input.Empty = Some input.Empty
given_value (input.Number number) = Some (input.Number number)
given_value (input.Text text) = Some (input.Text text)
given_value (input.Truth truth) = Some (input.Truth truth)
given_value (input.FormulaText text) = Some (input.FormulaText text)

-- ---- which values are written

-- values for a range go no further than it does; those for one cell may go on to the end of the sheet
abbrev pub end_row : Bool → Area → PlaceSheet → ℕ
end_row one_cell area sheet = if one_cell then sheet.table.rows else end_line area.rows sheet.table.rows

abbrev pub end_col : Bool → Area → PlaceSheet → ℕ
end_col one_cell area sheet = if one_cell then sheet.table.cols else end_line area.cols sheet.table.cols

-- the values need no line behind the ends
abbrev pub fits : Bool → Area → Block → PlaceSheet → Bool
fits one_cell area block sheet =
    nat_le (first_line area.rows + rows_needed block) (end_row one_cell area sheet)
    && nat_le (first_line area.cols + cols_needed block) (end_col one_cell area sheet)

-- a line is from the first one on, and before the end
abbrev pub lies_in : ℕ → ℕ → ℕ → Bool
lies_in first end line = nat_le first line && nat_lt line end

-- the value that is written to a place, from the area's corner on and as far as the ends; a cell that a merge covers is
-- passed over
abbrev pub written : Bool → Area → Block → PlaceSheet → ℕ → ℕ → Option Input
written one_cell area block sheet row col =
    if lies_in (first_line area.rows) (end_row one_cell area sheet) row
    && lies_in (first_line area.cols) (end_col one_cell area sheet) col
    && not (is_covered sheet.merges row col)
    then given_value (input_at block (row - first_line area.rows) (col - first_line area.cols))
    else None

-- ---- what it makes of its cell

-- what a cell is to hold, which may be nothing, and the first limit that its formula passes
pub record Entry : Type 0 where
  pub content : Option Content
  pub limit : Option FormulaFault

-- what isn't a formula passes none
abbrev pub plain : Option Content → Entry
plain content = record { content = content; limit = None }

-- a text that is entered as a formula is read as one of the sheet `here`
pub record IsFormulaEntry (sheets : Sheets) (here : ℕ) (text : List ℕ) (entry : Entry) : Type 0 where
  pub formula : Formula
  pub content_is : entry.content ≡ Some (content.Formula formula)
  pub is_read : IsRead sheets here text formula entry.limit

-- what a value makes of a cell of the sheet `here`: an empty text empties it
abbrev pub IsEntry : Sheets → ℕ → Input → Entry → Type 0
IsEntry sheets here input.Skip entry = ⊥
IsEntry sheets here input.Empty entry = entry ≡ plain None
IsEntry sheets here (input.Number number) entry = entry ≡ plain (Some (content.Number number))
IsEntry sheets here (input.Text text) entry = entry ≡ plain (Some (content.Text text))
IsEntry sheets here (input.Truth truth) entry = entry ≡ plain (Some (content.Truth truth))
IsEntry sheets here (input.FormulaText text) entry = IsFormulaEntry sheets here text entry

abbrev pub IsEntryOf : Sheets → ℕ → Option Input → Option Entry → Type 0
IsEntryOf sheets here None entry = entry ≡ None
IsEntryOf sheets here (Some value) entry = IsSomeAnd entry (IsEntry sheets here value)

-- what values make of the cells of the sheet `here`, by place
abbrev pub AreEntries : Sheets → ℕ → (ℕ → ℕ → Option Input) → (ℕ → ℕ → Option Entry) → Type 0
AreEntries sheets here values entries = (row col : ℕ) → IsEntryOf sheets here (values row col) (entries row col)

-- what the cells are to hold
abbrev pub contents_of : (ℕ → ℕ → Option Entry) → Updates
contents_of entries row col = option_map (λ entry. entry.content) (entries row col)

-- ---- limits

-- the limits of formulas, in the order in which they are told
abbrev pub rank : FormulaFault → ℕ
rank fault.Tokens = 0
rank fault.References = 1
rank fault.Depth = 2
rank fault.NoMemory = 3

abbrev pub passes : Option Entry → Option FormulaFault
passes entry = option_and_then (λ entry. entry.limit) entry

-- a limit that some formula passes, and no formula passes one before it
pub record IsFirst (entries : ℕ → ℕ → Option Entry) (limit : FormulaFault) : Type 0 where
  pub row : ℕ
  pub col : ℕ
  pub is : passes (entries row col) ≡ Some limit
  pub least : (r c : ℕ) → IfSome (passes (entries r c)) (λ other. rank limit ≤ rank other)

-- the first limit that formulas pass, if they pass one
abbrev pub IsFirstPassed : (ℕ → ℕ → Option Entry) → Option FormulaFault → Type 0
IsFirstPassed entries (Some limit) = IsFirst entries limit
IsFirstPassed entries None = (row col : ℕ) → passes (entries row col) ≡ None

-- ---- the answer

-- how many cells of a spreadsheet can be stored (this project's bound)
abbrev pub most_stored : ℕ
most_stored = MOST_STORED

-- and how many of them can hold a formula
abbrev pub most_formulas : ℕ
most_formulas = MOST_FORMULAS

-- the rule that a formula breaks by a limit
abbrev pub rule_of_limit : FormulaFault → Rule
rule_of_limit fault.Tokens = PastLimit Tokens
rule_of_limit fault.References = PastLimit References
rule_of_limit fault.Depth = PastLimit Depth
rule_of_limit fault.NoMemory = PastLimit Depth

abbrev pub broken_by_formulas : Option FormulaFault → Bool → Option Rule
broken_by_formulas (Some limit) fit = Some (rule_of_limit limit)
broken_by_formulas None fit = if fit then None else Some ValuesPastRange

-- the rule that is broken: more cells or formulas would be stored than can be, a formula passes a limit, or a value
-- needs a line behind the ends
abbrev pub broken_by_write : Option FormulaFault → Bool → PlaceBook → Option Rule
broken_by_write limit fit after =
    if nat_lt most_stored (filled_of after.sheets) then Some (PastLimit Filled)
    else if nat_lt most_formulas (formulas_of after.sheets) then Some (PastLimit Formulas)
    else broken_by_formulas limit fit

-- so many lines from the first one on, and one at least
abbrev pub lines_from : ℕ → ℕ → Band
lines_from first count = Span first (first + max 1 count)

-- the rectangle of the values
abbrev pub area_written : Area → Block → Area
area_written area block = record {
  sheet = area.sheet;
  rows = lines_from (first_line area.rows) (rows_needed block);
  cols = lines_from (first_line area.cols) (cols_needed block);
}

-- the list has just those lines, in order
pub record AreLines (IsLine : ℕ → Type 0) (lines : List ℕ) : Type 0 where
  pub in_order : AllPairs (λ one other. one < other) lines
  pub exactly : (line : ℕ) → Contains lines line ↔ IsLine line

-- the list has just the cells with a value, each once
pub record AreCells (values : ℕ → ℕ → Option Input) (cells : List (ℕ × ℕ)) : Type 0 where
  pub exactly : (row col : ℕ) → Contains cells (row, col) ↔ IsSome (values row col)
  pub once : AllPairs (λ one other. one ≢ other) cells

-- there are so many of them
pub record IsNumberOfCells (values : ℕ → ℕ → Option Input) (number : ℕ) : Type 0 where
  pub cells : List (ℕ × ℕ)
  pub are : AreCells values cells
  pub many : number ≡ length cells

-- what was written or emptied: the rectangle of the values, the rows and the columns with such a cell, and the number
-- of these cells
pub record IsWritten (area : Area) (block : Block) (values : ℕ → ℕ → Option Input) (written : WrittenCells) :
    Type 0 where
  pub area_is : written.area ≡ area_written area block
  pub rows_are : AreLines (λ row. (col : ℕ) × IsSome (values row col)) written.rows
  pub cols_are : AreLines (λ col. (row : ℕ) × IsSome (values row col)) written.cols
  pub cells_are : IsNumberOfCells values written.cells

-- a write of the block to the area of the sheet makes that of the spreadsheet, and is answered so
pub record IsWrite (one_cell : Bool) (area : Area) (block : Block) (sheet : PlaceSheet) (before after : PlaceBook)
    (answer : Result WrittenCells Rule) : Type 0 where
  pub entries : ℕ → ℕ → Option Entry
  pub limit : Option FormulaFault
  pub entered : AreEntries (formula_sheets before.sheets) area.sheet (written one_cell area block sheet) entries
  pub updated : AreUpdated area.sheet (contents_of entries) before after
  pub first : IsFirstPassed entries limit
  pub answered : MatchResult answer
      (λ done. (broken_by_write limit (fits one_cell area block sheet) after ≡ None)
      × IsWritten area block (written one_cell area block sheet) done)
      (λ rule. broken_by_write limit (fits one_cell area block sheet) after ≡ Some rule)
