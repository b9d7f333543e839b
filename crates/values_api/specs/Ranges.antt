-- What a range text names in a spreadsheet (Google Sheets API v4 guide, A1 notation; reference, NamedRange).
use Rattle.std.specs.Prelude.{◌≡◌, ℕ, Bool, List, Option, None, Some, Result, Ok, Err, ◌&&◌, nat_lt, if◌then◌else◌}
use Rattle.std.specs.Prelude.{IsSomeAnd, ⊤}
use Rattle.std.specs.Option.{option_map_or}
use Rattle.grid_range.specs.Area.{AreaWithin, cut_area}
use Rattle.grid_range.specs.Band.{IsNonEmpty, end_line, first_line}
use Rattle.grid_range.specs.declared.area.Area.{Area}
use Rattle.grid_range.specs.declared.band.Band.{Band}
use Rattle.grid_range.specs.declared.band.Band.TheVariants.{Whole}
use Rattle.a1_notation.specs.Canonical.{canonical}
use Rattle.a1_notation.specs.Range.{Names}
use Rattle.a1_notation.specs.declared.a1.A1.{A1}
use Rattle.a1_notation.specs.declared.a1.A1Fault.{A1Fault}
use Rattle.a1_notation.specs.declared.a1.A1Fault.TheVariants as fault
use Rattle.a1_notation.specs.declared.a1.Part.{Part}
use Rattle.a1_notation.specs.declared.a1.Part.TheVariants.{Cells, WholeSheet, Word}
use Rattle.formula_reader.specs.ReferenceText.{is_one_cell}
use Rattle.named_ranges.specs.Listed.{with_name}
use Rattle.named_ranges.specs.declared.range.NamedRange.{NamedRange}
use Rattle.world_model.specs.Book.{PlaceBook}
use Rattle.world_model.specs.Sheet.{PlaceSheet}
use Rattle.world_model.specs.Sound.{place_sheet_with}
use Rattle.dimension_ops.specs.Titles.{sheet_titled, first_visible}
use Rattle.dimension_ops.specs.declared.rule.Rule.{Rule}
use Rattle.dimension_ops.specs.declared.rule.Rule.TheVariants.{NoSheet, BadRange, OutsideGrid}
use Rattle.dimension_ops.specs.declared.rule.RuleOr.{RuleOr}
use Rattle.dimension_ops.specs.declared.rule.RuleOr.TheVariants as refusal

-- an area, and whether it was named as one cell
abbrev pub FoundArea : Type 0
FoundArea = Area × Bool

-- the rows and the columns of a sheet, cut at its grid; the first of each has to be there
abbrev pub on_sheet : Band → Band → PlaceSheet → Result FoundArea Rule
on_sheet rows cols sheet =
    if nat_lt (first_line rows) sheet.table.rows && nat_lt (first_line cols) sheet.table.cols
    then Ok (
      cut_area (record { sheet = sheet.id; rows = rows; cols = cols }) sheet.table.rows sheet.table.cols,
      is_one_cell rows cols,
    )
    else Err OutsideGrid

-- the same of a sheet that may be missing
abbrev pub on_found : Rule → Band → Band → Option PlaceSheet → Result FoundArea Rule
on_found missing rows cols None = Err missing
on_found missing rows cols (Some sheet) = on_sheet rows cols sheet

-- a part of the sheet that a text names by its title
abbrev pub part_of_sheet : Part → Option PlaceSheet → Result FoundArea Rule
part_of_sheet (Cells rows cols) sheet = on_found NoSheet rows cols sheet
part_of_sheet WholeSheet sheet = on_found NoSheet Whole Whole sheet
part_of_sheet (Word word) sheet = Err BadRange

-- the cells of a named range, which are on its sheet
abbrev pub of_range : NamedRange → FoundArea
of_range range = (range.area, is_one_cell range.area.rows range.area.cols)

-- a word is the name of a named range, or else the title of a sheet
abbrev pub part_called : List ℕ → PlaceBook → Result FoundArea Rule
part_called word book = option_map_or (λ range. Ok (of_range range))
    (with_name word book.ranges) (on_found BadRange Whole Whole (sheet_titled word book.sheets))

-- a part without a title is of the first visible sheet, unless it is a word
abbrev pub part_of : PlaceBook → Option (List ℕ) → Part → Result FoundArea Rule
part_of book (Some title) part = part_of_sheet part (sheet_titled title book.sheets)
part_of book None (Cells rows cols) = on_found NoSheet rows cols (first_visible book.sheets)
part_of book None (Word word) = part_called word book
part_of book None WholeSheet = Err BadRange

-- what a text names; one that isn't in A1 notation names nothing
pub data Resolves (text : List ℕ) (book : PlaceBook) (answer : Result FoundArea Rule) : Type 0 where
  named : (range : A1) → Names 3 text range → answer ≡ part_of book range.sheet range.part
      → Resolves text book answer
  unnamed : ((range : A1) → ¬ (Names 3 text range)) → answer ≡ Err BadRange → Resolves text book answer

-- what a text that isn't read is refused for
abbrev pub unread : A1Fault → RuleOr
unread fault.NotA1 = refusal.Rule BadRange
unread fault.PastZZZ = refusal.Rule BadRange
unread fault.NoMemory = refusal.NoMemory

-- bands of a part that have both ends have a line
abbrev pub HasLines : Part → Type 0
HasLines (Cells rows cols) = IsNonEmpty rows × IsNonEmpty cols
HasLines WholeSheet = ⊤
HasLines (Word word) = ⊤

-- the area is of a sheet that was looked for, and within it
abbrev pub IsOf : Area → Option PlaceSheet → Type 0
IsOf area sheet =
    IsSomeAnd sheet (λ found. (area.sheet ≡ found.id) × AreaWithin area found.table.rows found.table.cols)

-- the area's sheet is there, and both its bands are within it
abbrev pub IsThere : List PlaceSheet → Area → Type 0
IsThere sheets area =
    IsSomeAnd (place_sheet_with area.sheet sheets) (λ sheet. AreaWithin area sheet.table.rows sheet.table.cols)

-- the area as text with both ends, from its first cell to its last
abbrev pub area_text : PlaceSheet → Area → List ℕ
area_text sheet area = canonical sheet.title (first_line area.rows, end_line area.rows sheet.table.rows)
    (first_line area.cols, end_line area.cols sheet.table.cols)
