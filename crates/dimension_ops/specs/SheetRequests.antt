-- Which rules are broken by requests that add or delete a sheet, or set its properties, and the sheet that is added
-- (Google Sheets API v4 reference, AddSheetRequest, DeleteSheetRequest, UpdateSheetPropertiesRequest). The bounds on
-- titles, and what isn't given, are this project's profile.
use Rattle.std.specs.Prelude.{◌≡◌, ◌<◌, ◌+◌, ◌*◌, ◌++◌, ℕ, Bool, true, false, not, ◌&&◌, ◌||◌, ◌==◌, List, [], ◌∷◌, length, Option, None, Some, is_some, unwrap_or, nat_le, nat_lt, codes, Result, Ok, Err, ⊤}
use Rattle.std.specs.Char.{is_control}
use Rattle.std.specs.Fmt.{decimal}
use Rattle.std.specs.List.{list_all, list_any}
use Rattle.std.specs.Option.{option_map_or}
use Rattle.std.specs.Str.{chars}
use Rattle.cell_value.specs.Ids.{IsLeastUnused, IsNewId, is_taken}
use Rattle.cell_value.specs.declared.cell.SheetProperties.{SheetProperties}
use Rattle.grid_range.specs.declared.axis.Axis.TheVariants.{Rows, Columns}
use Rattle.dimension_ops.specs.declared.sheets.TheConstants.{DEFAULT_COLUMNS, DEFAULT_ROWS}
use Rattle.world_model.specs.Book.{PlaceBook}
use Rattle.world_model.specs.BookChange.{AreChanges, BookChange, NewSheet}
use Rattle.world_model.specs.Counts.{grid_places}
use Rattle.world_model.specs.Sheet.{PlaceSheet}
use Rattle.world_model.specs.SheetChange.{new_place_sheet, other_sheets}
use Rattle.world_model.specs.Sound.{most_on, most_places, most_sheets, place_sheet_with}
use Rattle.dimension_ops.specs.Broken.{Broken, Passes, first_broken, first_passed, unbroken}
use Rattle.dimension_ops.specs.Titles.{sheet_titled}
use Rattle.dimension_ops.specs.declared.rule.Limit.TheVariants as limit
use Rattle.dimension_ops.specs.declared.rule.RuleOr.{RuleOr}
use Rattle.dimension_ops.specs.declared.rule.RuleOr.TheVariants as refusal

-- what is answered is refused by the first rule that the request breaks, unless memory ran out
abbrev pub IsJudged : {A : Type 0} → Broken → Result A RuleOr → Type 0
IsJudged broken (Ok answer) = first_broken broken ≡ None
IsJudged broken (Err (refusal.Rule rule)) = first_broken broken ≡ Some rule
IsJudged broken (Err refusal.NoMemory) = ⊤

-- ---- ids and titles

abbrev pub has_id : List PlaceSheet → ℕ → Bool
has_id sheets id = is_some (place_sheet_with id sheets)

abbrev pub has_title : List PlaceSheet → List ℕ → Bool
has_title sheets title = is_some (sheet_titled title sheets)

-- the longest title, in bytes
abbrev pub longest_title : ℕ
longest_title = 100

-- a title isn't empty or longer, and has no control character (Unicode's class Cc)
abbrev pub may_be_title : List ℕ → Bool
may_be_title title =
    nat_lt 0 (length title) && nat_le (length title) longest_title && not (list_any is_control (chars title))

abbrev pub is_bad_title : Option (List ℕ) → Bool
is_bad_title given = option_map_or (λ title. not (may_be_title title)) given false

-- the least number from 0 on that no sheet has as its id
pub record IsLeastId (sheets : List PlaceSheet) (id : ℕ) : Type 0 where
  pub unused : has_id sheets id ≡ false
  pub least : (lesser : ℕ) → lesser < id → has_id sheets lesser ≡ true

-- the title with a number
abbrev pub numbered_title : ℕ → List ℕ
numbered_title number = codes "Sheet" ++ decimal number

-- the first of Sheet1, Sheet2 and so on that no sheet has
abbrev pub IsFirstTitle : List PlaceSheet → List ℕ → Type 0
IsFirstTitle sheets title =
    (number : ℕ) × (title ≡ numbered_title number)
    × IsLeastUnused (λ number. has_title sheets (numbered_title number)) number

-- ---- limits

-- so many sheets, with as many places in all, and that size of one of them are past such limits
abbrev pub passes_with : ℕ → ℕ → ℕ → ℕ → Passes
passes_with sheets rows cols places limit.Sheets = nat_lt most_sheets sheets
passes_with sheets rows cols places limit.Rows = nat_lt (most_on Rows) rows
passes_with sheets rows cols places limit.Columns = nat_lt (most_on Columns) cols
passes_with sheets rows cols places limit.Cells = nat_lt most_places places
passes_with sheets rows cols places _ = false

-- ---- a sheet is added

abbrev pub new_rows : SheetProperties → ℕ
new_rows properties = unwrap_or properties.rows DEFAULT_ROWS

abbrev pub new_cols : SheetProperties → ℕ
new_cols properties = unwrap_or properties.cols DEFAULT_COLUMNS

-- where it stands: without a place it is the last
abbrev pub new_place : SheetProperties → List PlaceSheet → ℕ
new_place properties sheets = unwrap_or properties.index (length sheets)

-- the sheet that is added beside those
pub record IsNewSheet (properties : SheetProperties) (sheets : List PlaceSheet) (new : NewSheet) : Type 0 where
  pub id : IsNewId (IsLeastId sheets) properties.id new.id
  pub title : IsNewId (IsFirstTitle sheets) properties.title new.title
  pub hidden : new.hidden ≡ unwrap_or properties.hidden false
  pub rows : new.rows ≡ new_rows properties
  pub cols : new.cols ≡ new_cols properties

-- the rules on the size of a sheet that is added
abbrev pub size_added_broken : ℕ → ℕ → List PlaceSheet → Broken
size_added_broken rows cols sheets = record unbroken {
  last_line = rows == 0 || cols == 0;
  past_limit = first_passed (passes_with (length sheets + 1) rows cols (grid_places sheets + rows * cols));
}

abbrev pub sheet_added_broken : SheetProperties → List PlaceSheet → Broken
sheet_added_broken properties sheets = record (size_added_broken (new_rows properties) (new_cols properties) sheets) {
  bad_range = nat_lt (length sheets) (new_place properties sheets);
  id_taken = is_taken (has_id sheets) properties.id;
  bad_name = is_bad_title properties.title;
  name_taken = is_taken (has_title sheets) properties.title;
}

-- no other sheet can be the one that is added
pub record NewSheetsOnce : Type 0 where
  pub once : (properties : SheetProperties) (sheets : List PlaceSheet) (one other : NewSheet)
      → IsNewSheet properties sheets one → IsNewSheet properties sheets other → one ≡ other

-- the spreadsheet has got the sheet with the id, which is found by it
abbrev pub IsSheetAdded : SheetProperties → PlaceBook → PlaceBook → ℕ → Type 0
IsSheetAdded properties before after id =
    (new : NewSheet) × IsNewSheet properties before.sheets new × (id ≡ new.id)
    × (place_sheet_with id after.sheets ≡ Some (new_place_sheet new))
    × AreChanges (BookChange.SheetAdded (new_place properties before.sheets) new ∷ []) before after

-- ---- a sheet is deleted

abbrev pub sheet_dropped_broken : ℕ → List PlaceSheet → Broken
sheet_dropped_broken id sheets = record unbroken {
  no_sheet = not (has_id sheets id);
  last_sheet = list_all (λ sheet. sheet.hidden) (other_sheets id sheets);
}
