-- What is done to sheets by places stands for what is meant by names, and keeps what always holds of a spreadsheet.
use Rattle.std.specs.Prelude.{◌≡◌, ◌≢◌, ◌<◌, ◌≤◌, ◌+◌, ◌*◌, ℕ, Bool, false, List, [], ◌∷◌, length, None}
use Rattle.std.specs.List.{All, list_all}
use Rattle.std.specs.Str.{str_eq_ignore_ascii_case}
use Rattle.grid_range.specs.declared.axis.Axis.TheVariants.{Rows, Columns}
use Rattle.world_model.specs.Book.{PlaceBook}
use Rattle.world_model.specs.BookChange.{AreChanges, BookChange, NewSheet}
use Rattle.world_model.specs.Counts.{grid_places}
use Rattle.world_model.specs.Sheet.{PlaceSheet}
use Rattle.world_model.specs.SheetChange.{PlaceSheetDeleted, SomeLoseReferences, new_place_sheet, on_place_sheet, place_marked_hidden, place_sheet_added, place_titled}
use Rattle.world_model.specs.Sound.{IsLineCount, IsSound, most_places, most_sheets, place_sheet_with}

-- no other sheet has the title, whatever the case of its ASCII letters
abbrev pub IsTitleFree : List ℕ → List PlaceSheet → Type 0
IsTitleFree title sheets = All (λ other. str_eq_ignore_ascii_case other.title title ≡ false) sheets

-- the sheet can be added: nothing has its id or its title, it has lines, and there is room for it
pub record IsRoomFor (sheet : NewSheet) (book : PlaceBook) : Type 0 where
  pub id : place_sheet_with sheet.id book.sheets ≡ None
  pub titled : 0 < length sheet.title
  pub title : IsTitleFree sheet.title book.sheets
  pub rows : IsLineCount Rows sheet.rows
  pub cols : IsLineCount Columns sheet.cols
  pub few_sheets : length book.sheets < most_sheets
  pub few_places : grid_places book.sheets + sheet.rows * sheet.cols ≤ most_places

-- an empty sheet that is put in is, by names, one all of whose lines are new
pub record SheetsAdded : Type 0 where
  pub stays : (book : PlaceBook) (at : ℕ) (sheet : NewSheet) → IsSound book → IsRoomFor sheet book
      → IsSound (place_sheet_added at (new_place_sheet sheet) book)
  pub changes : (book : PlaceBook) (at : ℕ) (sheet : NewSheet) → IsRoomFor sheet book
      → AreChanges (BookChange.SheetAdded at sheet ∷ []) book (place_sheet_added at (new_place_sheet sheet) book)

-- a sheet that is taken out takes all references to it with it
pub record SheetsDeleted : Type 0 where
  pub stays : (before after : PlaceBook) (sheet : ℕ) → IsSound before
      → list_all (λ other. other.hidden) after.sheets ≡ false → PlaceSheetDeleted sheet before after → IsSound after
  pub changes : (before after : PlaceBook) (sheet : ℕ) → IsSound after → PlaceSheetDeleted sheet before after
      → AreChanges (BookChange.SheetDeleted sheet ∷ []) before after
  pub lost : (before after : PlaceBook) (sheet : ℕ) → IsSound before → SomeLoseReferences sheet before after
      → IsSound after

-- a sheet with another title has that one by names, too, and no formula is another one
pub record SheetsTitled : Type 0 where
  pub stays : (book : PlaceBook) (id : ℕ) (title : List ℕ) → IsSound book → 0 < length title
      → All (λ other. other.id ≢ id → str_eq_ignore_ascii_case other.title title ≡ false) book.sheets
      → IsSound (on_place_sheet id (place_titled title) book)
  pub changes : (book : PlaceBook) (id : ℕ) (title : List ℕ) → IsSound (on_place_sheet id (place_titled title) book)
      → AreChanges (BookChange.SheetTitled id title ∷ []) book (on_place_sheet id (place_titled title) book)

-- and so has one with another mark
pub record SheetsHidden : Type 0 where
  pub stays : (book : PlaceBook) (id : ℕ) (hidden : Bool) → IsSound book
      → list_all (λ other. other.hidden) (on_place_sheet id (place_marked_hidden hidden) book).sheets ≡ false
      → IsSound (on_place_sheet id (place_marked_hidden hidden) book)
  pub changes : (book : PlaceBook) (id : ℕ) (hidden : Bool)
      → IsSound (on_place_sheet id (place_marked_hidden hidden) book)
      → AreChanges (BookChange.SheetHidden id hidden ∷ []) book (on_place_sheet id (place_marked_hidden hidden) book)
