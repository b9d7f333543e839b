-- What is done by places stands for what is meant by names.
use Rattle.std.specs.Prelude.{◌≡◌, ◌≤◌, ◌+◌, ◌*◌, ℕ, List, Option, Some, IsSomeAnd, IfSome, slice_get, unwrap_or}
use Rattle.std.specs.List.{All}
use Rattle.std.specs.Option.{option_map}
use Rattle.grid_range.specs.Change.{Changes, Fits, count_after, order_change}
use Rattle.grid_range.specs.declared.axis.Axis.{Axis}
use Rattle.grid_range.specs.declared.axis.Axis.TheVariants.{Rows, Columns}
use Rattle.grid_range.specs.declared.change.Change.{Change}
use Rattle.cell_store.specs.Moved.{lines_on}
use Rattle.cell_store.specs.Table.{Table, HasItemsInside, HasPlace, empty_table, filled_places, item_at}
use Rattle.ref_rewrite.specs.declared.cell_content.Content.{Content}
use Rattle.world_model.specs.Book.{NameBook, PlaceBook, orders_of}
use Rattle.world_model.specs.Content.{content_named}
use Rattle.world_model.specs.Counts.{filled_of, formulas_at, formulas_in, formulas_of, grid_places}
use Rattle.world_model.specs.LineChange.{book_changed}
use Rattle.world_model.specs.PlaceChange.{BookChanged}
use Rattle.world_model.specs.Sheet.{PlaceSheet}
use Rattle.world_model.specs.Sound.{IsSound, IsContentWithin, IsLineCount, most_places, place_sheet_with}
use Rattle.world_model.specs.Updating.{Updates, no_updates, with_update, BookUpdated, book_updated}
use Rattle.world_model.specs.StandsFor.{BookStandsFor}
use Rattle.world_model.specs.World.{NameWorld, HasNamesBelow, WorldStandsFor, book_replaced, world_replaced}
use Rattle.world_model.specs.Writing.{book_put, book_written, table_written}

-- a write at a place is the write of the cell of the lines at that place, whatever these are called
pub record WritesFollow : Type 0 where
  pub follows : (book : PlaceBook) (names : NameBook) (id row col r c : ℕ) (content : Option Content)
      → BookStandsFor book names → IfSome content (IsContentWithin book.sheets)
      → slice_get (orders_of names.sheets id Rows) row ≡ Some r
      → slice_get (orders_of names.sheets id Columns) col ≡ Some c
      → BookStandsFor (book_put id row col content book)
      (book_written id r c (option_map (content_named (orders_of names.sheets)) content) names)

-- what always holds of a spreadsheet holds after a write at a place that is there
pub record WritesStaySound : Type 0 where
  pub stays : (book : PlaceBook) (id row col : ℕ) (content : Option Content) → IsSound book
      → IfSome content (IsContentWithin book.sheets)
      → IfSome (place_sheet_with id book.sheets) (λ sheet. HasPlace sheet.table row col)
      → IsSound (book_put id row col content book)

-- what is sound stands for something by names
pub record StandsForSome : Type 0 where
  pub stands : (book : PlaceBook) → IsSound book → (names : NameBook) × BookStandsFor book names

-- a change of lines by places is the change by names, whatever the lines are called, those that it inserts among them
pub record ChangesFollow : Type 0 where
  pub follows : (before after : PlaceBook) (names : NameBook) (id : ℕ) (axis : Axis) (count : ℕ) (change : Change)
      (fresh order : List ℕ)
      → BookStandsFor before names
      → Fits change count → IsLineCount axis (count_after change count)
      → Changes change count (orders_of names.sheets id axis) fresh order
      → BookChanged id axis count change before after → grid_places after.sheets ≤ most_places
      → BookStandsFor after (book_changed id axis (order_change change fresh) names)

-- what always holds of a spreadsheet holds after a change of lines, if its sheets don't get too many places
pub record ChangesStaySound : Type 0 where
  pub stays : (before after : PlaceBook) (id : ℕ) (axis : Axis) (count : ℕ) (change : Change)
      → IsSound before → Fits change count → IsLineCount axis (count_after change count)
      → IsSomeAnd (place_sheet_with id before.sheets)
      (λ sheet. lines_on axis sheet.table.rows sheet.table.cols ≡ count)
      → BookChanged id axis count change before after → grid_places after.sheets ≤ most_places → IsSound after

-- no two spreadsheets stand for the same one
pub record StandsForApart : Type 0 where
  pub same : (one other : PlaceBook) (names : NameBook) → BookStandsFor one names → BookStandsFor other names
      → one ≡ other

-- an update by places is the update by names, whatever the lines are called
pub record UpdatesFollow : Type 0 where
  pub follows : (before after : PlaceBook) (names : NameBook) (id : ℕ) (updates : Updates)
      → BookStandsFor before names → IsSound after → BookUpdated id updates before after
      → BookStandsFor after (book_updated id updates names)

-- how many rows and columns a sheet has
abbrev pub size_of : PlaceSheet → ℕ × ℕ
size_of sheet = (sheet.table.rows, sheet.table.cols)

-- an update is made by one write after another: the empty one leaves a spreadsheet, a write at a place updates that
-- one, too, sizes stay, and only what becomes of each place counts
pub record UpdatesAreWrites : Type 0 where
  pub none : (book : PlaceBook) (id : ℕ) → BookUpdated id no_updates book book
  pub put : (before between : PlaceBook) (id row col : ℕ) (content : Option Content) (updates : Updates)
      → BookUpdated id updates before between
      → BookUpdated id (with_update row col content updates) before (book_put id row col content between)
  pub sizes : (before after : PlaceBook) (id other : ℕ) (updates : Updates) → BookUpdated id updates before after
      → option_map size_of (place_sheet_with other after.sheets)
      ≡ option_map size_of (place_sheet_with other before.sheets)
  pub same : (before after : PlaceBook) (id : ℕ) (updates updates' : Updates) → IsSound before
      → BookUpdated id updates before after
      → IfSome (place_sheet_with id before.sheets) (λ sheet. (row col : ℕ)
      → unwrap_or (updates row col) (item_at sheet.table row col)
      ≡ unwrap_or (updates' row col) (item_at sheet.table row col))
      → BookUpdated id updates' before after

-- each sheet is the one that is found by its id
pub record IdsFind : Type 0 where
  pub finds : (book : PlaceBook) → IsSound book
      → All (λ sheet. place_sheet_with sheet.id book.sheets ≡ Some sheet) book.sheets

-- at most one item stands at each place of a sheet: no more cells are stored than there are places
pub record FilledWithinPlaces : Type 0 where
  pub sheet : (table : Table Content) → HasItemsInside table → filled_places table ≤ table.rows * table.cols
  pub book : (book : PlaceBook) → IsSound book → filled_of book.sheets ≤ grid_places book.sheets

-- a spreadsheet in the place of the one that has its id stands there for what it stands for, whatever lines were called
pub record ReplacementsFollow : Type 0 where
  pub follows : (books : List PlaceBook) (world : NameWorld) (book : PlaceBook) (names : NameBook) (next : ℕ)
      → WorldStandsFor books world → BookStandsFor book names → HasNamesBelow next names → world.next ≤ next
      → WorldStandsFor (book_replaced book books) (world_replaced names next world)

-- a write takes what the place held out of the number of formulas, and puts what is written there into it
pub record FormulasCounted : Type 0 where
  pub written : (table : Table Content) (row col : ℕ) (item : Option Content)
      → formulas_in (table_written row col item table) + formulas_at (item_at table row col)
      ≡ formulas_in table + formulas_at item
  pub none : (rows cols : ℕ) → formulas_in (empty_table rows cols) ≡ 0
  pub within : (table : Table Content) → formulas_in table ≤ filled_places table
  pub all_within : (sheets : List PlaceSheet) → formulas_of sheets ≤ filled_of sheets
