-- The spreadsheets that a server holds, and those that it begins with.
use Rattle.std.specs.Prelude.{◌≡◌, ◌<◌, ◌+◌, ◌++◌, ℕ, false, List, [], ◌∷◌, length, get_or, Option, None, codes}
use Rattle.std.specs.Fmt.{decimal}
use Rattle.std.specs.List.{find, range_with_len}
use Rattle.std.specs.Str.{bytes_eq}
use Rattle.cell_store.specs.Table.{empty_table}
use Rattle.dimension_ops.specs.declared.creating.TheConstants.{MOST_BOOKS}
use Rattle.dimension_ops.specs.declared.sheets.TheConstants.{DEFAULT_COLUMNS, DEFAULT_ROWS}
use Rattle.world_model.specs.Book.{PlaceBook}
use Rattle.world_model.specs.Sheet.{NameSheet, PlaceSheet}
use Rattle.world_model.specs.World.{NameWorld}

-- the spreadsheet with the id
abbrev pub book_with : List ℕ → List PlaceBook → Option PlaceBook
book_with id books = find (λ book. bytes_eq book.id id) books

-- how many spreadsheets a server can hold
abbrev pub most_books : ℕ
most_books = MOST_BOOKS

-- the n-th spreadsheet, from 1, has the id `book` and n in decimal
abbrev pub AreNumbered : List PlaceBook → Type 0
AreNumbered books =
    (place : ℕ) (d : PlaceBook) → place < length books → (get_or books place d).id ≡ codes "book" ++ decimal (place + 1)

-- an empty sheet of the size that one has where none is asked for
abbrev pub opening_sheet : PlaceSheet
opening_sheet = record {
  id = 0;
  title = codes "Sheet1";
  hidden = false;
  table = empty_table DEFAULT_ROWS DEFAULT_COLUMNS;
  merges = [];
  filter = None;
}

-- the one spreadsheet that there is in the beginning
abbrev pub opening_book : PlaceBook
opening_book = record {
  id = codes "book1";
  title = codes "book1";
  owner = codes "owner";
  sheets = opening_sheet ∷ [];
  ranges = [];
  protections = [];
  metadata = [];
}

-- the same by names: the rows are called by the first numbers, the columns by the next ones
abbrev pub opening_names : ℕ → ℕ → NameSheet
opening_names rows cols = record {
  id = 0;
  title = codes "Sheet1";
  hidden = false;
  rows = range_with_len 0 rows;
  cols = range_with_len rows cols;
  cells = λ _ _. None;
  merges = [];
  filter = None;
}

abbrev pub opening_world : NameWorld
opening_world = record {
  books = (record {
    id = codes "book1";
    title = codes "book1";
    owner = codes "owner";
    sheets = opening_names DEFAULT_ROWS DEFAULT_COLUMNS ∷ [];
    ranges = [];
    protections = [];
    metadata = [];
  }) ∷ [];
  next = 1026;
}
