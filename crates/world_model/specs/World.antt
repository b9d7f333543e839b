-- The spreadsheets of a server by the names of their lines, and when those that a program keeps stand for them.
use Rattle.std.specs.Prelude.{ℕ, ◌<◌, List, map, if◌then◌else◌}
use Rattle.std.specs.List.{All, AllZip}
use Rattle.std.specs.Str.{bytes_eq}
use Rattle.world_model.specs.Book.{NameBook, PlaceBook}
use Rattle.world_model.specs.StandsFor.{BookStandsFor}

-- the spreadsheets in the order in which they were made, and the name that the next new line gets: a name is
-- never given again
pub record NameWorld : Type 0 where
  pub books : List NameBook
  pub next : ℕ

-- each line of the spreadsheet was called before the next one
abbrev pub HasNamesBelow : ℕ → NameBook → Type 0
HasNamesBelow next book =
    All (λ sheet. All (λ name. name < next) sheet.rows × All (λ name. name < next) sheet.cols) book.sheets

-- both are one world, spreadsheet by spreadsheet
pub record WorldStandsFor (books : List PlaceBook) (world : NameWorld) : Type 0 where
  pub each : AllZip BookStandsFor books world.books
  pub called : All (HasNamesBelow world.next) world.books

-- the spreadsheets with that one in the place of the one that has its id
abbrev pub book_replaced : PlaceBook → List PlaceBook → List PlaceBook
book_replaced book books = map (λ other. if bytes_eq other.id book.id then book else other) books

abbrev pub name_book_replaced : NameBook → List NameBook → List NameBook
name_book_replaced book books = map (λ other. if bytes_eq other.id book.id then book else other) books

-- the world with that spreadsheet in the place of the one that has its id, once lines were called up to a name
abbrev pub world_replaced : NameBook → ℕ → NameWorld → NameWorld
world_replaced book next world = record { books = name_book_replaced book world.books; next = next }
