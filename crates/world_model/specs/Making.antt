-- A spreadsheet that is made with its sheets (Google Sheets API v4 reference, spreadsheets.create): they are added one
-- after another to one that has none yet. What always holds of a spreadsheet holds once all are there: the first ones
-- may be hidden.
use Rattle.std.specs.Prelude.{◌≡◌, ◌++◌, ℕ, false, List, [], ◌∷◌, map, ⊤}
use Rattle.std.specs.List.{fold, list_all}
use Rattle.world_model.specs.Book.{NameBook, PlaceBook}
use Rattle.world_model.specs.BookChange.{BookChange, Named, NamedStandsFor, NewSheet, changed_by_all}
use Rattle.world_model.specs.SheetChange.{new_place_sheet, place_sheet_added}
use Rattle.world_model.specs.SheetLaws.{IsRoomFor}
use Rattle.world_model.specs.Sound.{IsSound}
use Rattle.world_model.specs.World.{NameWorld, WorldStandsFor}

-- a sheet, and its place among those that were added before it
abbrev pub Placed : Type 0
Placed = ℕ × NewSheet

-- a spreadsheet that has no sheets yet, no named ranges, no protected ones and no metadata
abbrev pub bare_book : List ℕ → List ℕ → List ℕ → PlaceBook
bare_book id title owner = record {
  id = id;
  title = title;
  owner = owner;
  sheets = [];
  ranges = [];
  protections = [];
  metadata = [];
}

abbrev pub bare_names : List ℕ → List ℕ → List ℕ → NameBook
bare_names id title owner = record {
  id = id;
  title = title;
  owner = owner;
  sheets = [];
  ranges = [];
  protections = [];
  metadata = [];
}

-- with one sheet more
abbrev pub with_placed : PlaceBook → Placed → PlaceBook
with_placed book placed = place_sheet_added placed.0 (new_place_sheet placed.1) book

-- one after another
abbrev pub with_all_placed : PlaceBook → List Placed → PlaceBook
with_all_placed book placed = fold with_placed book placed

-- the same as changes
abbrev pub additions : List Placed → List BookChange
additions placed = map (λ one. BookChange.SheetAdded one.0 one.1) placed

-- each of them can be added to what those before it make
abbrev pub IsRoomForAll : PlaceBook → List Placed → Type 0
IsRoomForAll book [] = ⊤
IsRoomForAll book (placed ∷ others) = IsRoomFor placed.1 book × IsRoomForAll (with_placed book placed) others

-- the spreadsheet that these changes make of one without sheets, whose lines get the next names
abbrev pub made_by_name : NameBook → List BookChange → ℕ → Named
made_by_name bare changes next = changed_by_all (record { book = bare; next = next }) changes

-- a world with one spreadsheet more
abbrev pub with_named_book : Named → NameWorld → NameWorld
with_named_book named world = record { books = world.books ++ named.book ∷ []; next = named.next }

-- the sheets can be put in, and one of them is visible
pub record CanBeMade (bare : PlaceBook) (placed : List Placed) : Type 0 where
  pub room : IsRoomForAll bare placed
  pub visible : list_all (λ sheet. sheet.hidden) (with_all_placed bare placed).sheets ≡ false

-- sheets that are put in one after another are, by names, ones all of whose lines are new, and the spreadsheet can
-- stand behind those of a world
pub record BooksMade : Type 0 where
  pub sound : (id title owner : List ℕ) (placed : List Placed) → CanBeMade (bare_book id title owner) placed
      → IsSound (with_all_placed (bare_book id title owner) placed)
  pub names : (id title owner : List ℕ) (placed : List Placed) (next : ℕ)
      → CanBeMade (bare_book id title owner) placed
      → NamedStandsFor (with_all_placed (bare_book id title owner) placed)
      (made_by_name (bare_names id title owner) (additions placed) next)
  pub added : (books : List PlaceBook) (world : NameWorld) (id title owner : List ℕ) (placed : List Placed)
      → WorldStandsFor books world → CanBeMade (bare_book id title owner) placed
      → WorldStandsFor (books ++ with_all_placed (bare_book id title owner) placed ∷ [])
      (with_named_book (made_by_name (bare_names id title owner) (additions placed) world.next) world)
