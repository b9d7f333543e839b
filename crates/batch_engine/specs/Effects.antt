-- What a call makes of the spreadsheets of a server.
use Rattle.std.specs.Prelude.{ℕ, List, Option, None, Some, ⊤}
use Rattle.std.specs.List.{find}
use Rattle.std.specs.Option.{option_map_or}
use Rattle.std.specs.Str.{bytes_eq}
use Rattle.world_model.specs.Book.{NameBook, PlaceBook}
use Rattle.world_model.specs.BookChange.{BookChange, Named, changed_by_all}
use Rattle.world_model.specs.Making.{made_by_name, with_named_book}
use Rattle.world_model.specs.World.{NameWorld, WorldStandsFor, world_replaced}

-- nothing; or the spreadsheet with the id is changed, one change after another; or one is made by changes of a bare
-- one, which has no sheets, and stands behind all others
pub data Effect : Type 0 where
  Nothing : Effect
  Changes : (book : List ℕ) (changes : List BookChange) → Effect
  Makes : (bare : NameBook) (changes : List BookChange) → Effect

-- the spreadsheet with the id
abbrev pub name_book_with : List ℕ → List NameBook → Option NameBook
name_book_with id books = find (λ book. bytes_eq book.id id) books

-- the world with the spreadsheet in its place, once the lines that are new in it got their names
abbrev pub with_named : Named → NameWorld → NameWorld
with_named named world = world_replaced named.book named.next world

-- the world after the call, by the names of lines
abbrev pub world_after : Effect → NameWorld → NameWorld
world_after Nothing world = world
world_after (Changes id changes) world =
    option_map_or (λ book. with_named (changed_by_all (record { book = book; next = world.next }) changes) world)
    (name_book_with id world.books) world
world_after (Makes bare changes) world = with_named_book (made_by_name bare changes world.next) world

-- whatever lines are called, the spreadsheets after stand for the world after the call
pub record Becomes (effect : Effect) (before after : List PlaceBook) : Type 0 where
  pub names : (world : NameWorld) → WorldStandsFor before world → WorldStandsFor after (world_after effect world)

-- there are spreadsheets after a call just where it makes something of them
abbrev pub IsNext : List PlaceBook → Effect → Option (List PlaceBook) → Type 0
IsNext before Nothing None = ⊤
IsNext before Nothing (Some after) = ⊥
IsNext before (Changes id changes) None = ⊥
IsNext before (Changes id changes) (Some after) = Becomes (Changes id changes) before after
IsNext before (Makes bare changes) None = ⊥
IsNext before (Makes bare changes) (Some after) = Becomes (Makes bare changes) before after
