-- Spreadsheets by the names of their lines whose named ranges are apart: no two of one spreadsheet have one id or one
-- name. They are so where the spreadsheets by places are, and stay so behind what a call makes of them.
use Rattle.std.proofs.Common.{◌≡◌, ℕ, Bool, true, false, cond, refl, sym, subst, List, [], ◌∷◌, get_or}
use Rattle.std.specs.Prelude.{None, Option, Some, if◌then◌else◌}
use Rattle.std.specs.List.{All, AllPairs, AllZip}
use Rattle.std.specs.Option.{option_map_or}
use Rattle.std.specs.Str.{bytes_eq}
use Rattle.std.proofs.lemmas.List.Elements.{All-append, All-cons, All-head, All-map, All-nil, All-tail}
use Rattle.std.proofs.lemmas.Option.{none-some, same_Some}
use Rattle.std.proofs.lemmas.Slice.Eq.{bytes_eq-Decides}
use Rattle.named_ranges.specs.Listed.{AreApart, AreNames}
use Rattle.world_model.specs.Book.{NameBook, PlaceBook, orders_of}
use Rattle.world_model.specs.BookChange.{BookChange, Named, NamedStandsFor, changed_by_all}
use Rattle.world_model.specs.Making.{made_by_name}
use Rattle.world_model.specs.Ranges.{range_named}
use Rattle.world_model.specs.StandsFor.{BookStandsFor}
use Rattle.world_model.specs.World.{HasNamesBelow, NameWorld, WorldStandsFor, name_book_replaced}
use Rattle.dimension_ops.specs.World.{book_with}
use Rattle.batch_engine.specs.Effects.{name_book_with, with_named, world_after}
use Rattle.batch_engine.specs.Effects.Effect.{Changes, Makes}
use Rattle.answered_calls.proofs.NamesStay.{BothApart, mapped, unmapped}

-- no two named ranges have one id or one name
abbrev pub HasNames : NameBook → Type 0
HasNames book = AllPairs BothApart book.ranges

abbrev pub WorldHasNames : NameWorld → Type 0
WorldHasNames world = All HasNames world.books

-- ---- by places and by names

pub names_of_places : (book : PlaceBook) (names : NameBook) → BookStandsFor book names → AreNames book.ranges
    → HasNames names
names_of_places book names stands apart =
    subst (AllPairs BothApart) (sym stands.ranges)
    (mapped AreApart BothApart (range_named (orders_of names.sheets)) (λ one other apart. (apart.ids, apart.names))
    book.ranges apart)

pub places_of_names : (book : PlaceBook) (names : NameBook) → BookStandsFor book names → HasNames names
    → AreNames book.ranges
places_of_names book names stands apart =
    unmapped AreApart BothApart (range_named (orders_of names.sheets)) (λ one other both.
    record { ids = both.0; names = both.1 }) book.ranges (subst (AllPairs BothApart) stands.ranges apart)

abbrev pub BookHasNames : PlaceBook → Type 0
BookHasNames book = AreNames book.ranges

all_places : (books : List PlaceBook) (names : List NameBook) → AllZip BookStandsFor books names → All HasNames names
    → All BookHasNames books
all_places [] names each apart = All-nil BookHasNames
all_places (book ∷ books) [] each apart = absurd each
all_places (book ∷ books) (own ∷ names) (stands, each) apart =
    All-cons BookHasNames book books (places_of_names book own stands (All-head HasNames own names apart))
    (all_places books names each (All-tail HasNames own names apart))

pub world_places : (books : List PlaceBook) (world : NameWorld) → WorldStandsFor books world → WorldHasNames world
    → All (λ book. AreNames book.ranges) books
world_places books world stands apart = all_places books world.books stands.each apart

-- ---- the spreadsheet with an id

-- the one that is found by places stands for the one that is found by names
module _ (P : NameBook → Type 0) (id : List ℕ) (book : PlaceBook) (names : NameBook) where
  found_stands : (books : List PlaceBook) (others : List NameBook) → AllZip BookStandsFor books others → All P others
      → book_with id books ≡ Some book → name_book_with id others ≡ Some names → BookStandsFor book names × P names
  found_stands [] others each all is is' = absurd (none-some book is)
  found_stands (first ∷ books) [] each all is is' = absurd each
  found_stands (first ∷ books) (own ∷ others) (stands, each) all is is' =
      either (bytes_eq first.id id) (found_stands books others each (All-tail P own others all)) is
      (subst (λ it. cond (bytes_eq it id) (Some own) (name_book_with id others) ≡ Some names) (sym stands.id) is')
    where
      either : (same : Bool)
          → (book_with id books ≡ Some book → name_book_with id others ≡ Some names
          → BookStandsFor book names × P names)
          → cond same (Some first) (book_with id books) ≡ Some book
          → cond same (Some own) (name_book_with id others) ≡ Some names → BookStandsFor book names × P names
      either true later found found' = (
        subst (λ it. BookStandsFor it names) (same_Some first book found)
            (subst (BookStandsFor first) (same_Some own names found') stands),
        subst P (same_Some own names found') (All-head P own others all),
      )
      either false later found found' = later found found'

found_id : (id : List ℕ) (books : List PlaceBook) (book : PlaceBook) → book_with id books ≡ Some book → book.id ≡ id
found_id id [] book is = absurd (none-some book is)
found_id id (first ∷ books) book is = either (bytes_eq first.id id) refl (found_id id books book) is
  where
    either : (same : Bool) → bytes_eq first.id id ≡ same → (book_with id books ≡ Some book → book.id ≡ id)
        → cond same (Some first) (book_with id books) ≡ Some book → book.id ≡ id
    either true same later found =
        subst (λ (it : PlaceBook). it.id ≡ id) (same_Some first book found) ((bytes_eq-Decides first.id id).0 same)
    either false same later found = later found

-- ---- what is made of a world

-- a spreadsheet in the place of another
replaced_names : (book : NameBook) (books : List NameBook) → HasNames book → All HasNames books
    → All HasNames (name_book_replaced book books)
replaced_names book books new apart =
    All-map HasNames (λ (other : NameBook). if bytes_eq other.id book.id then book else other) books (λ k d there.
    either (get_or books k d) (apart k d there) (bytes_eq (get_or books k d).id book.id))
  where
    either : (other : NameBook) → HasNames other → (same : Bool) → HasNames (if same then book else other)
    either other old true = new
    either other old false = old

-- the named ranges of a spreadsheet are apart behind the changes, if they were before
abbrev pub ChangesKeep : PlaceBook → List BookChange → Type 0
ChangesKeep book changes = (named : Named) → NamedStandsFor book named → HasNames named.book
    → HasNames (changed_by_all named changes).book

abbrev IsKnown : ℕ → NameBook → Type 0
IsKnown next names = HasNamesBelow next names × HasNames names

both_known : (next : ℕ) (books : List NameBook) → All (HasNamesBelow next) books → All HasNames books
    → All (IsKnown next) books
both_known next books called apart k d there = (called k d there, apart k d there)

pub changes_keep : (books : List PlaceBook) (world : NameWorld) → WorldStandsFor books world → WorldHasNames world
    → (id : List ℕ) (book : PlaceBook) → book_with id books ≡ Some book → (changes : List BookChange)
    → ChangesKeep book changes → WorldHasNames (world_after (Changes book.id changes) world)
changes_keep books world stands apart id book is changes keep = either (name_book_with book.id world.books) refl
  where
    here : book_with book.id books ≡ Some book
    here = subst (λ id. book_with id books ≡ Some book) (sym (found_id id books book is)) is

    either : (found : Option NameBook) → name_book_with book.id world.books ≡ found → WorldHasNames
        (option_map_or (λ book. with_named (changed_by_all (record { book = book; next = world.next }) changes) world)
        found world)
    either None is' = apart
    either (Some names) is' =
        let (own, known) =
        found_stands (IsKnown world.next) book.id book names books world.books stands.each
        (both_known world.next world.books stands.called apart) here is' in
        let named : Named = record { book = names; next = world.next } in
        replaced_names (changed_by_all named changes).book world.books
        (keep named (record { stands = own; called = known.0 }) known.1) apart

pub makes_keep : (world : NameWorld) → WorldHasNames world → (bare : NameBook) (changes : List BookChange)
    → HasNames (made_by_name bare changes world.next).book → WorldHasNames (world_after (Makes bare changes) world)
makes_keep world apart bare changes new =
    let made = (made_by_name bare changes world.next).book in
    All-append HasNames world.books (made ∷ []) apart (All-cons HasNames made [] new (All-nil HasNames))
