-- A spreadsheet that is made of its sheets, by places and by names, and stands behind those of a world.
use Rattle.std.proofs.Common.{◌≡◌, ℕ, zero, suc, ◌+◌, ◌≤◌, refl, List, [], ◌∷◌, ◌++◌, arith}
use Rattle.std.specs.Prelude.{None}
use Rattle.std.specs.List.{All, AllZip}
use Rattle.cell_store.specs.Table.{empty_table, item_at}
use Rattle.ref_rewrite.specs.declared.cell_content.Content.{Content}
use Rattle.world_model.specs.Book.{NameBook, PlaceBook}
use Rattle.world_model.specs.BookChange.{Named, NamedStandsFor, changed_by_all, new_sheet, sheet_added}
use Rattle.world_model.specs.Making.{CanBeMade, IsRoomForAll, Placed, additions, bare_book, bare_names, made_by_name, with_all_placed, with_named_book, with_placed}
use Rattle.world_model.specs.Sound.{IsSound}
use Rattle.world_model.specs.StandsFor.{BookStandsFor}
use Rattle.world_model.specs.World.{HasNamesBelow, NameWorld, WorldStandsFor}
use Rattle.world_model.proofs.SheetAdded.{IsNearlySound, NearlyStands, added_called, added_nearly, added_stands, sound_visible, stands_visible}

bare_sound : (id title owner : List ℕ) → IsNearlySound (bare_book id title owner)
bare_sound id title owner = record {
  distinct = λ i j d below there. absurd (let no : ⊥ = omega (arith, below, there) in no);
  titles = λ i j d below there. absurd (let no : ⊥ = omega (arith, below, there) in no);
  sheets = λ k d there. absurd (let no : ⊥ = omega (arith, there) in no);
  few_sheets = omega arith;
  few_places = omega arith;
  ranges = λ k d there. absurd (let no : ⊥ = omega (arith, there) in no);
  protections = λ k d there. absurd (let no : ⊥ = omega (arith, there) in no);
  metadata = λ k d there. absurd (let no : ⊥ = omega (arith, there) in no);
}

bare_stands : (id title owner : List ℕ) → NearlyStands (bare_book id title owner) (bare_names id title owner)
bare_stands id title owner = record {
  sound = bare_sound id title owner;
  id = refl;
  title = refl;
  owner = refl;
  sheets = tt;
  ranges = refl;
  protections = refl;
  metadata = refl;
}

bare_called : (id title owner : List ℕ) (next : ℕ) → HasNamesBelow next (bare_names id title owner)
bare_called id title owner next k d there = absurd (let no : ⊥ = omega (arith, there) in no)

-- names are only added
next_more : (named : Named) (placed : List Placed) → named.next ≤ (changed_by_all named (additions placed)).next
next_more named [] = omega arith
next_more named ((at, sheet) ∷ placed) =
    let between : Named = record {
      book = sheet_added at (new_sheet named.next sheet) named.book;
      next = named.next + sheet.rows + sheet.cols;
    } in
    let more = next_more between placed in
    omega (arith, more)

module _ (empty : (rows cols row col : ℕ) → item_at (empty_table {T = Content} rows cols) row col ≡ None) where
  all_nearly : (book : PlaceBook) (placed : List Placed) → IsNearlySound book → IsRoomForAll book placed
      → IsNearlySound (with_all_placed book placed)
  all_nearly book [] sound room = sound
  all_nearly book (one ∷ placed) sound room =
      all_nearly (with_placed book one) placed (added_nearly empty book one.0 one.1 room.0 sound) room.1

  pub made_sound : (id title owner : List ℕ) (placed : List Placed) → CanBeMade (bare_book id title owner) placed
      → IsSound (with_all_placed (bare_book id title owner) placed)
  made_sound id title owner placed can =
      sound_visible (with_all_placed (bare_book id title owner) placed)
      (all_nearly (bare_book id title owner) placed (bare_sound id title owner) can.room) can.visible

  all_stand : (book : PlaceBook) (named : Named) (placed : List Placed) → NearlyStands book named.book
      → HasNamesBelow named.next named.book → IsRoomForAll book placed
      → NearlyStands (with_all_placed book placed) (changed_by_all named (additions placed)).book
      × HasNamesBelow (changed_by_all named (additions placed)).next (changed_by_all named (additions placed)).book
  all_stand book named [] stands called room = (stands, called)
  all_stand book named ((at, sheet) ∷ placed) stands called room =
      all_stand (with_placed book (at, sheet)) (record {
        book = sheet_added at (new_sheet named.next sheet) named.book;
        next = named.next + sheet.rows + sheet.cols;
      }) placed (added_stands empty book at sheet room.0 named stands called)
      (added_called empty book at sheet room.0 named stands called) room.1

  pub made_stands : (id title owner : List ℕ) (placed : List Placed) (next : ℕ)
      → CanBeMade (bare_book id title owner) placed
      → NamedStandsFor (with_all_placed (bare_book id title owner) placed)
      (made_by_name (bare_names id title owner) (additions placed) next)
  made_stands id title owner placed next can =
      let all = all_stand (bare_book id title owner) (record { book = bare_names id title owner; next = next }) placed
      (bare_stands id title owner) (bare_called id title owner next) can.room in
      record {
        stands = stands_visible (with_all_placed (bare_book id title owner) placed)
            (made_by_name (bare_names id title owner) (additions placed) next).book all.0 can.visible;
        called = all.1;
      }

-- ---- behind those of a world

AllZip-behind : (books : List PlaceBook) (meant : List NameBook) (book : PlaceBook) (names : NameBook)
    → AllZip BookStandsFor books meant → BookStandsFor book names
    → AllZip BookStandsFor (books ++ book ∷ []) (meant ++ names ∷ [])
AllZip-behind [] [] book names all one = (one, tt)
AllZip-behind [] (m ∷ ms) book names all one = absurd all
AllZip-behind (b ∷ bs) [] book names all one = absurd all
AllZip-behind (b ∷ bs) (m ∷ ms) book names all one = (all.0, AllZip-behind bs ms book names all.1 one)

below_later : (first later : ℕ) (names : NameBook) → first ≤ later → HasNamesBelow first names
    → HasNamesBelow later names
below_later first later names less called k d there = (
  λ i e inside. let below = (called k d there).0 i e inside in omega (arith, below, less),
  λ i e inside. let below = (called k d there).1 i e inside in omega (arith, below, less),
)

all_below : (first later : ℕ) (meant : List NameBook) (names : NameBook) → first ≤ later
    → All (HasNamesBelow first) meant → HasNamesBelow later names → All (HasNamesBelow later) (meant ++ names ∷ [])
all_below first later [] names less all one zero d there = one
all_below first later [] names less all one (suc k) d there = absurd (let no : ⊥ = omega (arith, there) in no)
all_below first later (m ∷ ms) names less all one zero d there =
    below_later first later m less (all zero d (omega arith))
all_below first later (m ∷ ms) names less all one (suc k) d there =
    all_below first later ms names less (λ i e inside. all (suc i) e (omega (arith, inside))) one k d
    (omega (arith, there))

pub added_behind : (books : List PlaceBook) (world : NameWorld) (book : PlaceBook) (named : Named)
    → WorldStandsFor books world → NamedStandsFor book named → world.next ≤ named.next
    → WorldStandsFor (books ++ book ∷ []) (with_named_book named world)
added_behind books world book named stands is less = record {
  each = AllZip-behind books world.books book named.book stands.each is.stands;
  called = all_below world.next named.next world.books named.book less stands.called is.called;
}

pub next_of_made : (id title owner : List ℕ) (placed : List Placed) (next : ℕ)
    → next ≤ (made_by_name (bare_names id title owner) (additions placed) next).next
next_of_made id title owner placed next = next_more (record { book = bare_names id title owner; next = next }) placed
