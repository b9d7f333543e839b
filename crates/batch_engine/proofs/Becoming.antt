-- A spreadsheet that is changed and takes the place of the one that has its id: by the names of lines this is the
-- world after the call.
use Rattle.std.proofs.Common.{◌≡◌, ℕ, suc, refl, sym, ap, subst, ◌∙◌, List, [], ◌∷◌, cond, Bool, true, false, arith}
use Rattle.std.specs.Prelude.{Option, Some, None, ◌≤◌}
use Rattle.std.specs.List.{All, AllZip}
use Rattle.std.specs.Option.{option_map_or}
use Rattle.std.specs.Str.{bytes_eq}
use Rattle.std.proofs.lemmas.Bool.{false≢true}
use Rattle.std.proofs.lemmas.Slice.Eq.{bytes_eq-Decides}
use Rattle.world_model.specs.Book.{NameBook, PlaceBook}
use Rattle.world_model.specs.BookChange.{AreChanges, BookChange, Named, changed_by, changed_by_all}
use Rattle.world_model.specs.StandsFor.{BookStandsFor}
use Rattle.world_model.specs.World.{HasNamesBelow, WorldStandsFor}
use Rattle.dimension_ops.specs.ByName.{ReplacesByName}
use Rattle.dimension_ops.specs.World.{book_with}
use Rattle.batch_engine.specs.Effects.{Becomes, name_book_with, with_named}
use Rattle.batch_engine.specs.Effects.Effect.{Changes}

-- ---- what is found by its id

module _ (id : List ℕ) where
  first_has_id : (b : Bool) (first book : PlaceBook) (rest : Option PlaceBook) → bytes_eq first.id id ≡ b
      → (rest ≡ Some book → book.id ≡ id) → cond b (Some first) rest ≡ Some book → book.id ≡ id
  first_has_id true first book rest is behind found =
      ap (λ (other : PlaceBook). other.id) (sym (same first book found)) ∙ (bytes_eq-Decides first.id id).0 is
    where
      same : (one other : PlaceBook) → Some one ≡ Some other → one ≡ other
      same one other e = cc
  first_has_id false first book rest is behind found = behind found

  pub found_has_id : (books : List PlaceBook) (book : PlaceBook) → book_with id books ≡ Some book → book.id ≡ id
  found_has_id [] book found = absurd (none_some book found)
    where
      none_some : (book : PlaceBook) → None ≡ Some book → ⊥
      none_some book e = cc
  found_has_id (b ∷ bs) book found =
      first_has_id (bytes_eq b.id id) b book (book_with id bs) refl (found_has_id bs book) found

-- the spreadsheet that stands by names where one was found, and its lines were called before the next one
pub record FoundByName (next : ℕ) (book : PlaceBook) (found : Option NameBook) : Type 0 where
  pub names : NameBook
  pub is : found ≡ Some names
  pub stands : BookStandsFor book names
  pub below : HasNamesBelow next names

module _ (id : List ℕ) (next : ℕ) where
  first_by_name : (b b' : Bool) (first book : PlaceBook) (names : NameBook) (rest : Option PlaceBook)
      (rest' : Option NameBook) → b' ≡ b → BookStandsFor first names → HasNamesBelow next names
      → (rest ≡ Some book → FoundByName next book rest') → cond b (Some first) rest ≡ Some book
      → FoundByName next book (cond b' (Some names) rest')
  first_by_name true true first book names rest rest' same stands below behind found = record {
    names = names;
    is = refl;
    stands = subst (λ one. BookStandsFor one names) (one_book first book found) stands;
    below = below;
  }
    where
      one_book : (one other : PlaceBook) → Some one ≡ Some other → one ≡ other
      one_book one other e = cc
  first_by_name true false first book names rest rest' same stands below behind found = absurd (false≢true same)
  first_by_name false true first book names rest rest' same stands below behind found =
      absurd (false≢true (sym same))
  first_by_name false false first book names rest rest' same stands below behind found = behind found

  pub found_by_name : (books : List PlaceBook) (meant : List NameBook) (book : PlaceBook)
      → AllZip BookStandsFor books meant → All (HasNamesBelow next) meant → book_with id books ≡ Some book
      → FoundByName next book (name_book_with id meant)
  found_by_name [] meant book each below found = absurd (none_some book found)
    where
      none_some : (book : PlaceBook) → None ≡ Some book → ⊥
      none_some book e = cc
  found_by_name (b ∷ bs) [] book each below found = absurd each
  found_by_name (b ∷ bs) (n ∷ ns) book each below found =
      first_by_name (bytes_eq b.id id) (bytes_eq n.id id) b book n (book_with id bs) (name_book_with id ns)
      (ap (λ key. bytes_eq key id) (sym each.0.id)) each.0 (below 0 n (omega arith))
      (found_by_name bs ns book each.1 (λ k d there. below (suc k) d (omega arith))) found

-- ---- names are never given again

one_grows : (named : Named) (change : BookChange) → named.next ≤ (changed_by named change).next
one_grows named (BookChange.CellsUpdated sheet updates) = omega arith
one_grows named (BookChange.LinesChanged sheet axis change) = omega arith
one_grows named (BookChange.SheetAdded at sheet) = omega arith
one_grows named (BookChange.SheetDeleted sheet) = omega arith
one_grows named (BookChange.SheetTitled sheet title) = omega arith
one_grows named (BookChange.SheetHidden sheet hidden) = omega arith
one_grows named (BookChange.MergesSet sheet merges) = omega arith
one_grows named (BookChange.FilterSet sheet filter) = omega arith
one_grows named (BookChange.RangeAdded range) = omega arith
one_grows named (BookChange.RangeChanged range) = omega arith
one_grows named (BookChange.RangeDeleted id) = omega arith
one_grows named (BookChange.WordsRenamed old new) = omega arith
one_grows named (BookChange.ProtectionsSet protections) = omega arith
one_grows named (BookChange.MetadataSet items) = omega arith

names_grow : (changes : List BookChange) (named : Named) → named.next ≤ (changed_by_all named changes).next
names_grow [] named = omega arith
names_grow (change ∷ later) named =
    let first = one_grows named change in
    let behind = names_grow later (changed_by named change) in
    omega arith

-- ---- the world after a call

pub becomes_changed : (id : List ℕ) (changes : List BookChange) (books next : List PlaceBook) (before after : PlaceBook)
    → book_with id books ≡ Some before → AreChanges changes before after → ReplacesByName after books next
    → Becomes (Changes id changes) books next
becomes_changed id changes books next before after found changed replaced = record {
  names = λ world stands.
      let meant = found_by_name id world.next books world.books before stands.each stands.called found in
      let named : Named = record { book = meant.names; next = world.next } in
      let made = changed.names named (record { stands = meant.stands; called = meant.below }) in
      subst
      (λ one. WorldStandsFor next (option_map_or
      (λ (book : NameBook). with_named (changed_by_all (record { book = book; next = world.next }) changes)
      world) one world))
      (sym meant.is)
      (replaced.replaced world (changed_by_all named changes).book (changed_by_all named changes).next stands
      made.stands made.called (names_grow changes named));
}
