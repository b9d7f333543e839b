-- A spreadsheet put in the place of the one that has its id.
use Rattle.std.proofs.Common.{◌≡◌, ℕ, ◌<◌, ◌≤◌, lt_of_lt_of_le, sym, ap, subst, ◌∙◌, List, [], ◌∷◌, cond, Bool, true, false, length, get_or}
use Rattle.std.specs.List.{AllZip}
use Rattle.std.specs.Str.{bytes_eq}
use Rattle.std.proofs.lemmas.Bool.{false≢true}
use Rattle.std.proofs.lemmas.List.{length-map, get_or-map}
use Rattle.world_model.specs.Book.{NameBook, PlaceBook}
use Rattle.world_model.specs.StandsFor.{BookStandsFor}
use Rattle.world_model.specs.World.{NameWorld, HasNamesBelow, WorldStandsFor, book_replaced, name_book_replaced, world_replaced}

-- what was called before a name was called before a later one
later : (next more : ℕ) (book : NameBook) → next ≤ more → HasNamesBelow next book → HasNamesBelow more book
later next more book less below k d there = (
  λ i e inside. lt_of_lt_of_le ((below k d there).0 i e inside) less,
  λ i e inside. lt_of_lt_of_le ((below k d there).1 i e inside) less,
)

module _ (book : PlaceBook) (names : NameBook) (stands : BookStandsFor book names) where
  one_or_other : (b b' : Bool) (other : PlaceBook) (meant : NameBook) → b ≡ b' → BookStandsFor other meant
      → BookStandsFor (cond b book other) (cond b' names meant)
  one_or_other true true other meant same is = stands
  one_or_other true false other meant same is = absurd (false≢true (sym same))
  one_or_other false true other meant same is = absurd (false≢true same)
  one_or_other false false other meant same is = is

  each_follows : (books : List PlaceBook) (meant : List NameBook) → AllZip BookStandsFor books meant
      → AllZip BookStandsFor (book_replaced book books) (name_book_replaced names meant)
  each_follows [] [] all = tt
  each_follows [] (m ∷ ms) all = absurd all
  each_follows (b ∷ bs) [] all = absurd all
  each_follows (b ∷ bs) (m ∷ ms) all = (
    one_or_other (bytes_eq b.id book.id) (bytes_eq m.id names.id) b m
        (ap (λ id. bytes_eq id book.id) all.0.id ∙ ap (bytes_eq m.id) stands.id) all.0,
    each_follows bs ms all.1,
  )

called_or_other : (P : NameBook → Type 0) (b : Bool) (book other : NameBook) → P book → P other → P (cond b book other)
called_or_other P true book other one two = one
called_or_other P false book other one two = two

-- the law
pub replacements_follow : (books : List PlaceBook) (world : NameWorld) (book : PlaceBook) (names : NameBook) (next : ℕ)
    → WorldStandsFor books world → BookStandsFor book names → HasNamesBelow next names → world.next ≤ next
    → WorldStandsFor (book_replaced book books) (world_replaced names next world)
replacements_follow books world book names next stands is below less = record {
  each = each_follows book names is books world.books stands.each;
  called = λ k d there.
      let inside : k < length world.books =
      subst (λ n. k < n) (length-map world.books (λ other. cond (bytes_eq other.id names.id) names other)) there in
      subst (HasNamesBelow next)
      (sym (get_or-map (λ other. cond (bytes_eq other.id names.id) names other) world.books k d d inside))
      (called_or_other (HasNamesBelow next) (bytes_eq (get_or world.books k d).id names.id) names
      (get_or world.books k d) below
      (later world.next next (get_or world.books k d) less (stands.called k d inside)));
}
