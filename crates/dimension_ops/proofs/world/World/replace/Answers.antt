use Rattle.std.proofs.Common.{◌≡◌, ◌≤◌, ℕ, sym, ap, subst, ◌∙◌, List, length, map, arith, Some, None, Option, Global}
use Rattle.std.specs.Arc.{arc_value}
use Rattle.std.specs.declared.sync.Arc.{Arc}
use Rattle.std.specs.List.{position_from}
use Rattle.std.specs.Option.{IsSome}
use Rattle.std.specs.Str.{bytes_eq}
use Rattle.std.specs.Prelude.{is_some}
use Rattle.std.proofs.Common.{refl}
use Rattle.std.proofs.lemmas.Bool.{false≢true}
use Rattle.std.proofs.lemmas.List.{length-set}
use Rattle.world_model.specs.Book.{PlaceBook}
use Rattle.world_model.specs.World.{WorldStandsFor, book_replaced, world_replaced}
use Rattle.dimension_ops.specs.World.{AreNumbered, book_with, most_books}
use Rattle.dimension_ops.proofs.Finding.{found_at, there_seen, none_from}
use Rattle.dimension_ops.proofs.Replacing.{has_its_id, numbered_after, seen_replaced}
use Rattle.dimension_ops.proofs.world.World.replace.Goals.{in-Some, in_default}
use Rattle.dimension_ops.proofs.world.World.replace.Goals as goal

-- the place of the spreadsheet among the shared ones is that of the one with its id
place_is : (slice items : List (Arc PlaceBook Global)) (id : List ℕ) (book : PlaceBook) (place : Option ℕ)
    → slice ≡ items → id ≡ book.id → place
    ≡ position_from (λ (other : PlaceBook). bytes_eq other.id id) 0 (map arc_value slice)
    → position_from (has_its_id book) 0 (map arc_value items) ≡ place
place_is slice items id book place same own at =
    ap (λ key. position_from (λ (other : PlaceBook). bytes_eq other.id key) 0 (map arc_value items)) (sym own)
    ∙ ap (λ list. position_from (λ (other : PlaceBook). bytes_eq other.id id) 0 (map arc_value list)) (sym same)
    ∙ sym at

-- a spreadsheet that is there is found
not_there : (books : List PlaceBook) (book : PlaceBook) (place : Option ℕ) → ((found : ℕ) → place ≡ Some found → ⊥)
    → position_from (has_its_id book) 0 books ≡ place → IsSome (book_with book.id books) → ⊥
not_there books book (Some found) none is some = none found refl
not_there books book None none is some =
    false≢true (sym (ap is_some (none_from (has_its_id book) books 0 is)) ∙ some)

pub index_mut-requires : goal.index_mut-requires
index_mut-requires c =
    let own : c.as_str.result.now ≡ c.args.book.id =
    c.as_str.ensures
    ∙ c.id.ensures
    ∙ ap (λ (book : PlaceBook). book.id) (c.deref-in-Ok.ensures ∙ c.in-Ok.ensures.shared) in
    let at = found_at (has_its_id c.args.book) (map arc_value c.self.inside.books.items) c.in-Some.place
    (place_is c.deref.result.now c.self.inside.books.items c.as_str.result.now c.args.book (Some c.in-Some.place)
    c.deref.ensures.value own c.in-Some.ensures) in
    let there = there_seen (has_its_id c.args.book) arc_value c.self.inside.books.items c.in-Some.place at in
    let long : length c.self.inside.books.items ≡ Rattle.std.specs.Vec.vec_len c.self.inside.books =
    ap length (sym c.deref.ensures.value) ∙ c.deref.ensures.len in
    omega (arith, there, long)

pub invariant_of-self : goal.invariant_of-self
invariant_of-self c =
    let own : c.as_str.result.now ≡ c.args.book.id =
    c.as_str.ensures
    ∙ c.id.ensures
    ∙ ap (λ (book : PlaceBook). book.id) (c.deref-in-Ok.ensures ∙ c.in-Ok.ensures.shared) in
    let at = found_at (has_its_id c.args.book) (map arc_value c.self.inside.books.items) c.in-Some.place
    (place_is c.deref.result.now c.self.inside.books.items c.as_str.result.now c.args.book (Some c.in-Some.place)
    c.deref.ensures.value own c.in-Some.ensures) in
    let same = seen_replaced arc_value c.self.inside.books.items c.in-Some.place c.in-Ok.shared c.args.book
    c.self.invariant.0 c.self.invariant.1 at c.in-Ok.ensures.shared in (
      subst AreNumbered (sym same)
          (numbered_after c.args.book (map arc_value c.self.inside.books.items) c.self.invariant.0),
      subst (λ n. n ≤ most_books) (sym (length-set c.self.inside.books.items c.in-Some.place c.in-Ok.shared))
          c.self.invariant.1,
    )

pub returns-after-book_place-clause-replaced : goal.returns-after-book_place-clause-replaced
returns-after-book_place-clause-replaced c =
    let own : c.as_str.result.now ≡ c.args.book.id =
    c.as_str.ensures
    ∙ c.id.ensures
    ∙ ap (λ (book : PlaceBook). book.id) (c.deref-in-Ok.ensures ∙ c.in-Ok.ensures.shared) in
    elim c.match-book_place.branch [
      | in-Some w ↦
          let at = found_at (has_its_id c.args.book) (map arc_value c.self.inside.books.items) w.in-Some.place
          (place_is c.deref.result.now c.self.inside.books.items c.as_str.result.now c.args.book (Some w.in-Some.place)
          c.deref.ensures.value own w.in-Some.ensures) in
          w.self-is
          ∙ seen_replaced arc_value c.self.inside.books.items w.in-Some.place c.in-Ok.shared c.args.book
          c.self.invariant.0 c.self.invariant.1 at c.in-Ok.ensures.shared
          ∙ ap (book_replaced c.args.book) c.self.view_is
      | in_default w ↦
          absurd (not_there c.args.self.now c.args.book c.book_place.result w.in_default.not-Some
          (ap (position_from (has_its_id c.args.book) 0) (sym c.self.view_is)
          ∙ place_is c.deref.result.now c.self.inside.books.items c.as_str.result.now c.args.book c.book_place.result
          c.deref.ensures.value own c.book_place.ensures)
          c.requires.there)
    ]

pub returns-after-book_place-clause-names : goal.returns-after-book_place-clause-names
returns-after-book_place-clause-names c = record {
  replaced = λ world names next stands is below less.
      subst (λ books. WorldStandsFor books (world_replaced names next world))
      (sym (returns-after-book_place-clause-replaced c))
      (c.replacements_follow.ensures.follows c.args.self.now world c.args.book names next stands is below less);
}
