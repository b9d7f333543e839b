-- A spreadsheet takes the place of the one that has its id: no other has it, since they are numbered.
use Rattle.std.proofs.Common.{◌≡◌, ◌≢◌, ℕ, ◌+◌, ◌<◌, ◌≤◌, refl, sym, ap, subst, ◌∙◌, List, ◌++◌, length, get_or, set, drop, cond, Bool, true, false, arith, map, codes, decimal}
use Rattle.std.specs.Str.{bytes_eq}
use Rattle.std.proofs.lemmas.Bool.{false_from_ne_true}
use Rattle.std.proofs.lemmas.Fmt.{decimal_injective}
use Rattle.std.proofs.lemmas.List.{map-set, length-map, get_or-map}
use Rattle.std.proofs.lemmas.Slice.Eq.{bytes_eq-Decides}
use Rattle.world_model.specs.Book.{PlaceBook}
use Rattle.world_model.specs.World.{book_replaced}
use Rattle.dimension_ops.specs.World.{AreNumbered, most_books}
use Rattle.dimension_ops.proofs.Finding.{IsFoundAt}
use Rattle.dimension_ops.proofs.Putting.{changed_at_place}

same_number : (i j : ℕ) → i < most_books → j < most_books
    → codes "book" ++ decimal (i + 1) ≡ codes "book" ++ decimal (j + 1) → i ≡ j
same_number i j few few' same =
    let one : i + 1 ≡ j + 1 =
    decimal_injective (i + 1) (j + 1) (omega (arith, few)) (omega (arith, few')) (ap (drop 4) same) in
    omega (arith, one)

module _ (book : PlaceBook) where
  abbrev pub has_its_id : PlaceBook → Bool
  has_its_id other = bytes_eq other.id book.id

  -- what has its id or is another keeps its own
  id_kept : (b : Bool) (other : PlaceBook) → bytes_eq other.id book.id ≡ b → (cond b book other).id ≡ other.id
  id_kept true other is = sym ((bytes_eq-Decides other.id book.id).0 is)
  id_kept false other is = refl

  pub numbered_after : (books : List PlaceBook) → AreNumbered books → AreNumbered (book_replaced book books)
  numbered_after books numbered k d there =
      let inside : k < length books =
      subst (λ n. k < n) (length-map books (λ other. cond (has_its_id other) book other)) there in
      ap (λ other. other.id) (get_or-map (λ other. cond (has_its_id other) book other) books k d d inside)
      ∙ id_kept (has_its_id (get_or books k d)) (get_or books k d) refl
      ∙ numbered k d inside

  module _ (books : List PlaceBook) (place : ℕ) (numbered : AreNumbered books) (few : length books ≤ most_books)
      (found : IsFoundAt has_its_id books place) where
    others : (i : ℕ) (d : PlaceBook) → i < length books → i ≢ place → has_its_id (get_or books i d) ≡ false
    others i d there apart = false_from_ne_true (has_its_id (get_or books i d)) (λ is.
        let one = (bytes_eq-Decides (get_or books i d).id book.id).0 is in
        let other = (bytes_eq-Decides (get_or books place d).id book.id).0 (found.passes d) in
        let at = found.there in
        absurd (apart (same_number i place (omega (arith, there, few)) (omega (arith, at, few))
        (sym (numbered i d there) ∙ one ∙ sym other ∙ numbered place d at))))

    pub replaced_at_place : set books place book ≡ book_replaced book books
    replaced_at_place = changed_at_place has_its_id (λ _. book) books place found others book

-- the same where the spreadsheets are seen through what shares them
pub seen_replaced : {X : Type 0} (value : X → PlaceBook) (shared : List X) (place : ℕ) (new : X) (book : PlaceBook)
    → AreNumbered (map value shared) → length shared ≤ most_books → IsFoundAt (has_its_id book) (map value shared) place
    → value new ≡ book → map value (set shared place new) ≡ book_replaced book (map value shared)
seen_replaced value shared place new book numbered few found is =
    map-set value shared place new
    ∙ ap (set (map value shared) place) is
    ∙ replaced_at_place book (map value shared) place numbered
    (subst (λ n. n ≤ most_books) (sym (length-map shared value)) few) found
