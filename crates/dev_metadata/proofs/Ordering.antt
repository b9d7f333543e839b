-- Numbers are put in order, each behind those that aren't greater.
use Rattle.std.proofs.Common.{◌≡◌, ℕ, zero, suc, ◌<◌, ◌≤◌, Bool, true, false, List, [], ◌∷◌, length, get_or, arith, refl}
use Rattle.std.specs.Prelude.{nat_lt}
use Rattle.std.specs.List.{insert}
use Rattle.std.proofs.lemmas.Bool.{ltb-true, ltb-false}
use Rattle.std.proofs.lemmas.List.Sorted.{IsPermutation-refl, IsPermutation-trans, IsPermutation-cons, IsPermutation-insert, IsNonDecreasingBy-insert, IsNonDecreasingBy-short}
use Rattle.dev_metadata.specs.Listed.{AreInOrder, ids_of}
use Rattle.dev_metadata.specs.Order.{HaveOrder}

module _ (number : ℕ) where
  -- so many are there, those before it aren't greater, and the one there is
  record IsPlace (others : List ℕ) (place : ℕ) : Type 0 where
    there : place ≤ length others
    before : (k d : ℕ) → k < place → get_or others k d ≤ number
    behind : (d : ℕ) → place < length others → number ≤ get_or others place d

  has_place : (others : List ℕ) → (place : ℕ) × IsPlace others place
  has_place [] = (
    0,
    record {
      there = omega arith;
      before = λ k d less. absurd (omega (arith, less));
      behind = λ d less. absurd (omega (arith, less));
    },
  )
  has_place (first ∷ later) = by_test (nat_lt number first) refl (has_place later)
    where
      by_test : (test : Bool) → nat_lt number first ≡ test → (place : ℕ) × IsPlace later place
          → (place : ℕ) × IsPlace (first ∷ later) place
      by_test true less (place, is) = (
        0,
        record {
          there = omega arith;
          before = λ k d none. absurd (omega (arith, none));
          behind = λ d some. omega (arith, ltb-true number first less);
        },
      )
      by_test false more (place, is) = (
        suc place,
        record {
          there = omega (arith, is.there);
          before = before_one place is more;
          behind = λ d less. is.behind d (omega (arith, less));
        },
      )
        where
          before_one : (place : ℕ) → IsPlace later place → nat_lt number first ≡ false → (k d : ℕ) → k < suc place
              → get_or (first ∷ later) k d ≤ number
          before_one place is more zero d less = ltb-false number first more
          before_one place is more (suc k) d less = is.before k d (omega (arith, less))

  with_one : (ones others : List ℕ) → AreInOrder (λ n. n) ones others
      → (sorted : List ℕ) × AreInOrder (λ n. n) (number ∷ ones) sorted
  with_one ones others are =
      let (place, is) = has_place others in (
        insert others place number,
        record {
          same = IsPermutation-trans (number ∷ ones) (number ∷ others) (insert others place number)
              (IsPermutation-cons number ones others are.same) (IsPermutation-insert others place number);
          ascending = IsNonDecreasingBy-insert (λ n. n) others place number are.ascending is.there is.before
              (λ k d from within.
              let first = is.behind d (omega (arith, from, within)) in
              let later = are.ascending place k d from within in
              omega (arith, first, later));
        },
      )

in_order : (ones : List ℕ) → (sorted : List ℕ) × AreInOrder (λ n. n) ones sorted
in_order [] =
    ([], record { same = IsPermutation-refl []; ascending = IsNonDecreasingBy-short (λ n. n) [] (omega arith) })
in_order (first ∷ later) = let (sorted, are) = in_order later in with_one first later sorted are

pub have_order : HaveOrder
have_order items = in_order (ids_of items)
