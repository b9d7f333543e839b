-- Laws for the proofs of this crate and of those above it: the ids of items in order are one list, and an item that a
-- project sees is found by its id, since no other item has that.
use Rattle.std.proofs.Common.{◌≡◌, ◌≢◌, ◌+◌, ◌-◌, ◌*◌, ◌<◌, ◌≤◌, ℕ, suc, true, refl, sym, ap, ◌∙◌, List, [], ◌∷◌, All, length, get_or, arith}
use Rattle.std.specs.Prelude.{◌==◌, Some}
use Rattle.std.specs.List.{sum_by}
use Rattle.std.specs.List.Sorted.{IsNonDecreasing}
use Rattle.std.proofs.lemmas.Bool.{ne_eqb}
use Rattle.std.proofs.lemmas.Bool.Decides.{nat_tests}
use Rattle.std.proofs.lemmas.List.{get_or-map, length-map}
use Rattle.std.proofs.lemmas.List.Elements.{All-nil, All-cons}
use Rattle.std.proofs.lemmas.List.Sorted.{sum_by-IsPermutation}
use Rattle.std.proofs.lemmas.List.Sums.{get_or-le-sum_by, sum_by-cons, sum_by-le}
use Rattle.dev_metadata.specs.Listed.{AreIdsInOrder, HaveOwnIds, ids_of, seen_with_id}
use Rattle.dev_metadata.specs.Lookup.{sees}
use Rattle.dev_metadata.specs.declared.types.Item.{Item}

-- ---- ids in order

-- two lists hold the same numbers, each as often
abbrev HoldSame : List ℕ → List ℕ → Type 0
HoldSame one other = (f : ℕ → ℕ) → sum_by f one ≡ sum_by f other

-- the first one is the least
least_first : (x y : ℕ) (xs ys : List ℕ) → IsNonDecreasing (x ∷ xs) → HoldSame (x ∷ xs) (y ∷ ys) → x ≤ y
least_first x y xs ys up same =
    let below : ℕ → ℕ = λ n. x - n in
    let none : sum_by below (x ∷ xs) ≤ length (x ∷ xs) * 0 =
    sum_by-le below 0 (x ∷ xs)
    (λ k d there. let rises : x ≤ get_or (x ∷ xs) k d = up 0 k d (omega arith) there in omega arith) in
    let some : x - y ≤ sum_by below (y ∷ ys) = get_or-le-sum_by below (y ∷ ys) 0 y (omega arith) in
    let is : sum_by below (x ∷ xs) ≡ sum_by below (y ∷ ys) = same below in
    omega arith

rises_behind : (x : ℕ) (xs : List ℕ) → IsNonDecreasing (x ∷ xs) → IsNonDecreasing xs
rises_behind x xs up = λ i j d before there. up (suc i) (suc j) d (omega arith) (omega arith)

same_behind : (x y : ℕ) (xs ys : List ℕ) → x ≡ y → HoldSame (x ∷ xs) (y ∷ ys) → HoldSame xs ys
same_behind x y xs ys first same = λ f.
    let one : sum_by f (x ∷ xs) ≡ f x + sum_by f xs = sum_by-cons f x xs in
    let other : sum_by f (y ∷ ys) ≡ f y + sum_by f ys = sum_by-cons f y ys in
    let is : sum_by f (x ∷ xs) ≡ sum_by f (y ∷ ys) = same f in
    let at_first : f x ≡ f y = ap f first in
    omega (arith, one, other, is, at_first)

none_holds : (y : ℕ) (ys : List ℕ) → HoldSame [] (y ∷ ys) → ⊥
none_holds y ys same =
    let one : ℕ → ℕ = λ n. 1 in
    let is : 0 ≡ 1 + sum_by one ys = same one ∙ sum_by-cons one y ys in
    omega arith

in_order_once : (one other : List ℕ) → IsNonDecreasing one → IsNonDecreasing other → HoldSame one other → one ≡ other
in_order_once [] [] up up' same = refl
in_order_once [] (y ∷ ys) up up' same = absurd (none_holds y ys same)
in_order_once (x ∷ xs) [] up up' same = absurd (none_holds x xs (λ f. sym (same f)))
in_order_once (x ∷ xs) (y ∷ ys) up up' same =
    let before : x ≤ y = least_first x y xs ys up same in
    let behind : y ≤ x = least_first y x ys xs up' (λ f. sym (same f)) in
    let first : x ≡ y = omega arith in
    ap (λ n. n ∷ xs) first
    ∙ ap (λ rest. y ∷ rest) (in_order_once xs ys (rises_behind x xs up) (rises_behind y ys up')
    (same_behind x y xs ys first same))

pub ids_once : (items : List Item) (one other : List ℕ) → AreIdsInOrder items one → AreIdsInOrder items other
    → one ≡ other
ids_once items one other is is' =
    in_order_once one other is.ascending is'.ascending
    (λ f. sum_by-IsPermutation f (ids_of items) one is.same
    ∙ sym (sum_by-IsPermutation f (ids_of items) other is'.same))

-- ---- an item among others

same_id : (id : ℕ) → (id == id) ≡ true
same_id id = grind (arith, nat_tests)

module _ (project : List ℕ) where
  -- an item that the project sees is found there
  abbrev pub IsSeenIn : List Item → Item → Type 0
  IsSeenIn items item = sees project item ≡ true → seen_with_id item.id project items ≡ Some item

  first_seen : (first : Item) (rest : List Item) → IsSeenIn (first ∷ rest) first
  first_seen first rest seen = rw (same_id first.id, seen) refl

  later_seen : (first item : Item) (rest : List Item) → item.id ≢ first.id → IsSeenIn rest item
      → IsSeenIn (first ∷ rest) item
  later_seen first item rest other is seen = rw (ne_eqb item.id first.id other) (is seen)

  first_is_other : (first : Item) (rest : List Item) → HaveOwnIds (first ∷ rest) → (at : ℕ) (d : Item)
      → at < length rest → (get_or rest at d).id ≢ first.id
  first_is_other first rest own at d there same =
      let long = length-map rest (λ (item : Item). item.id) in
      own 0 (suc at) d.id (omega arith) (omega arith)
      (sym same ∙ sym (get_or-map (λ (item : Item). item.id) rest at d d.id there))

  own_rest : (first : Item) (rest : List Item) → HaveOwnIds (first ∷ rest) → HaveOwnIds rest
  own_rest first rest own = λ one other d less there. own (suc one) (suc other) d (omega arith) (omega arith)

  pub seen_again : (items : List Item) → HaveOwnIds items → All (IsSeenIn items) items
  seen_again [] own = All-nil (IsSeenIn [])
  seen_again (first ∷ rest) own =
      All-cons (IsSeenIn (first ∷ rest)) first rest (first_seen first rest)
      (λ at d there. later_seen first (get_or rest at d) rest (first_is_other first rest own at d there)
      (seen_again rest (own_rest first rest own) at d there))
