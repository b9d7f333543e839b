-- Each number of lines has an order of so many names, of which each change that fits can be made.
use Rattle.std.proofs.Common.{◌≡◌, ℕ, zero, suc, ◌+◌, ◌<◌, add-zero, zero-add, List, [], ◌∷◌, ◌++◌, length, get_or, arith, refl, sym, ap, subst, ◌∙◌, length-append}
use Rattle.grid_range.specs.Order.{IsOrder}
use Rattle.grid_range.specs.OrderChange.{CanBeMade, order_after}
use Rattle.grid_range.specs.declared.change.Change.{Change}
use Rattle.grid_range.specs.declared.change.Change.TheVariants.{Insert, Delete, Move}
use Rattle.grid_range.specs.Change.{Fits, Changes, order_change, inserted_lines}
use Rattle.grid_range.proofs.Orders.{IsOrder-from_places}
use Rattle.grid_range.proofs.Changes.{exchanged_order, inserted_exchanged}

-- an order of so many names from a first one on
pub numbers : ℕ → ℕ → List ℕ
numbers first zero = []
numbers first (suc count) = first ∷ numbers (suc first) count

pub length-numbers : (first count : ℕ) → length (numbers first count) ≡ count
unfolding numbers
length-numbers first zero = refl
length-numbers first (suc count) = ap suc (length-numbers (suc first) count)

get_or-numbers : (first count j : ℕ) → j < count → get_or (numbers first count) j 0 ≡ first + j
unfolding numbers
get_or-numbers first zero j l = absurd (omega arith)
get_or-numbers first (suc count) zero l = omega arith
get_or-numbers first (suc count) (suc j) l =
    get_or-numbers (suc first) count j (omega arith) ∙ (let e : suc first + j ≡ first + suc j = omega arith in e)

numbers-append : (first one more : ℕ) → numbers first one ++ numbers (first + one) more ≡ numbers first (one + more)
unfolding numbers
numbers-append first zero more = rw (add-zero first, zero-add more) refl
numbers-append first (suc one) more =
    let front : first + suc one ≡ suc first + one = omega arith in
    let all : suc one + more ≡ suc (one + more) = omega arith in
    rw (front, all) (ap (λ ys. first ∷ ys) (numbers-append (suc first) one more))

numbers_order : (first count : ℕ) → IsOrder (numbers first count)
numbers_order first count = IsOrder-from_places (numbers first count) (λ i j below there same.
    let size = length-numbers first count in
    let at_i = get_or-numbers first count i (omega arith) in
    let at_j = get_or-numbers first count j (omega arith) in
    omega arith)

-- each change that fits is a change of that order
pub numbers_change : (change : Change) (count : ℕ) → Fits change count
    → Changes change count (numbers 0 count) (numbers count (inserted_lines change))
    (order_after (order_change change (numbers count (inserted_lines change))) (numbers 0 count))
numbers_change change count fits = record {
  distinct = numbers_order 0 count;
  long = length-numbers 0 count;
  inserts = length-numbers count (inserted_lines change);
  made = made change fits;
  result = refl;
}
  where
    size : length (numbers 0 count) ≡ count
    size = length-numbers 0 count

    made : (change : Change) → Fits change count
        → CanBeMade (order_change change (numbers count (inserted_lines change))) (numbers 0 count)
    made (Insert at number) f =
        let fresh = length-numbers count number in
        let both = length-append (numbers 0 count) (numbers count number) in (
          omega (arith, size, f.0),
          (λ none. let empty = ap length none in omega (arith, f.1)),
          subst IsOrder (inserted_exchanged (numbers 0 count) (numbers count number) 0)
              (exchanged_order (numbers 0 count ++ numbers count number) (length (numbers 0 count))
              (length (numbers 0 count) + length (numbers count number)) 0 (omega arith) (omega arith)
              (omega arith)
              (subst IsOrder (sym (rw (zero-add count) at (numbers-append 0 count number)))
              (numbers_order 0 (count + number)))),
        )
    made (Delete a b) f = (f.0, omega (arith, size))
    made (Move a b to) f = (f.0, omega (arith, size), omega (arith, size))
