-- How many lines there are after a change.
use Rattle.std.proofs.Common.{◌≡◌, ℕ, suc, ◌+◌, ◌-◌, ◌<◌, ◌≤◌, List, [], ◌∷◌, ◌++◌, length, take, drop, refl, ap, ◌∙◌, Bool, true, false, cond, not, arith, length-append, length-drop, ◌&&◌}
use Rattle.std.specs.Prelude.{Option, None, Some, ◌==◌, nat_le, slice_get, slice_range}
use Rattle.std.specs.List.{position_or_len, before_first}
use Rattle.std.proofs.lemmas.List.{length-take-le}
use Rattle.grid_range.specs.Change.{Changes, count_after}
use Rattle.grid_range.specs.Order.{from_first}
use Rattle.grid_range.specs.OrderChange.{put_before}
use Rattle.grid_range.specs.declared.change.Change.{Change}
use Rattle.grid_range.specs.declared.change.Change.TheVariants.{Insert, Delete, Move}

-- what stands before the first that passes, and what stands from it on, are all
first_of_both : (b : Bool) (x : ℕ) (xs rest : List ℕ) (n : ℕ) → length (take n xs) + length rest ≡ length xs
    → length (take (cond (not b) (1 + n) 0) (x ∷ xs)) + length (cond b (x ∷ xs) rest) ≡ length (x ∷ xs)
first_of_both true x xs rest n both = omega arith
first_of_both false x xs rest n both =
    let on : 1 + n ≡ suc n = omega arith in
    rw on (omega arith)

both_parts : (test : ℕ → Bool) (xs : List ℕ) → length (before_first test xs) + length (from_first test xs) ≡ length xs
both_parts test [] = refl
both_parts test (x ∷ xs) =
    first_of_both (test x) x xs (from_first test xs) (position_or_len test xs) (both_parts test xs)

length-put_before : (place : Option ℕ) (names order : List ℕ)
    → length (put_before place names order) ≡ length names + length order
length-put_before None names order = omega (arith, length-append order names)
length-put_before (Some name) names order =
    omega (
      arith,
      both_parts (λ n. n == name) order,
      length-append (before_first (λ n. n == name) order ++ names) (from_first (λ n. n == name) order),
      length-append (before_first (λ n. n == name) order) names,
    )

length-without : (order : List ℕ) (start end : ℕ) → start ≤ end → end ≤ length order
    → length (take start order ++ drop end order) ≡ length order - (end - start)
length-without order start end ordered there =
    omega (
      arith,
      length-append (take start order) (drop end order),
      length-take-le start order (omega arith),
      length-drop end order,
    )

length-inserted : (order fresh : List ℕ) (at : ℕ) → at ≤ length order
    → length (take at order ++ fresh ++ drop at order) ≡ length order + length fresh
length-inserted order fresh at there =
    omega (
      arith,
      length-append (take at order ++ fresh) (drop at order),
      length-append (take at order) fresh,
      length-take-le at order there,
      length-drop at order,
    )

length-moved : (b : Bool) (order : List ℕ) (start end to : ℕ) → start < end → end ≤ length order
    → length (cond b order (put_before (slice_get order to) (slice_range order start end)
    (take start order ++ drop end order)))
    ≡ length order
length-moved true order start end to some there = refl
length-moved false order start end to some there =
    omega (
      arith,
      length-put_before (slice_get order to) (slice_range order start end) (take start order ++ drop end order),
      length-without order start end (omega arith) there,
      length-take-le (end - start) (drop start order) (omega (arith, length-drop start order)),
    )

-- there are as many lines then as the change says
pub count_after_change : (change : Change) (count : ℕ) (order fresh after : List ℕ)
    → Changes change count order fresh after → length after ≡ count_after change count
count_after_change (Insert at inserted) count order fresh after changes =
    ap length changes.result ∙ length-inserted order fresh at changes.made.0
    ∙ ap (λ n. n + length fresh) changes.long ∙ ap (λ n. count + n) changes.inserts
count_after_change (Delete start end) count order fresh after changes =
    let some : start < end = changes.made.0 in
    ap length changes.result ∙ length-without order start end (omega arith) changes.made.1
    ∙ ap (λ n. n - (end - start)) changes.long
count_after_change (Move start end to) count order fresh after changes =
    ap length changes.result
    ∙ length-moved (nat_le start to && nat_le to end) order start end to changes.made.0 changes.made.1
    ∙ changes.long
