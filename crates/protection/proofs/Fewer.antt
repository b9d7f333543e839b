-- No more ranges are left of a list than stand in another order of it.
use Rattle.std.proofs.Common.{◌≡◌, ℕ, ◌+◌, ◌≤◌, Bool, not, Option, None, Some, List, [], ◌∷◌, length, refl, arith}
use Rattle.std.proofs.lemmas.List.Filters.{length-filter_both}
use Rattle.std.proofs.lemmas.List.Sorted.{length_permutation}
use Rattle.std.specs.List.{filter_map, cons_option}
use Rattle.std.specs.List.Sorted.{IsPermutation}
use Rattle.std.specs.Prelude.{filter}
use Rattle.grid_range.specs.declared.area.Area.{Area}

length-cons_option : (first : Option Area) (rest : List Area) (n : ℕ) → length rest ≤ n
    → length (cons_option first rest) ≤ n + 1
length-cons_option None rest n le = omega arith
length-cons_option (Some first) rest n le = omega arith

length-filter_map : (becomes : Area → Option Area) (ranges : List Area)
    → length (filter_map becomes ranges) ≤ length ranges
length-filter_map becomes [] = omega arith
length-filter_map becomes (first ∷ rest) =
    let more : length (cons_option (becomes first) (filter_map becomes rest)) ≤ length rest + 1 =
    length-cons_option (becomes first) (filter_map becomes rest) (length rest) (length-filter_map becomes rest) in
    omega arith

pub fewer_follow : (becomes : Area → Option Area) (ranges other : List Area) → IsPermutation ranges other
    → length (filter_map becomes ranges) ≤ length other
fewer_follow becomes ranges other same =
    let long : length other ≡ length ranges = length_permutation ranges other same in
    let fewer : length (filter_map becomes ranges) ≤ length ranges = length-filter_map becomes ranges in
    omega arith

pub fewer_pass : (test : Area → Bool) (ranges other : List Area) → IsPermutation ranges other
    → length (filter test ranges) ≤ length other
fewer_pass test ranges other same =
    let long : length other ≡ length ranges = length_permutation ranges other same in
    let both : length (filter test ranges) + length (filter (λ range. not (test range)) ranges) ≡ length ranges =
    length-filter_both test (λ range. not (test range)) (λ range. refl) ranges in
    omega arith
