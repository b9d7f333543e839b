-- A list with one item more at a place.
use Rattle.std.proofs.Common.{◌≡◌, ℕ, zero, suc, refl, sym, ap, List, [], ◌∷◌, length, Bool, true, false, cond, arith, ◌&&◌}
use Rattle.std.specs.Prelude.{Some}
use Rattle.std.specs.List.{All, AllPairs, AllZip, find, insert, list_all}
use Rattle.std.proofs.lemmas.Bool.{cond-false, false≢true}
use Rattle.std.proofs.lemmas.List.Elements.{All-cons}
use Rattle.std.proofs.lemmas.List.Kept.{AllPairs-cons}

not_both : (b b' : Bool) → b' ≡ false → (b && b') ≡ false
not_both true b' fails = fails
not_both false b' fails = refl

one_of : (b rest rest' : Bool) → (b && rest) ≡ false → (rest ≡ false → rest' ≡ false) → (b && rest') ≡ false
one_of true rest rest' fails behind = behind fails
one_of false rest rest' fails behind = refl

module _ {X : Type 0} where
  head_of : (P : X → Type 0) (x : X) (xs : List X) → All P (x ∷ xs) → P x
  head_of P x xs all = all 0 x (omega arith)

  tail_of : (P : X → Type 0) (x : X) (xs : List X) → All P (x ∷ xs) → All P xs
  tail_of P x xs all k d there = all (suc k) d (omega arith)

  tail_pairs : (R : X → X → Type 0) (x : X) (xs : List X) → AllPairs R (x ∷ xs) → AllPairs R xs
  tail_pairs R x xs pairs i j d below there = pairs (suc i) (suc j) d (omega arith) (omega arith)

  from_head : (R : X → X → Type 0) (x : X) (xs : List X) → AllPairs R (x ∷ xs) → All (R x) xs
  from_head R x xs pairs k d there = pairs 0 (suc k) d (omega arith) (omega arith)

  pub All-inserted : (P : X → Type 0) (at : ℕ) (new : X) (xs : List X) → P new → All P xs → All P (insert xs at new)
  All-inserted P zero new xs one all = All-cons P new xs one all
  All-inserted P (suc at) new [] one all = All-cons P new [] one all
  All-inserted P (suc at) new (x ∷ xs) one all =
      All-cons P x (insert xs at new) (head_of P x xs all) (All-inserted P at new xs one (tail_of P x xs all))

  pub AllPairs-inserted : (R : X → X → Type 0) (at : ℕ) (new : X) (xs : List X) → All (λ x. R new x) xs
      → All (λ x. R x new) xs → AllPairs R xs → AllPairs R (insert xs at new)
  AllPairs-inserted R zero new xs before behind pairs = AllPairs-cons R new xs before pairs
  AllPairs-inserted R (suc at) new [] before behind pairs = AllPairs-cons R new [] before pairs
  AllPairs-inserted R (suc at) new (x ∷ xs) before behind pairs =
      AllPairs-cons R x (insert xs at new)
      (All-inserted (R x) at new xs (head_of (λ x. R x new) x xs behind) (from_head R x xs pairs))
      (AllPairs-inserted R at new xs (tail_of (λ x. R new x) x xs before) (tail_of (λ x. R x new) x xs behind)
      (tail_pairs R x xs pairs))

  pub length-inserted : (at : ℕ) (new : X) (xs : List X) → length (insert xs at new) ≡ suc (length xs)
  length-inserted zero new xs = refl
  length-inserted (suc at) new [] = refl
  length-inserted (suc at) new (x ∷ xs) = ap suc (length-inserted at new xs)

  -- the new item isn't the one that is found
  pub find-inserted : (test : X → Bool) (at : ℕ) (new : X) (xs : List X) → test new ≡ false
      → find test (insert xs at new) ≡ find test xs
  find-inserted test zero new xs other = cond-false (test new) (Some new) (find test xs) other
  find-inserted test (suc at) new [] other = cond-false (test new) (Some new) (find test []) other
  find-inserted test (suc at) new (x ∷ xs) other = ap (cond (test x) (Some x)) (find-inserted test at new xs other)

  -- not all pass if they didn't
  pub still_not_all : (test : X → Bool) (at : ℕ) (new : X) (xs : List X) → list_all test xs ≡ false
      → list_all test (insert xs at new) ≡ false
  still_not_all test zero new xs fails = not_both (test new) (list_all test xs) fails
  still_not_all test (suc at) new [] fails = absurd (false≢true (sym fails))
  still_not_all test (suc at) new (x ∷ xs) fails =
      one_of (test x) (list_all test xs) (list_all test (insert xs at new)) fails (still_not_all test at new xs)

pub AllZip-inserted : {X Y : Type 0} (R : X → Y → Type 0) (at : ℕ) (x : X) (y : Y) (xs : List X) (ys : List Y) → R x y
    → AllZip R xs ys → AllZip R (insert xs at x) (insert ys at y)
AllZip-inserted R zero x y xs ys one all = (one, all)
AllZip-inserted R (suc at) x y [] [] one all = (one, tt)
AllZip-inserted R (suc at) x y [] (b ∷ others) one all = absurd all
AllZip-inserted R (suc at) x y (a ∷ more) [] one all = absurd all
AllZip-inserted R (suc at) x y (a ∷ more) (b ∷ others) one all = (all.0, AllZip-inserted R at x y more others one all.1)
