-- The total of what a list of shared sheets or spreadsheets holds, as far as a loop has come.
use Rattle.std.proofs.Common.{◌≡◌, ℕ, ◌+◌, ◌<◌, ◌≤◌, refl, sym, ap, ◌∙◌, List, [], ◌∷◌, length, get_or, take, map, arith}
use Rattle.std.specs.List.{sum_by}
use Rattle.std.proofs.lemmas.List.{take_all}
use Rattle.std.proofs.lemmas.List.Sums.{sum_by-cons, sum_by_more, sum_by-take-le}

module _ {X Y : Type 0} (f : Y → ℕ) (value : X → Y) where
  -- the total of the first ones
  abbrev pub so_far : ℕ → List X → ℕ
  so_far i xs = sum_by (λ x. f (value x)) (take i xs)

  seen : (xs : List X) → sum_by (λ x. f (value x)) xs ≡ sum_by f (map value xs)
  seen [] = refl
  seen (x ∷ xs) =
      sum_by-cons (λ x. f (value x)) x xs
      ∙ ap (λ n. f (value x) + n) (seen xs)
      ∙ sym (sum_by-cons f (value x) (map value xs))

  module _ (xs : List X) (i : ℕ) (total : ℕ) (is : total ≡ so_far i xs) where
    pub total_more : (x : X) (step : ℕ) → i < length xs → x ≡ get_or xs i x → step ≡ f (value x)
        → total + step ≡ so_far (i + 1) xs
    total_more x step there item same =
        ap (λ n. n + step) is
        ∙ ap (λ n. so_far i xs + n) (same ∙ ap (λ x. f (value x)) item)
        ∙ sym (sum_by_more (λ x. f (value x)) xs i x there)

    pub total_within : (x : X) (step : ℕ) → i < length xs → x ≡ get_or xs i x → step ≡ f (value x)
        → total + step ≤ sum_by f (map value xs)
    total_within x step there item same =
        let more = total_more x step there item same in
        let few = sum_by-take-le (λ x. f (value x)) xs (i + 1) in
        let all = seen xs in
        omega (arith, more, few, all)

    pub total_all : length xs ≤ i → total ≡ sum_by f (map value xs)
    total_all past = is ∙ ap (sum_by (λ x. f (value x))) (take_all i xs past) ∙ seen xs
