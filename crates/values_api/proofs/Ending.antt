-- Lists without their empty end: what is empty behind a place doesn't count.
use Rattle.std.proofs.Common.{◌≡◌, ℕ, zero, suc, ◌+◌, ◌-◌, ◌<◌, ◌≤◌, false, true, Bool, List, [], ◌∷◌, ◌++◌, map, length, take, get_or, sym, ◌∙◌, ap, arith}
use Rattle.std.proofs.lemmas.List.FromFn.{map-range_with_len_more, length-map-range_with_len, take-map-range_with_len, get_or-map-range_with_len}
use Rattle.std.proofs.lemmas.List.Sums.{suffix_len-take_yes, suffix_len-take_no}
use Rattle.std.specs.List.{range_with_len, suffix_len}
use Rattle.values_api.specs.Shown.{without_empty_end}

module _ {A : Type 0} (empty : A → Bool) (f : ℕ → A) where
  abbrev made : ℕ → List A
  made n = map f (range_with_len 0 n)

  -- one empty thing more at the end
  longer : (n : ℕ) → empty (f n) ≡ true → without_empty_end empty (made (n + 1)) ≡ without_empty_end empty (made n)
  longer n is =
      let all : length (made (n + 1)) ≡ n + 1 = length-map-range_with_len f 0 (n + 1) in
      let fewer : length (made n) ≡ n = length-map-range_with_len f 0 n in
      let here = get_or-map-range_with_len f 0 (n + 1) n n (f n) (omega arith) (omega arith) in
      let front : take n (made (n + 1)) ≡ made n = take-map-range_with_len f 0 (n + 1) n (omega arith) in
      let whole : take (n + 1) (made (n + 1)) ≡ made (n + 1) =
      take-map-range_with_len f 0 (n + 1) (n + 1) (omega arith) in
      let last : (n + 1) - 1 ≡ n = omega arith in
      let more : suffix_len empty (made (n + 1)) ≡ 1 + suffix_len empty (made n) =
      sym (ap (suffix_len empty) whole)
      ∙ suffix_len-take_yes empty (made (n + 1)) (n + 1) (f n) (omega arith) (omega (arith, all))
      (ap (λ k. empty (get_or (made (n + 1)) k (f n))) last ∙ ap empty here ∙ is)
      ∙ ap (λ k. 1 + suffix_len empty (take k (made (n + 1)))) last
      ∙ ap (λ xs. 1 + suffix_len empty xs) front in
      let kept : length (made (n + 1)) - suffix_len empty (made (n + 1)) ≡ length (made n) - suffix_len empty (made n) =
      omega (arith, all, fewer, more) in
      let few : length (made n) - suffix_len empty (made n) ≤ n = omega (arith, fewer) in
      let few' : length (made n) - suffix_len empty (made n) ≤ n + 1 = omega (arith, few) in
      ap (λ k. take k (made (n + 1))) kept
      ∙ take-map-range_with_len f 0 (n + 1) (length (made n) - suffix_len empty (made n)) few'
      ∙ sym (take-map-range_with_len f 0 n (length (made n) - suffix_len empty (made n)) few)

  longer_by : (n d : ℕ) → ((k : ℕ) → n ≤ k → k < n + d → empty (f k) ≡ true)
      → without_empty_end empty (made (n + d)) ≡ without_empty_end empty (made n)
  longer_by n zero all =
      let same : n + zero ≡ n = omega arith in
      ap (λ k. without_empty_end empty (made k)) same
  longer_by n (suc d) all =
      let same : n + suc d ≡ (n + d) + 1 = omega arith in
      ap (λ k. without_empty_end empty (made k)) same
      ∙ longer (n + d) (all (n + d) (omega arith) (omega arith))
      ∙ longer_by n d (λ k from to. all k from (omega arith))

  -- what is empty behind a place doesn't count
  pub cut_short : (n m : ℕ) → n ≤ m → ((k : ℕ) → n ≤ k → k < m → empty (f k) ≡ true)
      → without_empty_end empty (made m) ≡ without_empty_end empty (made n)
  cut_short n m le all =
      let same : n + (m - n) ≡ m = omega arith in
      ap (λ k. without_empty_end empty (made k)) (sym same)
      ∙ longer_by n (m - n) (λ k from to. all k from (omega (arith, same)))

  -- all empty, nothing is left
  pub cut_all : (m : ℕ) → ((k : ℕ) → k < m → empty (f k) ≡ true) → without_empty_end empty (made m) ≡ []
  cut_all m all = cut_short 0 m (omega arith) (λ k from to. all k to)

-- one thing more is made
pub made_next : {A : Type 0} (f : ℕ → A) (n : ℕ) (things things' : List A) (thing : A) → things' ≡ things ++ thing ∷ []
    → thing ≡ f n → things ≡ map f (range_with_len 0 n) → things' ≡ map f (range_with_len 0 (n + 1))
made_next f n things things' thing pushed is so_far =
    pushed ∙ ap (λ list. list ++ thing ∷ []) so_far ∙ ap (λ one. map f (range_with_len 0 n) ++ one ∷ []) is
    ∙ sym (map-range_with_len_more f 0 n n (omega arith))

-- the last of the first things, and whether it is empty
pub last_empty : {A : Type 0} (empty : A → Bool) (things : List A) (kept : ℕ) (last : A) → 0 < kept → kept
    ≤ length things
    → last ≡ get_or things (kept - 1) last → empty last ≡ true
    → suffix_len empty (take kept things) ≡ 1 + suffix_len empty (take (kept - 1) things)
last_empty empty things kept last some few is so =
    suffix_len-take_yes empty things kept last some few (ap empty (sym is) ∙ so)

pub last_filled : {A : Type 0} (empty : A → Bool) (things : List A) (kept : ℕ) (last : A) → 0 < kept → kept
    ≤ length things
    → last ≡ get_or things (kept - 1) last → empty last ≡ false → suffix_len empty (take kept things) ≡ 0
last_filled empty things kept last some few is so =
    suffix_len-take_no empty things kept last some few (ap empty (sym is) ∙ so)
