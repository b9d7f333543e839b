-- Two lists of numbers in rising order that have the same members are one.
use Rattle.std.proofs.Common.{◌≡◌, ℕ, suc, refl, sym, ap, ◌∙◌, List, [], ◌∷◌, arith, inl, inr}
use Rattle.std.specs.Prelude.{◌⊎◌, ◌<◌}
use Rattle.std.specs.List.{All, AllPairs, Contains}
use Rattle.std.proofs.lemmas.List.Elements.{All-cons, All-nil, All-contains, Contains-append_cases, Contains-append_right, Contains-get_or}

abbrev IsRising : List ℕ → Type 0
IsRising = AllPairs (λ one other. one < other)

all_above : (x : ℕ) (xs : List ℕ) → IsRising (x ∷ xs) → All (λ n. x < n) xs
all_above x xs rising k d there = rising 0 (suc k) d (omega arith) (omega (arith, there))

rest_rises : (x : ℕ) (xs : List ℕ) → IsRising (x ∷ xs) → IsRising xs
rest_rises x xs rising i j d less there = rising (suc i) (suc j) d (omega (arith, less)) (omega (arith, there))

no_member : (n : ℕ) → Contains [] n → ⊥
no_member n has = let there = has.1 in let no : ⊥ = omega (arith, there) in no

first_member : (x : ℕ) (xs : List ℕ) → Contains (x ∷ xs) x
first_member x xs = Contains-get_or (x ∷ xs) 0 x (omega arith)

-- a member is the first, or one of the rest
member_cases : (x : ℕ) (xs : List ℕ) (n : ℕ) → Contains (x ∷ xs) n → (x ≡ n) ⊎ Contains xs n
member_cases x xs n has = elim (Contains-append_cases (x ∷ []) xs n has) [
  | inl first ↦
      inl (All-contains (λ m. x ≡ m) (x ∷ []) n (All-cons (λ m. x ≡ m) x [] refl (All-nil (λ m. x ≡ m))) first)
  | inr later ↦ inr later
]

above : (x : ℕ) (xs : List ℕ) → IsRising (x ∷ xs) → (n : ℕ) → Contains xs n → x < n
above x xs rising n has = All-contains (λ m. x < m) xs n (all_above x xs rising) has

not_below_first : (x y : ℕ) (ys : List ℕ) → IsRising (y ∷ ys) → Contains (y ∷ ys) x → x < y → ⊥
not_below_first x y ys rising has less = elim (member_cases y ys x has) [
  | inl same ↦ let no : ⊥ = omega (arith, same, less) in no
  | inr later ↦ let more = above y ys rising x later in let no : ⊥ = omega (arith, more, less) in no
]

same_first : (x y : ℕ) (xs ys : List ℕ) → IsRising (x ∷ xs) → IsRising (y ∷ ys) → Contains (y ∷ ys) x
    → Contains (x ∷ xs) y → x ≡ y
same_first x y xs ys rising rising' has has' = elim (member_cases y ys x has) [
  | inl same ↦ sym same
  | inr later ↦ absurd (not_below_first y x xs rising has' (above y ys rising' x later))
]

-- where the first is one, the rest have the same members
rest_has : (x y : ℕ) (xs ys : List ℕ) → IsRising (x ∷ xs) → x ≡ y
    → ((n : ℕ) → Contains (x ∷ xs) n → Contains (y ∷ ys) n) → (n : ℕ) → Contains xs n → Contains ys n
rest_has x y xs ys rising same all n has =
    elim (member_cases y ys n (all n (Contains-append_right (x ∷ []) xs n has))) [
      | inl first ↦ let more = above x xs rising n has in absurd (let no : ⊥ = omega (arith, same, first, more) in no)
      | inr later ↦ later
    ]

pub same_lines : (xs ys : List ℕ) → IsRising xs → IsRising ys → ((n : ℕ) → Contains xs n → Contains ys n)
    → ((n : ℕ) → Contains ys n → Contains xs n) → xs ≡ ys
same_lines [] [] rising rising' all all' = refl
same_lines [] (y ∷ ys) rising rising' all all' = absurd (no_member y (all' y (first_member y ys)))
same_lines (x ∷ xs) [] rising rising' all all' = absurd (no_member x (all x (first_member x xs)))
same_lines (x ∷ xs) (y ∷ ys) rising rising' all all' =
    let same = same_first x y xs ys rising rising' (all x (first_member x xs)) (all' y (first_member y ys)) in
    ap (λ first. first ∷ xs) same
    ∙ ap (λ rest. y ∷ rest) (same_lines xs ys (rest_rises x xs rising) (rest_rises y ys rising')
    (rest_has x y xs ys rising same all) (rest_has y x ys xs rising' (sym same) all'))
