-- Among numbers from 1 on there is a least one that none of some things uses, where no thing uses two of them.
use Rattle.std.proofs.Common.{◌≡◌, ℕ, zero, suc, ◌+◌, ◌≤◌, refl, ap, subst, List, [], ◌∷◌, length, Bool, true, false, cond, inl, inr, arith}
use Rattle.std.specs.Prelude.{◌⊎◌, Some, is_some}
use Rattle.std.specs.List.{find}
use Rattle.std.proofs.lemmas.Bool.{cases_lt}
use Rattle.cell_value.specs.Ids.{IsLeastUnused}

-- ---- how many numbers a test takes

abbrev bit : Bool → ℕ
bit taken = cond taken 1 0

-- those from 1 on to the last one
abbrev count : (ℕ → Bool) → ℕ → ℕ
count test zero = 0
count test (suc last) = bit (test (suc last)) + count test last

counts_none : (test : ℕ → Bool) (last : ℕ) → ((n : ℕ) → 1 ≤ n → n ≤ last → test n ≡ false) → count test last ≡ 0
counts_none test zero none = refl
counts_none test (suc last) none =
    let here : bit (test (suc last)) ≡ 0 = ap bit (none (suc last) (omega arith) (omega arith)) in
    let before = counts_none test last (λ n from to. none n from (omega (arith, to))) in
    omega (arith, here, before)

counts_all : (test : ℕ → Bool) (last : ℕ) → ((n : ℕ) → 1 ≤ n → n ≤ last → test n ≡ true) → count test last ≡ last
counts_all test zero all = refl
counts_all test (suc last) all =
    let here : bit (test (suc last)) ≡ 1 = ap bit (all (suc last) (omega arith) (omega arith)) in
    let before = counts_all test last (λ n from to. all n from (omega (arith, to))) in
    omega (arith, here, before)

-- the test takes no two of these numbers
abbrev pub IsOnce : (ℕ → Bool) → ℕ → Type 0
IsOnce test last =
    (m n : ℕ) → 1 ≤ m → 1 ≤ n → m ≤ last → n ≤ last → test m ≡ true → test n ≡ true → m ≡ n

counts_one : (test : ℕ → Bool) (last : ℕ) → IsOnce test last → count test last ≤ 1
counts_one test zero once = omega arith
counts_one test (suc last) once =
    by_test (test (suc last)) refl (counts_one test last
    (λ m n from from' to to' is is'. once m n from from' (omega (arith, to)) (omega (arith, to')) is is'))
  where
    fails : (n : ℕ) (b : Bool) → test n ≡ b → test (suc last) ≡ true → 1 ≤ n → n ≤ last → b ≡ false
    fails n false is here from to = refl
    fails n true is here from to =
        let same = once n (suc last) from (omega arith) (omega (arith, to)) (omega arith) is here in
        absurd (omega (arith, same, to))

    by_test : (b : Bool) → test (suc last) ≡ b → count test last ≤ 1 → count test (suc last) ≤ 1
    by_test true here before_one =
        let first : bit (test (suc last)) ≡ 1 = ap bit here in
        let before = counts_none test last (λ n from to. fails n (test n) refl here from to) in
        omega (arith, first, before)
    by_test false here before_one =
        let first : bit (test (suc last)) ≡ 0 = ap bit here in omega (arith, first, before_one)

counts_both : (test one other : ℕ → Bool) → ((n : ℕ) → bit (test n) ≤ bit (one n) + bit (other n)) → (last : ℕ)
    → count test last ≤ count one last + count other last
counts_both test one other each zero = omega arith
counts_both test one other each (suc last) =
    let here = each (suc last) in
    let before = counts_both test one other each last in
    omega (arith, here, before)

-- ---- the least number that a test doesn't take

abbrev AllTaken : (ℕ → Bool) → ℕ → Type 0
AllTaken test last = (n : ℕ) → 1 ≤ n → n ≤ last → test n ≡ true

abbrev pub HasLeast : (ℕ → Bool) → Type 0
HasLeast test = (number : ℕ) × IsLeastUnused test number

least_up_to : (test : ℕ → Bool) (last : ℕ) → HasLeast test ⊎ AllTaken test last
least_up_to test zero = inr (λ n from to. absurd (omega (arith, from, to)))
least_up_to test (suc last) = by_before (least_up_to test last)
  where
    by_test : AllTaken test last → (b : Bool) → test (suc last) ≡ b → HasLeast test ⊎ AllTaken test (suc last)
    by_test all false is = inl (
      suc last,
      record { positive = omega arith; unused = is; least = λ n from less. all n from (omega (arith, less)) },
    )
    by_test all true is = inr (λ n from to. elim (cases_lt n (suc last)) [
      | inl less ↦ all n from (omega (arith, less))
      | inr most ↦ let same : suc last ≡ n = omega (arith, to, most) in subst (λ k. test k ≡ true) same is
    ])

    by_before : HasLeast test ⊎ AllTaken test last → HasLeast test ⊎ AllTaken test (suc last)
    by_before (inl found) = inl found
    by_before (inr all) = by_test all (test (suc last)) refl

-- ---- numbers that things use

module _ {X : Type 0} (uses : X → ℕ → Bool) where
  -- one of the things uses the number
  abbrev pub is_used : List X → ℕ → Bool
  is_used things number = is_some (find (λ x. uses x number) things)

  one_more : (x : X) (rest : List X) (n : ℕ) → bit (is_used (x ∷ rest) n) ≤ bit (uses x n) + bit (is_used rest n)
  one_more x rest n = by_use (uses x n)
    where
      by_use : (b : Bool) → bit (is_some (cond b (Some x) (find (λ x. uses x n) rest))) ≤ bit b + bit (is_used rest n)
      by_use true = omega arith
      by_use false = omega arith

  few_used : (things : List X) (last : ℕ) → ((x : X) → IsOnce (uses x) last)
      → count (is_used things) last ≤ length things
  few_used [] last once = let none = counts_none (is_used []) last (λ n from to. refl) in omega (arith, none)
  few_used (x ∷ rest) last once =
      let both = counts_both (is_used (x ∷ rest)) (uses x) (is_used rest) (one_more x rest) last in
      let one = counts_one (uses x) last (once x) in
      let others = few_used rest last once in
      omega (arith, both, one, others)

  pub some_unused : (things : List X) → ((x : X) → IsOnce (uses x) (length things + 1)) → HasLeast (is_used things)
  some_unused things once = by_search (least_up_to (is_used things) (length things + 1))
    where
      by_search : HasLeast (is_used things) ⊎ AllTaken (is_used things) (length things + 1)
          → HasLeast (is_used things)
      by_search (inl found) = found
      by_search (inr all) =
          let taken = counts_all (is_used things) (length things + 1) all in
          let few = few_used things (length things + 1) once in
          absurd (omega (arith, taken, few))
