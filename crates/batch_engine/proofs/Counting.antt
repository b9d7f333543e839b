-- How many different things a list has, by sorting it.
use Rattle.std.proofs.Common.{◌≡◌, ℕ, Bool, true, refl, sym, ap, subst, ◌∙◌, List, [], ◌∷◌, length, cond, Ordering}
use Rattle.std.specs.Prelude.{◌||◌, ◌&&◌, ◌==◌}
use Rattle.std.specs.Bool.{Decides}
use Rattle.std.specs.Cmp.{IsTotalOrder, IsEquivalence, tied_then, unsigned_ties, unsigned_Decides}
use Rattle.std.specs.List.{dedup}
use Rattle.std.specs.List.Sorted.{IsSorted, IsPermutation}
use Rattle.std.specs.Ordering.{eq_by_cmp, is_eq, nat_cmp, ordering_then}
use Rattle.std.specs.Set.{distinct_count, is_member, unique_keys}
use Rattle.std.proofs.lemmas.Cmp.{and_equiv, eq_by_cmp_equiv, nat_cmp_total, nat_eq_equiv, on_equiv, on_total, then_total}
use Rattle.std.proofs.lemmas.List.Kept.{Contains-dedup, Contains-from_dedup, IsStrictlySortedBy-dedup}
use Rattle.std.proofs.lemmas.List.Sorted.{Contains-permutation, IsPermutation-sym}
use Rattle.std.proofs.lemmas.Map.Keys.{IsDistinct-from_sorted}
use Rattle.std.proofs.lemmas.Map.Made.{is_member-Decides, length-from_keys}
use Rattle.batch_engine.specs.Calls.{same_line}

module _ {K : Type 0} {R : K → K → Ordering} (o : IsTotalOrder R) {E : K → K → Bool}
    (ties : (x y : K) → E x y ≡ eq_by_cmp R x y) (laws : IsEquivalence E)
    (same : (x y : K) → Decides (E x y) (x ≡ y)) where
  member_same : (xs : List K) (q : K) → is_member E xs q ≡ is_member (eq_by_cmp R) xs q
  member_same [] q = refl
  member_same (x ∷ xs) q =
      ap (λ b. b || is_member E xs q) (ties q x) ∙ ap (λ b. eq_by_cmp R q x || b) (member_same xs q)

  unique_same : (xs : List K) → unique_keys E xs ≡ unique_keys (eq_by_cmp R) xs
  unique_same [] = refl
  unique_same (x ∷ xs) =
      ap (λ b. cond b (unique_keys E xs) (x ∷ unique_keys E xs)) (member_same xs x)
      ∙ ap (λ keys. cond (is_member (eq_by_cmp R) xs x) keys (x ∷ keys)) (unique_same xs)

  decides : (x y : K) → Decides (eq_by_cmp R x y) (x ≡ y)
  decides x y = subst (λ b. Decides b (x ≡ y)) (ties x y) (same x y)

  answers : (b c : Bool) → (b ≡ true → c ≡ true) → (c ≡ true → b ≡ true) → b ≡ c
  answers true c up down = sym (up refl)
  answers Bool.false true up down = down refl
  answers Bool.false Bool.false up down = refl

  pub count_sorted : (xs sorted : List K) → IsPermutation xs sorted → IsSorted R sorted
      → length (dedup E sorted) ≡ distinct_count E xs
  count_sorted xs sorted moved in_order =
      let kept = dedup E sorted in
      length-from_keys (eq_by_cmp_equiv o) kept xs
      (IsDistinct-from_sorted R kept (IsStrictlySortedBy-dedup o ties sorted in_order))
      (λ q. answers (is_member (eq_by_cmp R) kept q) (is_member (eq_by_cmp R) xs q)
      (λ is. (is_member-Decides decides xs q).1
      (Contains-permutation sorted xs q (IsPermutation-sym xs sorted moved)
      (Contains-from_dedup E sorted q ((is_member-Decides decides kept q).0 is))))
      (λ is. (is_member-Decides decides kept q).1
      (Contains-dedup laws (λ x y. (same x y).0) sorted q
      (Contains-permutation xs sorted q moved ((is_member-Decides decides xs q).0 is)))))
      ∙ sym (ap length (unique_same xs))

-- numbers
pub numbers_counted : (xs sorted : List ℕ) → IsPermutation xs sorted → IsSorted nat_cmp sorted
    → length (dedup ◌==◌ sorted) ≡ distinct_count ◌==◌ xs
numbers_counted = count_sorted nat_cmp_total unsigned_ties nat_eq_equiv unsigned_Decides

-- lines
abbrev line_cmp : ℕ × ℕ → ℕ × ℕ → Ordering
line_cmp line other = ordering_then (nat_cmp line.0 other.0) (nat_cmp line.1 other.1)

abbrev sheet_of : ℕ × ℕ → ℕ
sheet_of line = line.0

abbrev number_of : ℕ × ℕ → ℕ
number_of line = line.1

line_total : IsTotalOrder line_cmp
line_total = then_total (on_total sheet_of nat_cmp_total) (on_total number_of nat_cmp_total)

line_ties : (line other : ℕ × ℕ) → same_line line other ≡ eq_by_cmp line_cmp line other
line_ties line other =
    ap (λ b. b && (line.1 == other.1)) (unsigned_ties line.0 other.0)
    ∙ ap (λ b. is_eq (nat_cmp line.0 other.0) && b) (unsigned_ties line.1 other.1)
    ∙ tied_then (nat_cmp line.0 other.0) (nat_cmp line.1 other.1)

line_equiv : IsEquivalence same_line
line_equiv = and_equiv (on_equiv sheet_of nat_eq_equiv) (on_equiv number_of nat_eq_equiv)

both_true : (b c : Bool) → (b && c) ≡ true → (b ≡ true) × (c ≡ true)
both_true true c is = (refl, is)
both_true Bool.false c is = absurd (not_true is)
  where
    not_true : Bool.false ≡ true → ⊥
    not_true e = cc

line_same : (line other : ℕ × ℕ) → Decides (same_line line other) (line ≡ other)
line_same line other = (
  (λ is.
      let both = both_true (line.0 == other.0) (line.1 == other.1) is in
      ap (λ (sheet : ℕ). (sheet, line.1)) ((unsigned_Decides line.0 other.0).0 both.0)
      ∙ ap (λ (number : ℕ). (other.0, number)) ((unsigned_Decides line.1 other.1).0 both.1)),
  (λ is. subst (λ (one : ℕ × ℕ). same_line line one ≡ true) is (line_equiv.refl line)),
)

pub lines_counted : (xs sorted : List (ℕ × ℕ)) → IsPermutation xs sorted → IsSorted line_cmp sorted
    → length (dedup same_line sorted) ≡ distinct_count same_line xs
lines_counted = count_sorted line_total line_ties line_equiv line_same
