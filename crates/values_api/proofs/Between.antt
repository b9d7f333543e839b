-- Places in order, and those of a line from one on to another.
use Rattle.std.proofs.Common.{◌≡◌, ℕ, ◌<◌, ◌≤◌, ◌⊎◌, inl, inr, List, length, get_or, refl, sym, subst, ap, ◌∙◌, true, false, arith}
use Rattle.std.specs.Prelude.{nat_lt, nat_le}
use Rattle.std.specs.declared.cmp.Ordering.TheVariants.{Less}
use Rattle.std.specs.List.Sorted.{IsStrictlySortedBy, IsPartitionedBy}
use Rattle.std.proofs.lemmas.Bool.Decides.{nat_tests}
use Rattle.std.proofs.lemmas.Bool.{ltb-true, leb-true}
use Rattle.std.proofs.lemmas.List.{get_or_default}
use Rattle.std.proofs.lemmas.Map.Keys.{Less-from_sorted}
use Rattle.grid_range.specs.Area.{by_rows}
use Rattle.values_api.specs.Tables.{is_before, HasBetween, IsStart}

-- one place is before another
abbrev IsBefore : ℕ × ℕ → ℕ × ℕ → Type 0
IsBefore one other = (one.0 < other.0) ⊎ ((one.0 ≡ other.0) × (one.1 < other.1))

before_from : (a b c d : ℕ) → by_rows (a, b) (c, d) ≡ Less → IsBefore (a, b) (c, d)
before_from a b c d less = grind (arith, nat_tests)

test_holds : (line from a b : ℕ) → IsBefore (a, b) (line, from) → is_before line from (a, b) ≡ true
test_holds line from a b (inl less) = grind (arith, nat_tests)
test_holds line from a b (inr same) = grind (arith, nat_tests)

test_is : (line from a b : ℕ) → is_before line from (a, b) ≡ true → IsBefore (a, b) (line, from)
test_is line from a b is = grind (arith, nat_tests)

test_fails : (line from a b : ℕ) → is_before line from (a, b) ≡ false → IsBefore (a, b) (line, from) → ⊥
test_fails line from a b is before = grind (arith, nat_tests, test_holds line from a b before)

before_on : (a b c d e f : ℕ) → IsBefore (a, b) (c, d) → IsBefore (c, d) (e, f) → IsBefore (a, b) (e, f)
before_on a b c d e f (inl one) (inl other) = inl (omega arith)
before_on a b c d e f (inl one) (inr other) = inl (omega arith)
before_on a b c d e f (inr one) (inl other) = inl (omega arith)
before_on a b c d e f (inr one) (inr other) = inr (omega arith, omega arith)

-- what isn't before it is behind
record IsBehind (line from a b : ℕ) : Type 0 where
  row : line ≤ a
  col : a ≡ line → from ≤ b

behind : (line from a b : ℕ) → is_before line from (a, b) ≡ false → IsBehind line from a b
behind line from a b is = record {
  row = grind (arith, nat_tests);
  col = λ same. grind (arith, nat_tests);
}

-- up to another number is below it, or it
pub split : {i j : ℕ} → i ≤ j → (i < j) ⊎ (i ≡ j)
split {i} {j} up = elim (nat_lt i j) as (λ b. nat_lt i j ≡ b → (i < j) ⊎ (i ≡ j)) [
  | true ↦ λ is. inl (ltb-true i j is)
  | false ↦ λ is. inr (grind (arith, nat_tests))
] refl

module _ (places : List (ℕ × ℕ)) (sorted : IsStrictlySortedBy by_rows places) where
  in_turn : (i j : ℕ) (d : ℕ × ℕ) → i < j → j < length places → IsBefore (get_or places i d) (get_or places j d)
  in_turn i j d less there =
      before_from (get_or places i d).0 (get_or places i d).1 (get_or places j d).0 (get_or places j d).1
      (Less-from_sorted by_rows places i j d sorted less there)

  pub partitioned : (line from : ℕ) → IsPartitionedBy (is_before line from) places
  partitioned line from i j d up there passes = by_order i j d (split up) there passes
    where
      by_order : (i j : ℕ) (d : ℕ × ℕ) → (i < j) ⊎ (i ≡ j) → j < length places
          → is_before line from (get_or places j d) ≡ true → is_before line from (get_or places i d) ≡ true
      by_order i j d (inl less) there passes =
          let one = get_or places i d in
          let other = get_or places j d in
          test_holds line from one.0 one.1
          (before_on one.0 one.1 other.0 other.1 line from (in_turn i j d less there)
          (test_is line from other.0 other.1 passes))
      by_order i j d (inr same) there passes =
          subst (λ k. is_before line from (get_or places k d) ≡ true) (sym same) passes

  module _ (line from to i : ℕ)
      (point : IsStart line from places i) where
    at_behind : (d : ℕ × ℕ) → i < length places → IsBehind line from (get_or places i d).0 (get_or places i d).1
    at_behind d there = behind line from (get_or places i d).0 (get_or places i d).1 (point.1 i d (omega arith) there)

    -- the first place that isn't before is one of the line
    pub found : (place : ℕ × ℕ) → i < length places → ((d : ℕ × ℕ) → place ≡ get_or places i d) → place.0 ≡ line
        → place.1 ≤ to → HasBetween places line from to
    found place there is same within =
        let first = subst (λ (p : ℕ × ℕ). IsBehind line from p.0 p.1) (sym (is place)) (at_behind place there) in
        record {
          at = place.1;
          from_there = first.col same;
          to_there = within;
          has = (i, there, sym (is (line, place.1)) ∙ ap (λ l. (l, place.1)) same);
        }

    -- and so is it where the line has a place
    pub record IsFirst : Type 0 where
      pub there : i < length places
      pub same_line : (d : ℕ × ℕ) → (get_or places i d).0 ≡ line
      pub within : (d : ℕ × ℕ) → (get_or places i d).1 ≤ to

    first_of : (at k : ℕ) → from ≤ at → at ≤ to → k < length places → ((d : ℕ × ℕ) → get_or places k d ≡ (line, at))
        → (i < k) ⊎ (i ≡ k) → IsFirst
    first_of at k low high there is (inl less) =
        let before : (d : ℕ × ℕ) → IsBefore (get_or places i d) (line, at) =
        (λ d. subst (IsBefore (get_or places i d)) (is d) (in_turn i k d less there)) in
        record {
          there = omega arith;
          same_line = λ d. row_of (get_or places i d) at high (before d) (at_behind d (omega arith));
          within = λ d. col_of (get_or places i d) at high (before d) (at_behind d (omega arith));
        }
      where
        row_of : (place : ℕ × ℕ) (at : ℕ) → at ≤ to → IsBefore place (line, at) → IsBehind line from place.0 place.1
            → place.0 ≡ line
        row_of place at high (inl less) after = absurd (omega arith)
        row_of place at high (inr same) after = same.0

        col_of : (place : ℕ × ℕ) (at : ℕ) → at ≤ to → IsBefore place (line, at) → IsBehind line from place.0 place.1
            → place.1 ≤ to
        col_of place at high (inl less) after = absurd (omega arith)
        col_of place at high (inr same) after = omega arith
    first_of at k low high there is (inr same) = record {
      there = omega arith;
      same_line = λ d. ap (λ (p : ℕ × ℕ). p.0) (ap (λ n. get_or places n d) same ∙ is d);
      within = λ d. subst (λ (p : ℕ × ℕ). p.1 ≤ to) (sym (ap (λ n. get_or places n d) same ∙ is d)) high;
    }

    not_earlier : (at k : ℕ) → from ≤ at → k < length places → ((d : ℕ × ℕ) → get_or places k d ≡ (line, at)) → i ≤ k
    not_earlier at k low there is = elim (nat_le i k) as (λ b. nat_le i k ≡ b → i ≤ k) [
      | true ↦ λ up. leb-true i k up
      | false ↦ λ down.
          let before = test_is line from line at
          (subst (λ (p : ℕ × ℕ). is_before line from p ≡ true) (is (line, at))
          (point.0 k (line, at) (omega arith) (grind (arith, nat_tests)))) in
          absurd (never before)
    ] refl
      where
        never : IsBefore (line, at) (line, from) → ⊥
        never (inl less) = omega arith
        never (inr same) = omega arith

    pub first_there : HasBetween places line from to → IsFirst
    first_there between =
        let (k, there, is) = between.has in
        let each : (d : ℕ × ℕ) → get_or places k d ≡ (line, between.at) =
        (λ d. get_or_default places k d (line, between.at) there ∙ is) in
        first_of between.at k between.from_there between.to_there there each
        (split (not_earlier between.at k between.from_there there each))
