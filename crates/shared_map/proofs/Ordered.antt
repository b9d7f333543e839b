-- The keys that are found below an end stand in order, each once, and they are those.
use native.Mathlib.Omega.{arith}
use Rattle.std.proofs.Common.{◌≡◌, ℕ, zero, suc, ◌+◌, ◌^◌, ◌<◌, ◌≤◌, ◌⊎◌, inl, inr, Bool, true, false, ◌&&◌, cond, List, [], ◌∷◌, ◌++◌, refl, sym, subst, ◌∙◌}
use Rattle.std.proofs.Math.Nat.{zero-add}
use Rattle.std.proofs.lemmas.Bool.{false≢true, leb-true, le-leb}
use Rattle.std.proofs.lemmas.Bool.Decides.{nat_tests}
use Rattle.std.proofs.lemmas.List.{append-nil}
use Rattle.std.proofs.lemmas.List.Elements.{Contains-append_left, Contains-push, Contains-push_cases}
use Rattle.std.specs.Prelude.{Option, is_some, nat_le, Contains}
use Rattle.std.specs.Option.{IsSome}
use Rattle.std.specs.List.{AllByRecursion}
use Rattle.std.specs.List.Sorted.{IsStrictlySortedBy}
use Rattle.std.specs.Ordering.{nat_cmp}
use Rattle.std.specs.declared.cmp.Ordering.TheVariants.{Less}
use Rattle.shared_map.specs.Found.{keys_found}
use Rattle.shared_map.specs.Map.{map_of, AreKeysWithin}
use Rattle.shared_map.proofs.Maps.{last_or, get-map_of}

-- in order, and below the end
record Ascends (keys : List ℕ) (end : ℕ) : Type 0 where
  sorted : IsStrictlySortedBy nat_cmp keys
  below : AllByRecursion (λ key. key < end) keys

less : (a b : ℕ) → a < b → nat_cmp a b ≡ Less
less a b lt = grind (arith, nat_tests)

push_all : (P : ℕ → Type 0) (keys : List ℕ) (key : ℕ) → AllByRecursion P keys → P key
    → AllByRecursion P (keys ++ key ∷ [])
push_all P [] key all p = (p, tt)
push_all P (k ∷ keys) key all p = (all.0, push_all P keys key all.1 p)

below_more : (keys : List ℕ) (end : ℕ) → AllByRecursion (λ key. key < end) keys
    → AllByRecursion (λ key. key < suc end) keys
below_more [] end below = tt
below_more (k ∷ keys) end below = let lt = below.0 in (omega arith, below_more keys end below.1)

push_sorted : (keys : List ℕ) (key : ℕ) → IsStrictlySortedBy nat_cmp keys → AllByRecursion (λ k. k < key) keys
    → IsStrictlySortedBy nat_cmp (keys ++ key ∷ [])
unfolding IsStrictlySortedBy
push_sorted [] key sorted below = (tt, tt)
push_sorted (k ∷ keys) key sorted below = (
  push_all (λ other. nat_cmp k other ≡ Less) keys key sorted.0 (less k key below.0),
  push_sorted keys key sorted.1 below.1,
)

nothing_ascends : (end : ℕ) → Ascends [] end
unfolding IsStrictlySortedBy
nothing_ascends end = record { sorted = tt; below = tt }

one_more : (kept : Bool) (keys : List ℕ) (key : ℕ) → Ascends keys key
    → Ascends (keys ++ cond kept (key ∷ []) []) (suc key)
one_more true keys key ascends = record {
  sorted = push_sorted keys key ascends.sorted ascends.below;
  below = push_all (λ k. k < suc key) keys key (below_more keys key ascends.below) (omega arith);
}
one_more false keys key ascends = subst (λ ks. Ascends ks (suc key)) (sym (append-nil keys)) (record {
  sorted = ascends.sorted;
  below = below_more keys key ascends.below;
})

one_of : (kept : Bool) (keys : List ℕ) (last key : ℕ) → Contains (keys ++ cond kept (last ∷ []) []) key
    → Contains keys key ⊎ ((kept ≡ true) × (last ≡ key))
one_of true keys last key listed =
    elim (Contains-push_cases keys last key listed) [ inl old ↦ inl old | inr e ↦ inr (refl, e) ]
one_of false keys last key listed = inl (subst (λ ks. Contains ks key) (append-nil keys) listed)

both : (a b : Bool) → (a && b) ≡ true → (a ≡ true) × (b ≡ true)
both true b e = (refl, e)
both false b e = absurd (false≢true e)

both_true : (a b : Bool) → a ≡ true → b ≡ true → (a && b) ≡ true
both_true true b e f = f
both_true false b e f = e

none_in : (key : ℕ) → Contains [] key → ⊥
none_in key listed = let lt = listed.1 in omega arith

module _ {T : Type 0} (find : ℕ → Option T) (first : ℕ) where
  ascends : (end : ℕ) → Ascends (keys_found find 0 first end) end
  unfolding keys_found
  ascends zero = nothing_ascends 0
  ascends (suc key) =
      subst (λ k. Ascends (keys_found find 0 first key ++ cond (nat_le first key && is_some (find key)) (k ∷ []) [])
      (suc key)) (sym (zero-add key))
      (one_more _ (keys_found find 0 first key) key (ascends key))

  holds : (end key : ℕ) → Contains (keys_found find 0 first end) key → (first ≤ key) × (key < end) × IsSome (find key)
  unfolding keys_found
  holds zero key listed = absurd (none_in key listed)
  holds (suc last) key listed = elim (one_of _ (keys_found find 0 first last) (0 + last) key listed) [
    | inl old ↦ let held = holds last key old in let lt = held.1 in (held.0, omega arith, held.2)
    | inr new ↦ let kept = both (nat_le first last) (is_some (find last)) new.0 in
        subst (λ k. (first ≤ k) × (k < suc last) × IsSome (find k)) (sym (zero-add last) ∙ new.1)
        (leb-true first last kept.0, omega arith, kept.1)
  ]

  lists : (end key : ℕ) → first ≤ key → key < end → IsSome (find key) → Contains (keys_found find 0 first end) key
  unfolding keys_found
  lists zero key from lt some = absurd (omega arith)
  lists (suc last) key from lt some = elim (last_or key last lt) [
    | inl e ↦
        let kept = both_true (nat_le first last) (is_some (find last))
        (le-leb first last (subst (λ k. first ≤ k) e from)) (subst (λ k. IsSome (find k)) e some) in
        subst (λ b. Contains (keys_found find 0 first last ++ cond b ((0 + last) ∷ []) []) key) (sym kept)
        (subst (λ k. Contains (keys_found find 0 first last ++ (0 + last) ∷ []) k) (zero-add last ∙ sym e)
        (Contains-push (keys_found find 0 first last) (0 + last)))
    | inr l ↦ Contains-append_left (keys_found find 0 first last) _ key (lists last key from l some)
  ]

  pub are_keys : (last : ℕ) → last < 2 ^ 64
      → AreKeysWithin first last (map_of find) (keys_found find 0 first (last + 1))
  are_keys last fits = record {
    in_order = (ascends (last + 1)).sorted;
    exactly = λ key. (
      (λ listed.
          let held = holds (last + 1) key listed in let lt = held.1 in
          let le : key ≤ last = omega arith in
          let low : key < 2 ^ 64 = omega arith in
          (held.0, le, subst IsSome (sym (get-map_of find key low)) held.2)),
      (λ held.
          let le = held.1 in
          let lt : key < last + 1 = omega arith in
          let low : key < 2 ^ 64 = omega arith in
          lists (last + 1) key held.0 lt (subst IsSome (get-map_of find key low) held.2)),
    );
  }
