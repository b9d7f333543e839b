-- The keys that are found below an end: over parts, and in order.
use native.Mathlib.Omega.{arith}
use Rattle.std.proofs.Common.{◌≡◌, ℕ, zero, suc, ◌+◌, ◌-◌, ◌*◌, ◌/◌, ◌%◌, ◌<◌, ◌≤◌, ◌⊎◌, inl, inr, true, false, List, [], ◌∷◌, ◌++◌, map, refl, sym, ap, ◌∙◌, append_assoc}
use Rattle.std.proofs.Math.Nat.{add-zero, add-suc, add_assoc, suc-mul, le-div_iff_mul-le}
use Rattle.std.proofs.lemmas.Nat.{div-mul-add, mod-mul-add}
use Rattle.std.proofs.Math.Bool.{and-false}
use Rattle.std.proofs.lemmas.Bool.{lt-leb, le-leb, lt-ltb, le-ltb}
use Rattle.std.proofs.lemmas.Bool.Decides.{nat_tests}
use Rattle.std.proofs.lemmas.List.{append-nil, map-append}
use Rattle.std.proofs.Math.ListN.{get_or-eq_default}
use Rattle.std.specs.Prelude.{Option, Some, None, is_some, cond, nat_le, min, length}
use Rattle.std.specs.Borrow.{Bor}
use Rattle.std.specs.Option.{option_copied}
use Rattle.shared_map.specs.Found.{keys_found}
use Rattle.shared_map.specs.Places.{place_at, in_part, in_parts, in_headed}

first_after : (first start count : ℕ) → nat_le first (start + count) ≡ nat_le (first - start) count
first_after first start count = grind (arith, nat_tests)

module _ {T : Type 0} where
  -- no key stands before the first
  pub keys_found-before : (find : ℕ → Option T) (base first end : ℕ) → end ≤ first → keys_found find base first end ≡ []
  unfolding keys_found
  keys_found-before find base first zero le = refl
  keys_found-before find base first (suc key) le =
      rw (lt-leb first key (omega arith), keys_found-before find base first key (omega arith)) refl

  -- where nothing is found there are no keys
  pub keys_found-none : (find : ℕ → Option T) (base first end : ℕ) → ((key : ℕ) → key < end → find key ≡ None)
      → keys_found find base first end ≡ []
  unfolding keys_found
  keys_found-none find base first zero none = refl
  keys_found-none find base first (suc key) none =
      rw (
        none key (omega arith),
        and-false (nat_le first key),
        keys_found-none find base first key (λ k lt. none k (omega arith)),
      ) refl

  -- where the same is found there are the same keys
  pub keys_found-same : (find part : ℕ → Option T) (base first end : ℕ) → ((key : ℕ) → key < end → find key ≡ part key)
      → keys_found find base first end ≡ keys_found part base first end
  unfolding keys_found
  keys_found-same find part base first zero same = refl
  keys_found-same find part base first (suc key) same =
      rw (same key (omega arith), keys_found-same find part base first key (λ k lt. same k (omega arith))) refl

  -- the keys of a part that begins at `start` stand behind those before it
  pub keys_found-part : (find part : ℕ → Option T) (base first start count : ℕ)
      → ((key : ℕ) → key < count → find (start + key) ≡ part key)
      → keys_found find base first (start + count) ≡ keys_found find base first start
      ++ keys_found part (base + start) (first - start) count
  unfolding keys_found
  keys_found-part find part base first start zero same =
      ap (keys_found find base first) (add-zero start) ∙ sym (append-nil (keys_found find base first start))
  keys_found-part find part base first start (suc count) same =
      ap (keys_found find base first) (add-suc start count)
      ∙ rw (
        keys_found-part find part base first start count (λ k lt. same k (omega arith)),
        same count (omega arith),
        first_after first start count,
        sym (add_assoc base start count),
      )
      (append_assoc (keys_found find base first start) (keys_found part (base + start) (first - start) count) _)

  -- behind the last that is found the end does not matter
  pub keys_found-stops : (find : ℕ → Option T) (base first low end : ℕ) → low ≤ end
      → ((key : ℕ) → low ≤ key → find key ≡ None)
      → keys_found find base first end ≡ keys_found find base first low
  keys_found-stops find base first low end le none =
      ap (keys_found find base first) (let e : end ≡ low + (end - low) = omega arith in e)
      ∙ keys_found-part find (λ _. None) base first low (end - low) (λ key _. none (low + key) (omega arith))
      ∙ ap (λ keys. keys_found find base first low ++ keys)
      (keys_found-none (λ _. None) (base + low) (first - low) (end - low) (λ _ _. refl))
      ∙ append-nil (keys_found find base first low)

  -- one more key, at which something is found, and at which nothing is
  pub keys_found-more : (find : ℕ → Option T) (base first key : ℕ) → first ≤ key → is_some (find key) ≡ true
      → keys_found find base first (key + 1) ≡ keys_found find base first key ++ (base + key) ∷ []
  unfolding keys_found
  keys_found-more find base first key le some =
      ap (keys_found find base first) (let e : key + 1 ≡ suc key = omega arith in e)
      ∙ rw (le-leb first key le, some) refl

  pub keys_found-past : (find : ℕ → Option T) (base first key : ℕ) → is_some (find key) ≡ false
      → keys_found find base first (key + 1) ≡ keys_found find base first key
  unfolding keys_found
  keys_found-past find base first key none =
      ap (keys_found find base first) (let e : key + 1 ≡ suc key = omega arith in e)
      ∙ rw (none, and-false (nat_le first key)) (append-nil (keys_found find base first key))

-- the end of a part's keys, where `at` is its first
next : (index span : ℕ) → (index + 1) * span ≡ index * span + span
next index span = ap (λ (n : ℕ). n * span) (let e : index + 1 ≡ suc index = omega arith in e) ∙ suc-mul index span

up_to : (at last span end : ℕ) → 0 < span → at ≤ last → end ≡ at + span → min (last + 1) end
    ≡ at + (min (last - at) (span - 1) + 1)
up_to at last span end positive le e = omega arith

within : (key at last span : ℕ) → 0 < span → key < min (last - at) (span - 1) + 1 → key < span
within key at last span positive lt = omega arith

from_start : (at last : ℕ) → at ≤ last → min (last + 1) at ≡ at
from_start at last le = omega arith

-- nothing stands behind the last place
pub no_place : {P : Type 0} (places : List (Option P)) (index : ℕ) → length places ≤ index
    → place_at places index ≡ None
no_place places index le = get_or-eq_default places None le

-- a number is below another, or it is that or above
pub below_or : (low high : ℕ) → (low < high) ⊎ (high ≤ low)
below_or low high = grind arith

-- the part at an index that is not past the last key's begins at or before that key, and one past it after that key
pub before_last : (index last span : ℕ) → 0 < span → index < last / span + 1 → index * span ≤ last
before_last index last span positive lt =
    let le : index ≤ last / span = omega arith in (le-div_iff_mul-le {k = span} {x = index} {y = last} positive).0 le

pub past_last : (index last span : ℕ) → 0 < span → last / span + 1 ≤ index → last + 1 ≤ index * span
past_last index last span positive le = elim (below_or last (index * span)) [
  | inl lt ↦ omega arith
  | inr from ↦ let at : index ≤ last / span = (le-div_iff_mul-le {k = span} {x = index} {y = last} positive).1 from in
      absurd (omega arith)
]

-- what is found at a key of the part at the index
module _ {P T : Type 0} (find : P → ℕ → Option T) (span : ℕ) (parts : List (Option P)) where
  in_parts-part : (index key : ℕ) → key < span → in_parts find span parts (index * span + key)
      ≡ in_part find (place_at parts index) key
  in_parts-part index key lt = simp (div-mul-add index span key lt, mod-mul-add index span key lt)

  -- from the first key of the part at the index on, nothing is found where the parts end before it
  pub none_past : (index : ℕ) → 0 < span → length parts ≤ index → (key : ℕ) → index * span ≤ key
      → in_parts find span parts key ≡ None
  none_past index positive le key from =
      let at : index ≤ key / span = (le-div_iff_mul-le {k = span} {x = index} {y = key} positive).1 from in
      ap (λ (place : Option P). in_part find place (key % span)) (no_place parts (key / span) (omega arith))

  -- the keys of the part at the index stand behind those of the parts before it
  pub part_more : (base first last index : ℕ) → 0 < span → index * span ≤ last
      → keys_found (in_parts find span parts) base first (min (last + 1) ((index + 1) * span))
      ≡ keys_found (in_parts find span parts) base first (min (last + 1) (index * span))
      ++ keys_found (in_part find (place_at parts index)) (base + index * span) (first - index * span)
      (min (last - index * span) (span - 1) + 1)
  part_more base first last index positive le =
      ap (keys_found (in_parts find span parts) base first)
      (up_to (index * span) last span ((index + 1) * span) positive le (next index span))
      ∙ keys_found-part (in_parts find span parts) (in_part find (place_at parts index)) base first (index * span)
      (min (last - index * span) (span - 1) + 1)
      (λ key lt. in_parts-part index key (within key (index * span) last span positive lt))
      ∙ ap (λ end. keys_found (in_parts find span parts) base first end
      ++ keys_found (in_part find (place_at parts index)) (base + index * span) (first - index * span)
      (min (last - index * span) (span - 1) + 1)) (sym (from_start (index * span) last le))

-- what is found where the first keys stand in a part of their own
module _ {H R T : Type 0} (find_head : H → ℕ → Option T) (find_rest : R → ℕ → Option T) (span : ℕ) (head : H)
    (rest : R) where
  in_head : (key : ℕ) → key < span → in_headed find_head find_rest span head rest key ≡ find_head head key
  in_head key lt = ap (λ b. cond b (find_head head key) (find_rest rest (key - span))) (lt-ltb key span lt)

  in_rest : (key : ℕ) → in_headed find_head find_rest span head rest (span + key) ≡ find_rest rest key
  in_rest key =
      ap (λ b. cond b (find_head head (span + key)) (find_rest rest (span + key - span)))
      (le-ltb (span + key) span (omega arith))
      ∙ ap (find_rest rest) (let e : span + key - span ≡ key = omega arith in e)

  module _ (base first last : ℕ) where
    pub head_listed : last < span
        → keys_found (in_headed find_head find_rest span head rest) base first (last + 1)
        ≡ keys_found (find_head head) base first (min (last + 1) span)
    head_listed lt =
        keys_found-same (in_headed find_head find_rest span head rest) (find_head head) base first (last + 1)
        (λ key less. in_head key (omega arith))
        ∙ ap (keys_found (find_head head) base first) (let e : last + 1 ≡ min (last + 1) span = omega arith in e)

    pub both_listed : span ≤ last
        → keys_found (in_headed find_head find_rest span head rest) base first (last + 1)
        ≡ keys_found (find_head head) base first (min (last + 1) span)
        ++ keys_found (find_rest rest) (base + span) (first - span) (last - span + 1)
    both_listed le =
        ap (keys_found (in_headed find_head find_rest span head rest) base first)
        (let e : last + 1 ≡ span + (last - span + 1) = omega arith in e)
        ∙ keys_found-part (in_headed find_head find_rest span head rest) (find_rest rest) base first span
        (last - span + 1)
        (λ key lt. in_rest key)
        ∙ ap (λ keys. keys ++ keys_found (find_rest rest) (base + span) (first - span) (last - span + 1))
        (keys_found-same (in_headed find_head find_rest span head rest) (find_head head) base first span in_head
        ∙ ap (keys_found (find_head head) base first) (let e : span ≡ min (last + 1) span = omega arith in e))

pub is_some-copied : {T : Type 0} (item : Option (Bor T)) → is_some (option_copied item) ≡ is_some item
is_some-copied None = refl
is_some-copied (Some item) = refl

capped : (last reached : ℕ) → last + 1 ≤ reached → min (last + 1) reached ≡ last + 1
capped last reached le = omega arith

reaches : (last reached : ℕ) → reached < last + 1 → min (last + 1) reached ≡ reached
reaches last reached lt = omega arith

-- the keys so far, and those at one more, in the list that they are put behind
pub listed_more : {K : Type 0} (listed : ℕ → K) (before : List K) (keys more : List ℕ) (found after : List K)
    (keys_after : List ℕ)
    → found ≡ before ++ map listed keys → after ≡ found ++ map listed more → keys_after ≡ keys ++ more
    → after ≡ before ++ map listed keys_after
listed_more listed before keys more found after keys_after have put are =
    put ∙ ap (λ list. list ++ map listed more) have ∙ append_assoc before (map listed keys) (map listed more)
    ∙ ap (λ list. before ++ list) (sym (map-append listed keys more) ∙ ap (map listed) (sym are))

pub listed_none : {K : Type 0} (listed : ℕ → K) (before : List K) (keys : List ℕ) → keys ≡ [] → before ≡ before
    ++ map listed keys
listed_none listed before keys none = sym (ap (λ list. before ++ map listed list) none ∙ append-nil before)

module _ {T : Type 0} (find : ℕ → Option T) (base first last reached : ℕ) where
  -- where the last key is reached, or nothing is found from there on, all keys are listed
  pub all_listed : (last + 1 ≤ reached) ⊎ ((key : ℕ) → reached ≤ key → find key ≡ None)
      → keys_found find base first (min (last + 1) reached) ≡ keys_found find base first (last + 1)
  all_listed (inl le) = ap (keys_found find base first) (capped last reached le)
  all_listed (inr none) = elim (below_or reached (last + 1)) [
    | inl lt ↦ ap (keys_found find base first) (reaches last reached lt)
        ∙ sym (keys_found-stops find base first reached (last + 1) (omega arith) none)
    | inr le ↦ ap (keys_found find base first) (capped last reached le)
  ]

  -- up to the first key there is none
  pub none_listed : reached ≤ first → keys_found find base first (min (last + 1) reached) ≡ []
  none_listed le = keys_found-before find base first (min (last + 1) reached) (omega arith)

  one_listed : (key : ℕ) → key < last + 1 → min (last + 1) (key + 1) ≡ key + 1
  one_listed key lt = omega arith

  -- one key more
  pub found_more : first ≤ reached → reached < last + 1 → is_some (find reached) ≡ true
      → keys_found find base first (min (last + 1) (reached + 1)) ≡ keys_found find base first (min (last + 1) reached)
      ++ (base + reached) ∷ []
  found_more le lt some =
      ap (keys_found find base first) (one_listed reached lt) ∙ keys_found-more find base first reached le some
      ∙ ap (λ end. keys_found find base first end ++ (base + reached) ∷ []) (sym (reaches last reached lt))

  pub found_none : reached < last + 1 → is_some (find reached) ≡ false
      → keys_found find base first (min (last + 1) (reached + 1)) ≡ keys_found find base first (min (last + 1) reached)
  found_none lt none =
      ap (keys_found find base first) (one_listed reached lt) ∙ keys_found-past find base first reached none
      ∙ ap (keys_found find base first) (sym (reaches last reached lt))

-- the keys of a head are listed where it has some from the first on, and where not
pub head_put : {K T : Type 0} (listed : ℕ → K) (find : ℕ → Option T) (base first last span : ℕ) (before after : List K)
    → ((first < span) × (after ≡ before ++ map listed (keys_found find base first (min last (span - 1) + 1))))
    ⊎ ((span ≤ first) × (after ≡ before))
    → after ≡ before ++ map listed (keys_found find base first (min (last + 1) span))
head_put listed find base first last span before after (inl put) =
    let lt : first < span = put.0 in
    put.1 ∙ ap (λ (end : ℕ). before ++ map listed (keys_found find base first end))
    (let e : min last (span - 1) + 1 ≡ min (last + 1) span = omega arith in e)
head_put listed find base first last span before after (inr none) =
    let le : span ≤ first = none.0 in
    none.1 ∙ listed_none listed before _ (keys_found-before find base first (min (last + 1) span) (omega arith))
