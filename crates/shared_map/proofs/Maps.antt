-- The finite map of what is found: what it holds at a key, and how it follows a write.
use native.Mathlib.Omega.{arith}
use Rattle.std.proofs.Common.{◌≡◌, ◌≢◌, ℕ, zero, suc, ◌+◌, ◌-◌, ◌^◌, ◌<◌, ◌≤◌, ◌⊎◌, inl, inr, Bool, true, false, cond, List, refl, sym, ap, subst, ◌∙◌}
use Rattle.std.proofs.lemmas.Bool.{false≢true}
use Rattle.std.proofs.lemmas.Bool.Decides.{nat_tests}
use Rattle.std.specs.Prelude.{Option, Some, None, is_some}
use Rattle.std.specs.Ordering.{nat_cmp, eq_by_cmp}
use Rattle.std.specs.Cmp.{nat_cmp_total}
use Rattle.std.specs.FinMap as map
use Rattle.shared_map.specs.Finding.{FindsSame, Updates}
use Rattle.shared_map.specs.Map.{with_entry, entries_below, map_of}
use Rattle.shared_map.proofs.Keys.{below_or}

tied : (a b : ℕ) → eq_by_cmp nat_cmp a b ≡ true → a ≡ b
tied a b e = grind (arith, nat_tests)

untied : (a b : ℕ) → eq_by_cmp nat_cmp a b ≡ false → a ≢ b
untied a b e same = grind (arith, nat_tests)

itself : (a : ℕ) → eq_by_cmp nat_cmp a a ≡ true
itself a = grind (arith, nat_tests)

apart : (a b : ℕ) → b < a ⊎ a < b → eq_by_cmp nat_cmp a b ≡ false
apart a b h = grind (arith, nat_tests)

-- in the step from `key` to its successor
pub last_or : (key last : ℕ) → key < suc last → (key ≡ last) ⊎ (key < last)
last_or key last lt = grind arith

-- where there is no item
pub none_of : {A : Type 0} (item : Option A) → is_some item ≡ false → item ≡ None
none_of None e = refl
none_of (Some item) e = absurd (false≢true (sym e))

module _ {T : Type 0} where
  found_there : (slot : Option T) (key : ℕ) (entries : List (ℕ × T)) → map.find nat_cmp key entries ≡ None
      → map.find nat_cmp key (with_entry key slot entries) ≡ slot
  found_there None key entries none = none
  found_there (Some item) key entries none = rw (itself key) refl

  found_elsewhere : (slot : Option T) (last key : ℕ) (entries : List (ℕ × T)) → eq_by_cmp nat_cmp key last ≡ false
      → map.find nat_cmp key (with_entry last slot entries) ≡ map.find nat_cmp key entries
  found_elsewhere None last key entries other = refl
  found_elsewhere (Some item) last key entries other = rw other refl

  none_from : (find : ℕ → Option T) (end key : ℕ) → end ≤ key → map.find nat_cmp key (entries_below find end) ≡ None
  unfolding entries_below
  none_from find zero key le = refl
  none_from find (suc last) key le =
      found_elsewhere (find last) last key (entries_below find last) (apart key last (inl (omega arith)))
      ∙ none_from find last key (omega arith)

  found_below : (find : ℕ → Option T) (end key : ℕ) → key < end
      → map.find nat_cmp key (entries_below find end) ≡ find key
  unfolding entries_below
  found_below find zero key lt = absurd (omega arith)
  found_below find (suc last) key lt = elim (last_or key last lt) [
    | inl e ↦ subst (λ k. map.find nat_cmp k (with_entry last (find last) (entries_below find last)) ≡ find k) (sym e)
        (found_there (find last) last (entries_below find last) (none_from find last last (omega arith)))
    | inr l ↦ found_elsewhere (find last) last key (entries_below find last) (apart key last (inr l))
        ∙ found_below find last key l
  ]

  -- what the map holds at a key of 64 bits
  pub get-map_of : (find : ℕ → Option T) (key : ℕ) → key < 2 ^ 64 → map.get (map_of find) key ≡ find key
  unfolding map_of
  get-map_of find key lt = map.get-from_entries nat_cmp_total (entries_below find (2 ^ 64)) key
      ∙ found_below find (2 ^ 64) key lt

  get_past : (find : ℕ → Option T) (key : ℕ) → 2 ^ 64 ≤ key → map.get (map_of find) key ≡ None
  unfolding map_of
  get_past find key le = map.get-from_entries nat_cmp_total (entries_below find (2 ^ 64)) key
      ∙ none_from find (2 ^ 64) key le

  -- a key that holds an item is of 64 bits
  pub key_fits : (find : ℕ → Option T) (key : ℕ) → is_some (map.get (map_of find) key) ≡ true → key < 2 ^ 64
  key_fits find key some = elim (below_or key (2 ^ 64)) [
    | inl lt ↦ lt
    | inr le ↦ absurd (false≢true (sym (ap is_some (get_past find key le)) ∙ some))
  ]

  get_same : (old new : ℕ → Option T) (key : ℕ) → new key ≡ old key → map.get (map_of new) key
      ≡ map.get (map_of old) key
  get_same old new key same = elim (below_or key (2 ^ 64)) [
    | inl lt ↦ get-map_of new key lt ∙ same ∙ sym (get-map_of old key lt)
    | inr le ↦ get_past new key le ∙ sym (get_past old key le)
  ]

  pub unchanged : (old new : ℕ → Option T) → FindsSame old new → map_of new ≡ map_of old
  unchanged old new same =
      map.same_map nat_cmp_total map.nat_cmp-IsAntisymmetric _ _ (λ key. get_same old new key (same.same key))

  get_updated : (old new : ℕ → Option T) (key : ℕ) (slot : Option T) → key < 2 ^ 64 → Updates old new key slot
      → (other : ℕ)
      → map.get (map_of new) other ≡ cond (eq_by_cmp nat_cmp other key) slot (map.get (map_of old) other)
  get_updated old new key slot fits updates other =
      elim (eq_by_cmp nat_cmp other key) as (λ b. eq_by_cmp nat_cmp other key ≡ b → map.get (map_of new) other
      ≡ cond b slot (map.get (map_of old) other)) [
        | true ↦ λ e. ap (map.get (map_of new)) (tied other key e) ∙ get-map_of new key fits ∙ updates.changed
        | false ↦ λ e. get_same old new other (updates.others other (untied other key e))
      ] refl

  pub put : (old new : ℕ → Option T) (key : ℕ) (item : T) → key < 2 ^ 64 → Updates old new key (Some item)
      → map_of new ≡ map.insert (map_of old) key item
  put old new key item fits updates = map.same_map nat_cmp_total map.nat_cmp-IsAntisymmetric _ _ (λ other.
      get_updated old new key (Some item) fits updates other
      ∙ sym (map.get-insert nat_cmp_total (map_of old) key item other))

  pub taken : (old new : ℕ → Option T) (key : ℕ) → key < 2 ^ 64 → Updates old new key None
      → map_of new ≡ map.remove (map_of old) key
  taken old new key fits updates = map.same_map nat_cmp_total map.nat_cmp-IsAntisymmetric _ _ (λ other.
      get_updated old new key None fits updates other ∙ sym (map.get-remove nat_cmp_total (map_of old) key other))

  -- what finds nothing
  pub empty : (find : ℕ → Option T) → ((key : ℕ) → find key ≡ None) → map_of find ≡ map.empty
  empty find none = map.same_map nat_cmp_total map.nat_cmp-IsAntisymmetric _ _ (λ key.
      (elim (below_or key (2 ^ 64)) as (λ _. map.get (map_of find) key ≡ None) [
        | inl lt ↦ get-map_of find key lt ∙ none key
        | inr le ↦ get_past find key le
      ]) ∙ sym (map.get-empty nat_cmp key))

  -- a key that holds nothing is taken by leaving the map as it is
  pub taken_none : (find : ℕ → Option T) (key : ℕ) → key < 2 ^ 64 → find key ≡ None → map_of find
      ≡ map.remove (map_of find) key
  taken_none find key fits none = taken find find key fits (record { changed = none; others = λ other _. refl })

  module _ (old new : ℕ → Option T) (key : ℕ) (fits : key < 2 ^ 64) where
    counted : (b : Bool) → is_some (old key) ≡ b → map.contains_key (map_of old) key ≡ b
    counted b is = ap is_some (get-map_of old key fits) ∙ is

    pub count_put : (item : T) (b : Bool) → Updates old new key (Some item) → is_some (old key) ≡ b
        → map.len (map_of new) ≡ cond b (map.len (map_of old)) (map.len (map_of old) + 1)
    count_put item b updates is =
        ap map.len (put old new key item fits updates) ∙ map.len-insert nat_cmp_total (map_of old) key item
        ∙ ap (λ held. cond held (map.len (map_of old)) (map.len (map_of old) + 1)) (counted b is)

    pub count_taken : Updates old new key None → is_some (old key) ≡ true → map.len (map_of new)
        ≡ map.len (map_of old) - 1
    count_taken updates is =
        ap map.len (taken old new key fits updates) ∙ map.len-remove nat_cmp_total (map_of old) key
        ∙ ap (λ held. cond held (map.len (map_of old) - 1) (map.len (map_of old))) (counted true is)

  pub count_positive : (find : ℕ → Option T) (key : ℕ) → key < 2 ^ 64 → is_some (find key) ≡ true → 0
      < map.len (map_of find)
  count_positive find key fits is = elim (below_or 0 (map.len (map_of find))) [
    | inl lt ↦ lt
    | inr le ↦
        let none : map_of find ≡ map.empty = map.empty_of_len (map_of find) (omega arith) in
        absurd (false≢true
        (ap is_some
        (sym (map.get-empty nat_cmp key) ∙ sym (ap (λ m. map.get m key) none) ∙ get-map_of find key fits) ∙ is))
  ]
