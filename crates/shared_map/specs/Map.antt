-- The finite map that is found by a function from keys.
use Rattle.std.specs.Prelude.{ℕ, zero, suc, ◌≡◌, ◌≤◌, ◌++◌, ◌↔◌, ◌^◌, List, [], ◌∷◌, Option, Some, None, Contains}
use Rattle.std.specs.Prelude.{map as list_map}
use Rattle.std.specs.Option.{IsSome}
use Rattle.std.specs.Ordering.{nat_cmp}
use Rattle.std.specs.List.Sorted.{IsStrictlySortedBy}
use Rattle.std.specs.FinMap as map

-- the entries, and before them the key's, if something is found there
abbrev pub with_entry : {T : Type 0} → ℕ → Option T → List (ℕ × T) → List (ℕ × T)
with_entry key None entries = entries
with_entry key (Some item) entries = (key, item) ∷ entries

-- the entries of the keys below `end`
unfoldable pub entries_below : {T : Type 0} → (ℕ → Option T) → ℕ → List (ℕ × T)
entries_below find zero = []
entries_below find (suc key) = with_entry key (find key) (entries_below find key)

-- the finite map of what is found at the keys of 64 bits
unfoldable pub map_of : {T : Type 0} → (ℕ → Option T) → map.FinMap nat_cmp T
map_of find = map.from_entries (entries_below find (2 ^ 64))

-- these are the keys from the first to the last that hold an item, each once, in order
pub record AreKeysWithin {T : Type 0} (first last : ℕ) (items : map.FinMap nat_cmp T) (keys : List ℕ) : Type 0 where
  pub in_order : IsStrictlySortedBy nat_cmp keys
  pub exactly : (key : ℕ) → Contains keys key ↔ ((first ≤ key) × (key ≤ last) × IsSome (map.get items key))

-- such keys stand behind others, as they are listed
pub record AreListed {K : Type 0} (listed : ℕ → K) (Are : List ℕ → Type 0) (before after : List K) : Type 0 where
  pub keys : List ℕ
  pub are : Are keys
  pub is : after ≡ before ++ list_map listed keys
