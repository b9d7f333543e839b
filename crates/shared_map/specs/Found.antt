-- The keys that hold an item, in order.
use Rattle.std.specs.Prelude.{ℕ, zero, suc, ◌+◌, ◌/◌, ◌%◌, ◌++◌, ◌&&◌, List, [], ◌∷◌, cond, Option, nat_le, is_some}

-- the keys from `first` on below `end` at which something is found, each after `base`
unfoldable pub keys_found : {T : Type 0} → (ℕ → Option T) → ℕ → ℕ → ℕ → List ℕ
keys_found find base first zero = []
keys_found find base first (suc key) =
    keys_found find base first key ++ cond (nat_le first key && is_some (find key)) ((base + key) ∷ []) []

-- the upper 32 bits of a key, and the lower 32
abbrev pub halves_of : ℕ → ℕ × ℕ
halves_of key = (key / 4294967296, key % 4294967296)
