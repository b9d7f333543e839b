-- What is found at a place of a list, and in parts that span so many keys each.
use Rattle.std.specs.Prelude.{ℕ, ◌/◌, ◌%◌, List, Option, None, slice_index_or, cond, ◌==◌, ◌-◌, nat_lt}
use Rattle.std.specs.Option.{option_and_then}

-- what stands at the place; nothing behind the last
abbrev pub place_at : {P : Type 0} → List (Option P) → ℕ → Option P
place_at places index = slice_index_or places index None

-- what is found at the key of a part, if there is one
abbrev pub in_part : {P T : Type 0} → (P → ℕ → Option T) → Option P → ℕ → Option T
in_part find part key = option_and_then (λ p. find p key) part

-- what is found at the key in parts of so many keys each
abbrev pub in_parts : {P T : Type 0} → (P → ℕ → Option T) → ℕ → List (Option P) → ℕ → Option T
in_parts find span parts key = in_part find (place_at parts (key / span)) (key % span)

-- the number, or 1 for 0
abbrev pub positive : ℕ → ℕ
positive n = cond (n == 0) 1 n

-- what is found at the key where the first keys stand in a part of their own
abbrev pub in_headed : {H R T : Type 0} → (H → ℕ → Option T) → (R → ℕ → Option T) → (span : ℕ) → H → R → ℕ → Option T
in_headed find_head find_rest span head rest key =
    cond (nat_lt key span) (find_head head key) (find_rest rest (key - span))
