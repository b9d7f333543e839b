-- What is found in the parts of a map, by the digits of a key.
use Rattle.std.specs.Prelude.{ℕ, Option}
use Rattle.shared_map.specs.Places.{place_at, in_parts, in_headed, positive}
use Rattle.shared_map.specs.declared.branch.Branch.{Branch}
use Rattle.shared_map.specs.declared.headed.Headed.{Headed}
use Rattle.shared_map.specs.declared.leaf.Leaf.{Leaf}
use Rattle.shared_map.specs.declared.line.Line.{Line}

abbrev pub in_leaf : {T : Type 0} → Leaf T → ℕ → Option T
in_leaf leaf = place_at leaf.places.items

abbrev pub in_branch : {C T : Type 0} → (C → ℕ → Option T) → (span : ℕ) → Branch C span → ℕ → Option T
in_branch find span branch = in_parts find (positive span) branch.parts.items

abbrev pub in_heads : {H R T : Type 0} → (H → ℕ → Option T) → (R → ℕ → Option T) → (span : ℕ) → Headed H R span
    → ℕ → Option T
in_heads find_head find_rest span headed = in_headed find_head find_rest span headed.head headed.rest

-- the parts of a line
abbrev pub LineParts : Type 0 → Type 0
LineParts T = Headed (Leaf T) (Headed (Branch (Leaf T) 64) (Branch (Branch (Branch (Leaf T) 64) 4096) 262144) 4096) 64

abbrev pub in_line_parts : {T : Type 0} → LineParts T → ℕ → Option T
in_line_parts = in_heads in_leaf
    (in_heads (in_branch in_leaf 64) (in_branch (in_branch (in_branch in_leaf 64) 4096) 262144) 4096) 64

abbrev pub in_line : {T : Type 0} → Line T → ℕ → Option T
in_line line = in_line_parts line.parts

-- the parts of all 64 bits
abbrev pub Root : Type 0 → Type 0
Root T = Headed (Branch (Branch (Line T) 4294967296) 274877906944)
    (Branch (Branch (Branch (Branch (Line T) 4294967296) 274877906944) 17592186044416) 1125899906842624) 17592186044416

abbrev pub in_root : {T : Type 0} → Root T → ℕ → Option T
in_root = in_heads (in_branch (in_branch in_line 4294967296) 274877906944)
    (in_branch (in_branch (in_branch (in_branch in_line 4294967296) 274877906944) 17592186044416) 1125899906842624)
    17592186044416
