-- The protected ranges of a spreadsheet, in order of id: `protectedRangeId` of the Google Sheets
-- API v4.
use Rattle.std.specs.Prelude.{ℕ, ◌<◌, Bool, not, ◌==◌, nat_lt, List, ◌∷◌, ◌++◌, Option, is_some, AllPairs, filter, find, map, if◌then◌else◌}
use Rattle.protection.specs.declared.range.Protection.{Protection}

-- each has a lesser id than those behind it
abbrev pub IsInOrder : List Protection → Type 0
IsInOrder protections = AllPairs (λ one other. one.id < other.id) protections

-- the one with the id
abbrev pub with_id : ℕ → List Protection → Option Protection
with_id id protections = find (λ protection. protection.id == id) protections

-- one has the id
abbrev pub has_id : List Protection → ℕ → Bool
has_id protections id = is_some (with_id id protections)

-- the list with one more, behind those of lesser ids and before those of greater ones
abbrev pub with_one_more : Protection → List Protection → List Protection
with_one_more protection protections =
    filter (λ other. nat_lt other.id protection.id) protections
    ++ protection ∷ filter (λ other. nat_lt protection.id other.id) protections

-- the list without the one with the id
abbrev pub without_id : ℕ → List Protection → List Protection
without_id id protections = filter (λ protection. not (protection.id == id)) protections

-- the list with the one with the id changed
abbrev pub with_changed : ℕ → (Protection → Protection) → List Protection → List Protection
with_changed id changed protections =
    map (λ protection. if protection.id == id then changed protection else protection) protections
