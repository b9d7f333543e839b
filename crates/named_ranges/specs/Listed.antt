-- The named ranges of a spreadsheet in order of creation: the `NamedRange` of the Google Sheets API
-- v4. Ids are unique, and names ignoring ASCII case.
use Rattle.std.specs.Prelude.{ℕ, ◌≡◌, ◌≢◌, Bool, true, not, ◌&&◌, List, [], ◌∷◌, ◌++◌, Option, IsSomeAnd, is_some, AllPairs, filter, find, map, if◌then◌else◌, codes}
use Rattle.std.specs.List.{list_any}
use Rattle.std.specs.Str.{bytes_eq, str_to_ascii_lowercase}
use Rattle.std.specs.Fmt.{decimal}
use Rattle.cell_value.specs.Ids.{IsLeastUnused}
use Rattle.grid_range.specs.declared.area.Area.{Area}
use Rattle.named_ranges.specs.declared.range.NamedRange.{NamedRange}
use Rattle.named_ranges.specs.NameRule.{IsName}
use Rattle.named_ranges.specs.declared.range.NameFault.{NameFault}
use Rattle.named_ranges.specs.declared.range.NameFault.TheVariants.{NoMemory}

-- the two texts are one, ignoring ASCII case
abbrev pub is_same_name : List ℕ → List ℕ → Bool
is_same_name one other = bytes_eq (str_to_ascii_lowercase one) (str_to_ascii_lowercase other)

-- ids are unique, and names ignoring ASCII case
pub record AreApart (one other : NamedRange) : Type 0 where
  pub ids : one.id ≢ other.id
  pub names : str_to_ascii_lowercase one.name ≢ str_to_ascii_lowercase other.name

abbrev pub AreNames : List NamedRange → Type 0
AreNames ranges = AllPairs AreApart ranges

-- the one with the id
abbrev pub with_id : List ℕ → List NamedRange → Option NamedRange
with_id id ranges = find (λ range. bytes_eq id range.id) ranges

-- the one with the name
abbrev pub with_name : List ℕ → List NamedRange → Option NamedRange
with_name name ranges = find (λ range. is_same_name name range.name) ranges

-- another than the one with the id has the name
abbrev pub is_name_of_other : List ℕ → List ℕ → List NamedRange → Bool
is_name_of_other name id ranges =
    list_any (λ range. is_same_name name range.name && not (bytes_eq id range.id)) ranges

-- a name is given and may not be one
abbrev pub IsBadName : Option (List ℕ) → Type 0
IsBadName name = IsSomeAnd name (λ name. ¬ (IsName name))

-- a name is given and may be one, and another than the range with the id has it
abbrev pub IsTakenName : List ℕ → Option (List ℕ) → List NamedRange → Type 0
IsTakenName id name ranges =
    IsSomeAnd name (λ name. IsName name × (is_name_of_other name id ranges ≡ true))

-- a fault that doesn't come from want of memory
abbrev pub TakesNoMemory : NameFault → Type 0
TakesNoMemory fault = fault ≢ NoMemory

-- the id with a number: nr and its digits
abbrev pub numbered_id : ℕ → List ℕ
numbered_id number = codes "nr" ++ decimal number

-- one has the id
abbrev pub has_id : List NamedRange → List ℕ → Bool
has_id ranges id = is_some (with_id id ranges)

-- the first of nr1, nr2 and so on that none has
abbrev pub IsFirstUnused : List NamedRange → List ℕ → Type 0
IsFirstUnused ranges id =
    (number : ℕ) × (id ≡ numbered_id number)
    × IsLeastUnused (λ number. has_id ranges (numbered_id number)) number

-- a new range stands last
abbrev pub with_one_more : List ℕ → List ℕ → Area → List NamedRange → List NamedRange
with_one_more id name area ranges = ranges ++ record { id = id; name = name; area = area } ∷ []

-- the list with the one with the id changed, in its place
abbrev pub with_changed : List ℕ → (NamedRange → NamedRange) → List NamedRange → List NamedRange
with_changed id changed ranges =
    map (λ range. if bytes_eq id range.id then changed range else range) ranges

-- the list without the one with the id
abbrev pub without_id : List ℕ → List NamedRange → List NamedRange
without_id id ranges = filter (λ range. not (bytes_eq id range.id)) ranges
