-- Lists of entries that grow at their ends.
use Rattle.std.specs.Prelude.{◌≡◌, ◌≢◌, ℕ, List, ◌++◌, All, drop, length, nat_lt, if◌then◌else◌}

-- the list begins with this part
abbrev pub StartsWith : {E : Type 0} → List E → List E → Type 0
StartsWith {E} whole part = (rest : List E) × (whole ≡ part ++ rest)

-- no entry is from this caller
abbrev pub NoneOf : {E : Type 0} → (E → ℕ) → ℕ → List E → Type 0
NoneOf caller number entries = All (λ entry. caller entry ≢ number) entries

-- each entry is from this caller
abbrev pub AllOf : {E : Type 0} → (E → ℕ) → ℕ → List E → Type 0
AllOf caller number entries = All (λ entry. caller entry ≡ number) entries

-- each of these callers has a count beside it, and behind so many entries it has added none
abbrev pub AreSilent : {E : Type 0} → (E → ℕ) → List (ℕ × ℕ) → List E → Type 0
AreSilent caller met entries = All (λ m. NoneOf caller m.0 (drop m.1 entries)) met

-- the longer of two lists, and the other one
abbrev pub longer : {E : Type 0} → List E → List E → List E
longer xs ys = if nat_lt (length xs) (length ys) then ys else xs

abbrev pub shorter : {E : Type 0} → List E → List E → List E
shorter xs ys = if nat_lt (length xs) (length ys) then xs else ys
