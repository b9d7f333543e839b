-- A loop that has each value of a map follow, and brings the entries of those that stay to the front.
use Rattle.std.proofs.Common.{◌≡◌, ℕ, suc, zero, ◌+◌, ◌<◌, Option, None, Some, List, [], ◌∷◌, set, map, length, get_or, refl, sym, ap, ◌∙◌, subst, arith}
use Rattle.std.specs.Prelude.{slice_get}
use Rattle.std.specs.List.{swap}
use Rattle.std.specs.Option.{option_map}
use Rattle.indexmap.specs.IndexMap.{set_value_at}
use Rattle.cell_value.specs.Entries.{entry_followed}
use Rattle.cell_value.proofs.InPlace.{Keeps, Keeps-read, Keeps-lost, Keeps-between, Keeps-swapped}

-- the entry at a place where a value was read
entry_at : {K X : Type 0} (entries : List (K × X)) (i : ℕ) (value : X)
    → slice_get (map (λ entry. entry.1) entries) i ≡ Some value
    → (entry : K × X) × (entry ≡ get_or entries i entry) × (entry.1 ≡ value)
entry_at [] i value read = cc
entry_at (first ∷ rest) zero value read = (first, refl, cc)
entry_at (first ∷ rest) (suc i) value read = entry_at rest i value read

-- a write of the value there
set_value_at-set : {K X : Type 0} (entries : List (K × X)) (i : ℕ) (entry : K × X) (value : X)
    → i < length entries → entry ≡ get_or entries i entry
    → set_value_at entries i value ≡ set entries i (entry.0, value)
set_value_at-set [] i entry value there read = refl
set_value_at-set {K} {X} (first ∷ rest) zero entry value there read =
    ap (λ (one : K × X). (one.0, value) ∷ rest) (sym read)
set_value_at-set (first ∷ rest) (suc i) entry value there read =
    ap (λ rest. first ∷ rest) (set_value_at-set rest i entry value (omega arith) read)

-- the value that is read is the one that stood there
pub value_before : {K X : Type 0} (becomes : K × X → Option (K × X)) (Q : K × X → Type 0)
    (before now : List (K × X)) (kept at : ℕ) (value : X) → at < length before
    → slice_get (map (λ entry. entry.1) now) at ≡ Some value → Keeps becomes Q before now kept at
    → (entry : K × X) × (entry ≡ get_or before at entry) × (entry.1 ≡ value)
value_before becomes Q before now kept at value there read keeps =
    let entry = entry_at now at value read in
    (entry.0, Keeps-read becomes Q before now kept at entry.0 there keeps entry.1, entry.2)

-- it stays, as what became of it
pub value_kept : {K X : Type 0} (becomes : X → Option X) (Q : X → Type 0)
    (before now : List (K × X)) (kept at : ℕ) (old new : X) → at < length before
    → slice_get (map (λ entry. entry.1) now) at ≡ Some old → becomes old ≡ Some new → Q new
    → Keeps (entry_followed becomes) (λ entry. Q entry.1) before now kept at
    → Keeps (entry_followed becomes) (λ entry. Q entry.1) before (swap (set_value_at now at new) kept at)
    (kept + 1) (at + 1)
value_kept {K} {X} becomes Q before now kept at old new there read is has keeps =
    let long = keeps.long in
    let entry = entry_at now at old read in
    let here : at < length now = omega arith in
    let same = Keeps-read (entry_followed becomes) (λ entry. Q entry.1) before now kept at entry.0 there keeps
    entry.1 in
    subst
    (λ (list : List (K × X)). Keeps (entry_followed becomes) (λ entry. Q entry.1) before (swap list kept at)
    (kept + 1) (at + 1))
    (sym (set_value_at-set now at entry.0 new here entry.1))
    (Keeps-swapped (entry_followed becomes) (λ entry. Q entry.1) before now kept at (entry.0.0, new) entry.0 there
    (ap (entry_followed becomes) (sym same)
    ∙ ap (λ value. option_map (λ value. (entry.0.0, value)) (becomes value)) entry.2
    ∙ ap (option_map (λ value. (entry.0.0, value))) is)
    has keeps)

-- or is lost
pub value_lost : {K X : Type 0} (becomes : X → Option X) (Q : X → Type 0)
    (before now : List (K × X)) (kept at : ℕ) (old new : X) → at < length before
    → slice_get (map (λ entry. entry.1) now) at ≡ Some old → becomes old ≡ None
    → Keeps (entry_followed becomes) (λ entry. Q entry.1) before now kept at
    → Keeps (entry_followed becomes) (λ entry. Q entry.1) before (set_value_at now at new) kept (at + 1)
value_lost {K} {X} becomes Q before now kept at old new there read is keeps =
    let long = keeps.long in
    let entry = entry_at now at old read in
    let here : at < length now = omega arith in
    let same = Keeps-read (entry_followed becomes) (λ entry. Q entry.1) before now kept at entry.0 there keeps
    entry.1 in
    subst (λ (list : List (K × X)). Keeps (entry_followed becomes) (λ entry. Q entry.1) before list kept (at + 1))
    (sym (set_value_at-set now at entry.0 new here entry.1))
    (Keeps-between (entry_followed becomes) (λ entry. Q entry.1) before now kept (at + 1) at (entry.0.0, new)
    keeps.room (omega arith)
    (Keeps-lost (entry_followed becomes) (λ entry. Q entry.1) before now kept at entry.0 there
    (ap (entry_followed becomes) (sym same)
    ∙ ap (λ value. option_map (λ value. (entry.0.0, value)) (becomes value)) entry.2
    ∙ ap (option_map (λ value. (entry.0.0, value))) is)
    keeps))
