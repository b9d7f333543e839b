-- What `clap` makes of options, where each of them has one value.
use Rattle.std.proofs.Common.{◌≡◌, ◌≢◌, ℕ, List, [], ◌∷◌, ◌++◌, ◌⊎◌, inl, inr, Some, None, Bool, true, false}
use Rattle.std.proofs.Common.{map, find, sym, ap, ◌∙◌, refl, Contains, append-nil, ◌||◌, ◌&&◌, not}
use Rattle.std.proofs.Common.{true≢false, arith, zero, suc, is_some}
use Rattle.std.specs.Prelude.{bytes_eq}
use Rattle.std.specs.List.{AllByRecursion}
use Rattle.std.proofs.lemmas.Bool.{false_from_ne_true, or_parts}
use Rattle.std.proofs.lemmas.List.{map-append}
use Rattle.std.proofs.lemmas.Slice.Eq.{bytes_eq-Decides}
use Rattle.clap.specs.Faults.{use_fault}
use Rattle.clap.specs.Simple.{filled, with_index}
use Rattle.clap.specs.Walk.{Held, Row, Rule, Text, arg_by_id, arg_by_index, arg_by_long, at_row, first_of}
use Rattle.clap.specs.Walk.{has_long, has_row, more_values, reading_by, used}
use Rattle.clap.specs.declared.parser.matches.ValueSource.TheVariants.{CommandLine}
use Rattle.command_line.specs.Sheets.{option}
use Rattle.command_line.specs.Words.{value_of}
use Rattle.command_line.proofs.Options.{Pair}

-- the option of a name, as it is built
abbrev pub rule : Text → Rule
rule name = with_index 1 (filled (option name))

-- ---- the options that were met

-- what is kept of an option
abbrev pub row : Pair → Row
row pair = record {
  id = pair.0;
  values = pair.1 ∷ [];
  count = None;
  source = Some CommandLine;
  reading = reading_by (rule pair.0);
}

-- these options were met, and nothing waits
abbrev pub met : List Pair → Held
met pairs = record { rows = map row pairs; pending = None; skip = 0 }

-- no option of that name is among these
abbrev pub IsNew : Text → List Pair → Type 0
IsNew name pairs = AllByRecursion (λ (pair : Pair). pair.0 ≢ name) pairs

missed : (name : Text) (pair : Pair) → pair.0 ≢ name → bytes_eq pair.0 name ≡ false
missed name pair not_name =
    false_from_ne_true (bytes_eq pair.0 name) (λ is. not_name ((bytes_eq-Decides pair.0 name).0 is))

new_row : (name : Text) (pairs : List Pair) → IsNew name pairs → has_row name (map row pairs) ≡ false
new_row name [] new = refl
new_row name (pair ∷ pairs) new = rw (missed name pair new.0) (new_row name pairs new.1)

row_new : (name : Text) (pairs : List Pair) → has_row name (map row pairs) ≡ false → IsNew name pairs
row_new name [] none = tt
row_new name (pair ∷ pairs) none =
    let both = or_parts (bytes_eq pair.0 name) (has_row name (map row pairs)) none in
    (λ same. true≢false (sym ((bytes_eq-Decides pair.0 name).1 same) ∙ both.0), row_new name pairs both.1)

at_new : (name : Text) (change : Row → List Row) (missing : List Row) (pairs : List Pair) → IsNew name pairs
    → at_row name change missing (map row pairs) ≡ map row pairs ++ missing
at_new name change missing [] new = refl
at_new name change missing (pair ∷ pairs) new =
    rw (missed name pair new.0) (ap (λ rows. row pair ∷ rows) (at_new name change missing pairs new.1))

-- a use of an option is no fault just where it is the first
pub use_free : (name value : Text) (pairs : List Pair) → IsNew name pairs
    → use_fault false (rule name) (value ∷ []) (map row pairs) ≡ []
use_free name value pairs new = rw (new_row name pairs new) refl

pub free_new : (name value : Text) (pairs : List Pair) → use_fault false (rule name) (value ∷ []) (map row pairs) ≡ []
    → IsNew name pairs
free_new name value pairs free = row_new name pairs (go (has_row name (map row pairs)) refl)
  where
    go : (b : Bool) → has_row name (map row pairs) ≡ b → has_row name (map row pairs) ≡ false
    go false is = is
    go true is =
        let fault = rw is at free in
        absurd cc

-- and it is kept then
pub use_kept : (name value : Text) (pairs : List Pair) → IsNew name pairs
    → used (rule name) (value ∷ []) (map row pairs) ≡ map row (pairs ++ (name, value) ∷ [])
use_kept name value pairs new =
    let cleared = at_new name (λ _. []) [] pairs new ∙ append-nil (map row pairs) in
    rw cleared
    (at_new name (more_values CommandLine (value ∷ [])) (row (name, value) ∷ []) pairs new
    ∙ sym (map-append row pairs ((name, value) ∷ [])))

-- the value that is found of a name
pub first_is : (name : Text) (pairs : List Pair) → first_of name (map row pairs) ≡ value_of name pairs
first_is name [] = refl
first_is name (pair ∷ pairs) = go (bytes_eq pair.0 name) refl (first_is name pairs)
  where
    go : (b : Bool) → bytes_eq pair.0 name ≡ b → first_of name (map row pairs) ≡ value_of name pairs
        → first_of name (map row (pair ∷ pairs)) ≡ value_of name (pair ∷ pairs)
    go true is later = rw is refl
    go false is later = rw is later

-- ---- the options that a command takes

here_or_behind : (x y : Text) (xs : List Text) → Contains (x ∷ xs) y → (x ≡ y) ⊎ Contains xs y
here_or_behind x y xs (zero, small, is) = inl is
here_or_behind x y xs (suc k, small, is) = inr (k, omega (arith, small), is)

-- by a test of the name
abbrev Tests : Text → (Rule → Bool) → Type 0
Tests name test = (other : Text) → test (rule other) ≡ bytes_eq other name

found_rule : (name : Text) (test : Rule → Bool) → Tests name test → (names : List Text) → Contains names name
    → find test (map rule names) ≡ Some (rule name)
found_rule name test tests [] has = absurd (omega (arith, has.1))
found_rule name test tests (other ∷ names) has =
    go (bytes_eq other name) refl (λ later. found_rule name test tests names later)
  where
    go : (b : Bool) → bytes_eq other name ≡ b → (Contains names name → find test (map rule names) ≡ Some (rule name))
        → find test (map rule (other ∷ names)) ≡ Some (rule name)
    go true is later =
        let passes = tests other ∙ is in
        rw passes (ap (λ n. Some (rule n)) ((bytes_eq-Decides other name).0 is))
    go false is later =
        let fails = tests other ∙ is in
        rw fails (later (elim (here_or_behind other name names has) [
          | inl first ↦ absurd (true≢false (sym ((bytes_eq-Decides other name).1 first) ∙ is))
          | inr behind ↦ behind
        ]))

-- the name is among these, or no rule passes
known : (name : Text) (test : Rule → Bool) → Tests name test → (names : List Text)
    → Contains names name ⊎ (find test (map rule names) ≡ None)
known name test tests [] = inr refl
known name test tests (other ∷ names) = go (bytes_eq other name) refl (known name test tests names)
  where
    go : (b : Bool) → bytes_eq other name ≡ b → Contains names name ⊎ (find test (map rule names) ≡ None)
        → Contains (other ∷ names) name ⊎ (find test (map rule (other ∷ names)) ≡ None)
    go true is later = inl (0, omega arith, (bytes_eq-Decides other name).0 is)
    go false is (inl (k, small, same)) = inl (suc k, omega (arith, small), same)
    go false is (inr none) =
        let fails = tests other ∙ is in
        inr (rw fails none)

or_false : (b : Bool) → (b || false) ≡ b
or_false true = refl
or_false false = refl

pub by_id : (name : Text) (names : List Text) → Contains names name → arg_by_id (map rule names) name ≡ Some (rule name)
by_id name names has = found_rule name (λ a. bytes_eq a.id name) (λ other. refl) names has

pub by_long : (name : Text) (names : List Text) → Contains names name → arg_by_long (map rule names) name
    ≡ Some (rule name)
by_long name names has =
    found_rule name (λ a. not (is_some a.index) && has_long a name) (λ other. or_false (bytes_eq other name)) names has

pub long_known : (name : Text) (names : List Text) → Contains names name ⊎ (arg_by_long (map rule names) name ≡ None)
long_known name names =
    known name (λ a. not (is_some a.index) && has_long a name) (λ other. or_false (bytes_eq other name)) names

pub by_index : (place : ℕ) (names : List Text) → arg_by_index (map rule names) place ≡ None
by_index place [] = refl
by_index place (name ∷ names) = by_index place names
