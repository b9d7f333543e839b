-- What is found among the cells that hold something is what is found among all cells.
use Rattle.std.proofs.Common.{◌≡◌, ℕ, zero, suc, ◌+◌, ◌<◌, ◌==◌, Bool, true, false, ◌&&◌, ◌||◌, cond, List, [], ◌∷◌, ◌++◌, length, map, filter, flat_map, zip, count_by, get_or, Option, Some, None, option_map, arith, refl, ap, sym, ◌∙◌, inl, inr}
use Rattle.std.specs.List.{position_from, list_any}
use Rattle.std.proofs.lemmas.Bool.{cases_Bool, false≢true}
use Rattle.std.proofs.lemmas.Bool.Decides.{nat_tests}
use Rattle.std.proofs.lemmas.List.Sums.{length-filter}
use Rattle.cell_value.specs.declared.cell.Value.{Value}
use Rattle.cell_value.specs.declared.cell.Value.TheVariants.{Blank, Number, Text, Truth, Error}
use Rattle.cell_calc.specs.declared.arguments.FilledCell.{FilledCell}
use Rattle.cell_calc.specs.LogicFunctions.{is_blank}
use Rattle.cell_calc.specs.LookUpFunctions.{is_match, beside_matches}
use Rattle.cell_calc.specs.GatheringFunctions.{is_number_or_error}
use Rattle.cell_calc.specs.Lent.{filled_from, place_and_value, value_held}
use Rattle.cell_calc.specs.Found.{value_in_place, first_match, is_matching, matches_in, value_if}

blank_is : (value : Value) → is_blank value ≡ true → value ≡ Blank
blank_is Blank is = refl
blank_is (Number n) is = absurd (false≢true is)
blank_is (Text t) is = absurd (false≢true is)
blank_is (Truth b) is = absurd (false≢true is)
blank_is (Error f) is = absurd (false≢true is)

blank_matches_none : (key : Value) → is_match key Blank ≡ false
blank_matches_none Blank = refl
blank_matches_none (Number n) = refl
blank_matches_none (Text t) = refl
blank_matches_none (Truth b) = refl
blank_matches_none (Error f) = refl

abbrev Pairs : Type 0
Pairs = List (ℕ × Value)

-- where the first value is blank, and where it isn't
from_blank : (from : ℕ) (value : Value) (later : List Value) → is_blank value ≡ true
    → filled_from from (value ∷ later) ≡ filled_from (suc from) later
from_blank from value later is =
    ap (λ b. cond b (filled_from (suc from) later) ((from, value) ∷ filled_from (suc from) later)) is

from_filled : (from : ℕ) (value : Value) (later : List Value) → is_blank value ≡ false
    → filled_from from (value ∷ later) ≡ (from, value) ∷ filled_from (suc from) later
from_filled from value later is =
    ap (λ b. cond b (filled_from (suc from) later) ((from, value) ∷ filled_from (suc from) later)) is

-- the value in a place
abbrev paired : ℕ → Pairs → Value
paired place [] = Blank
paired place (pair ∷ later) = cond (pair.0 == place) pair.1 (paired place later)

in_place_paired : (place : ℕ) (cells : List FilledCell) → value_in_place place cells
    ≡ paired place (map place_and_value cells)
in_place_paired place [] = refl
in_place_paired place (cell ∷ cells) =
    ap (λ rest. cond (cell.place == place) (value_held cell.value) rest) (in_place_paired place cells)

paired_other : (place from : ℕ) (value : Value) (rest : Pairs) → place < from → paired place ((from, value) ∷ rest)
    ≡ paired place rest
paired_other place from value rest below =
    let other : (from == place) ≡ false = grind (arith, nat_tests, below) in
    ap (λ b. cond b value (paired place rest)) other

-- no place before the first
paired_before : (place from : ℕ) (values : List Value) → place < from → paired place (filled_from from values) ≡ Blank
paired_before place from [] below = refl
paired_before place from (value ∷ later) below =
    let rest = paired_before place (suc from) later (omega (arith, below)) in
    elim (cases_Bool (is_blank value)) [
      | inl is ↦ ap (paired place) (from_blank from value later is) ∙ rest
      | inr is ↦
          ap (paired place) (from_filled from value later is)
          ∙ paired_other place from value (filled_from (suc from) later) below ∙ rest
    ]

paired_first : (place from : ℕ) (values : List Value) (index : ℕ) → place ≡ from + index
    → paired place (filled_from from values) ≡ get_or values index Blank
paired_first place from [] index is = refl
paired_first place from (value ∷ later) zero is =
    let same : place ≡ from = omega (arith, is) in
    elim (cases_Bool (is_blank value)) [
      | inl blank ↦
          ap (paired place) (from_blank from value later blank)
          ∙ paired_before place (suc from) later (omega (arith, is))
          ∙ sym (blank_is value blank)
      | inr filled ↦
          let here : (from == place) ≡ true = grind (arith, nat_tests, is) in
          ap (paired place) (from_filled from value later filled)
          ∙ ap (λ b. cond b value (paired place (filled_from (suc from) later))) here
    ]
paired_first place from (value ∷ later) (suc index) is =
    let rest = paired_first place (suc from) later index (omega (arith, is)) in
    elim (cases_Bool (is_blank value)) [
      | inl blank ↦ ap (paired place) (from_blank from value later blank) ∙ rest
      | inr filled ↦
          let other : (from == place) ≡ false = grind (arith, nat_tests, is) in
          ap (paired place) (from_filled from value later filled)
          ∙ ap (λ b. cond b value (paired place (filled_from (suc from) later))) other ∙ rest
    ]

-- the value in a place among all cells
pub found_in_place : (place : ℕ) (cells : List FilledCell) (values : List Value)
    → map place_and_value cells ≡ filled_from 0 values → value_in_place place cells ≡ get_or values place Blank
found_in_place place cells values are =
    in_place_paired place cells ∙ ap (paired place) are ∙ paired_first place 0 values place (omega arith)

-- the first match
abbrev matched : Value → Pairs → Option ℕ
matched key [] = None
matched key (pair ∷ later) = cond (is_match key pair.1) (Some pair.0) (matched key later)

first_matched : (key : Value) (cells : List FilledCell) → first_match key cells
    ≡ matched key (map place_and_value cells)
first_matched key [] = refl
first_matched key (cell ∷ cells) =
    ap (λ rest. cond (is_match key (value_held cell.value)) (Some cell.place) rest) (first_matched key cells)

matched_from : (key : Value) (from at : ℕ) (values : List Value) → at ≡ suc from
    → option_map suc (matched key (filled_from from values)) ≡ position_from (is_match key) at values
matched_from key from at [] is = refl
matched_from key from at (value ∷ later) is =
    let rest = matched_from key (suc from) (at + 1) later (omega (arith, is)) in
    elim (cases_Bool (is_blank value)) [
      | inl blank ↦
          let fails : is_match key value ≡ false = ap (is_match key) (blank_is value blank) ∙ blank_matches_none key in
          ap (λ pairs. option_map suc (matched key pairs)) (from_blank from value later blank)
          ∙ rest ∙ sym (ap (λ b. cond b (Some at) (position_from (is_match key) (at + 1) later)) fails)
      | inr filled ↦
          ap (λ pairs. option_map suc (matched key pairs)) (from_filled from value later filled)
          ∙ elim (is_match key value) as (λ b. option_map suc
          (cond b (Some from) (matched key (filled_from (suc from) later)))
          ≡ cond b (Some at) (position_from (is_match key) (at + 1) later)) [
            | true ↦ ap (λ n. Some n) (sym is)
            | false ↦ rest
          ]
    ]

pub found_first : (key : Value) (cells : List FilledCell) (values : List Value)
    → map place_and_value cells ≡ filled_from 0 values
    → option_map suc (first_match key cells) ≡ position_from (is_match key) 1 values
found_first key cells values are =
    ap (option_map suc) (first_matched key cells ∙ ap (matched key) are) ∙ matched_from key 0 1 values refl

-- how many match
matches_from : (key : Value) (from : ℕ) (values : List Value)
    → length (filter (λ pair. is_match key pair.1) (filled_from from values)) ≡ length (filter (is_match key) values)
matches_from key from [] = refl
matches_from key from (value ∷ later) =
    let rest = matches_from key (suc from) later in
    elim (cases_Bool (is_blank value)) [
      | inl blank ↦
          let fails : is_match key value ≡ false = ap (is_match key) (blank_is value blank) ∙ blank_matches_none key in
          ap (λ pairs. length (filter (λ pair. is_match key pair.1) pairs)) (from_blank from value later blank)
          ∙ rest ∙ sym
          (ap (λ b. length (cond b (value ∷ filter (is_match key) later) (filter (is_match key) later))) fails)
      | inr filled ↦
          ap (λ pairs. length (filter (λ pair. is_match key pair.1) pairs)) (from_filled from value later filled)
          ∙ elim (is_match key value) as (λ b.
          length (cond b ((from, value) ∷ filter (λ pair. is_match key pair.1) (filled_from (suc from) later))
          (filter (λ pair. is_match key pair.1) (filled_from (suc from) later)))
          ≡ length (cond b (value ∷ filter (is_match key) later) (filter (is_match key) later))) [
            | true ↦ ap suc rest
            | false ↦ rest
          ]
    ]

matches_paired : (key : Value) (cells : List FilledCell)
    → length (filter (is_matching key) cells)
    ≡ length (filter (λ pair. is_match key pair.1) (map place_and_value cells))
matches_paired key [] = refl
matches_paired key (cell ∷ cells) =
    elim (is_match key (value_held cell.value)) as (λ b.
    length (cond b (cell ∷ filter (is_matching key) cells) (filter (is_matching key) cells))
    ≡ length (cond b (place_and_value cell ∷ filter (λ pair. is_match key pair.1) (map place_and_value cells))
    (filter (λ pair. is_match key pair.1) (map place_and_value cells)))) [
      | true ↦ ap suc (matches_paired key cells)
      | false ↦ matches_paired key cells
    ]

pub found_all : (key : Value) (cells : List FilledCell) (values : List Value)
    → map place_and_value cells ≡ filled_from 0 values
    → count_by (is_matching key) cells ≡ count_by (is_match key) values
found_all key cells values are =
    sym (length-filter (is_matching key) cells) ∙ matches_paired key cells
    ∙ ap (λ pairs. length (filter (λ pair. is_match key pair.1) pairs)) are
    ∙ matches_from key 0 values ∙ length-filter (is_match key) values

-- whether a cell in a place matches
abbrev in_pairs : Value → ℕ → Pairs → Bool
in_pairs key place pairs = list_any (λ pair. pair.0 == place && is_match key pair.1) pairs

in_cells_paired : (key : Value) (place : ℕ) (cells : List FilledCell)
    → matches_in key cells place ≡ in_pairs key place (map place_and_value cells)
in_cells_paired key place [] = refl
in_cells_paired key place (cell ∷ cells) =
    ap (λ rest. (cell.place == place && is_match key (value_held cell.value)) || rest) (in_cells_paired key place cells)

in_before : (key : Value) (place from : ℕ) (values : List Value) → place < from
    → in_pairs key place (filled_from from values) ≡ false
in_before key place from [] below = refl
in_before key place from (value ∷ later) below =
    let rest = in_before key place (suc from) later (omega (arith, below)) in
    elim (cases_Bool (is_blank value)) [
      | inl blank ↦ ap (in_pairs key place) (from_blank from value later blank) ∙ rest
      | inr filled ↦
          let other : (from == place) ≡ false = grind (arith, nat_tests, below) in
          ap (in_pairs key place) (from_filled from value later filled)
          ∙ ap (λ b. (b && is_match key value) || in_pairs key place (filled_from (suc from) later)) other ∙ rest
    ]

or_false : (b : Bool) → (b || false) ≡ b
or_false true = refl
or_false false = refl

in_at : (key : Value) (place from : ℕ) (values : List Value) (index : ℕ) → place ≡ from + index
    → in_pairs key place (filled_from from values) ≡ is_match key (get_or values index Blank)
in_at key place from [] index is = sym (blank_matches_none key)
in_at key place from (value ∷ later) zero is =
    let none = in_before key place (suc from) later (omega (arith, is)) in
    elim (cases_Bool (is_blank value)) [
      | inl blank ↦
          ap (in_pairs key place) (from_blank from value later blank) ∙ none
          ∙ sym (ap (is_match key) (blank_is value blank) ∙ blank_matches_none key)
      | inr filled ↦
          let here : (from == place) ≡ true = grind (arith, nat_tests, is) in
          ap (in_pairs key place) (from_filled from value later filled)
          ∙ ap (λ b. (b && is_match key value) || in_pairs key place (filled_from (suc from) later)) here
          ∙ ap (λ b. is_match key value || b) none ∙ or_false (is_match key value)
    ]
in_at key place from (value ∷ later) (suc index) is =
    let rest = in_at key place (suc from) later index (omega (arith, is)) in
    elim (cases_Bool (is_blank value)) [
      | inl blank ↦ ap (in_pairs key place) (from_blank from value later blank) ∙ rest
      | inr filled ↦
          let other : (from == place) ≡ false = grind (arith, nat_tests, is) in
          ap (in_pairs key place) (from_filled from value later filled)
          ∙ ap (λ b. (b && is_match key value) || in_pairs key place (filled_from (suc from) later)) other ∙ rest
    ]

pub matches_at : (key : Value) (cells : List FilledCell) (values : List Value) (place : ℕ)
    → map place_and_value cells ≡ filled_from 0 values
    → matches_in key cells place ≡ is_match key (get_or values place Blank)
matches_at key cells values place are =
    in_cells_paired key place cells ∙ ap (in_pairs key place) are ∙ in_at key place 0 values place (omega arith)

-- what stands beside matches
abbrev pair_if : (ℕ → Bool) → ℕ × Value → List Value
pair_if test pair = cond (test pair.0 && is_number_or_error pair.1) (pair.1 ∷ []) []

ifs_paired : (test : ℕ → Bool) (cells : List FilledCell)
    → flat_map (value_if test) cells ≡ flat_map (pair_if test) (map place_and_value cells)
ifs_paired test [] = refl
ifs_paired test (cell ∷ cells) = ap (λ rest. value_if test cell ++ rest) (ifs_paired test cells)

blank_is_no_number : (value : Value) → is_blank value ≡ true → is_number_or_error value ≡ false
blank_is_no_number value blank = ap is_number_or_error (blank_is value blank)

module _ (value other : Value) (beside : List (Value × Value)) where
  abbrev chosen_numbers : Bool → List Value
  chosen_numbers match = filter is_number_or_error (map (λ pair. pair.1) (cond match ((value, other) ∷ beside) beside))

  chosen_blank : (match : Bool) → is_number_or_error other ≡ false → chosen_numbers match ≡ chosen_numbers false
  chosen_blank true none = ap (λ b. cond b (other ∷ chosen_numbers false) (chosen_numbers false)) none
  chosen_blank false none = refl

  chosen_number : (match : Bool)
      → cond (match && is_number_or_error other) (other ∷ []) [] ++ chosen_numbers false ≡ chosen_numbers match
  chosen_number true =
      elim (is_number_or_error other) as (λ b. cond b (other ∷ []) [] ++ chosen_numbers false
      ≡ cond b (other ∷ chosen_numbers false) (chosen_numbers false)) [ true ↦ refl | false ↦ refl ]
  chosen_number false = refl

module _ (key : Value) (test : ℕ → Bool) where
  numbers_from : (from : ℕ) (values others : List Value) → length values ≡ length others
      → ((index : ℕ) → test (from + index) ≡ is_match key (get_or values index Blank))
      → flat_map (pair_if test) (filled_from from others)
      ≡ filter is_number_or_error (beside_matches key values others)
  numbers_from from [] [] same tests = refl
  numbers_from from [] (o ∷ os) same tests = absurd (omega (arith, same))
  numbers_from from (v ∷ vs) [] same tests = absurd (omega (arith, same))
  numbers_from from (v ∷ vs) (o ∷ os) same tests =
      let beside = filter (λ pair. is_match key pair.0) (zip vs os) in
      let later : (index : ℕ) → test (suc from + index) ≡ is_match key (get_or vs index Blank) =
      λ index. ap test (omega arith) ∙ tests (suc index) in
      let rest = numbers_from (suc from) vs os (omega (arith, same)) later in
      let here : test from ≡ is_match key v = ap test (omega arith) ∙ tests 0 in
      elim (cases_Bool (is_blank o)) [
        | inl blank ↦
            ap (flat_map (pair_if test)) (from_blank from o os blank) ∙ rest
            ∙ sym (chosen_blank v o beside (is_match key v) (blank_is_no_number o blank))
        | inr filled ↦
            ap (flat_map (pair_if test)) (from_filled from o os filled)
            ∙ ap (λ b. cond (b && is_number_or_error o) (o ∷ []) []
            ++ flat_map (pair_if test) (filled_from (suc from) os)) here
            ∙ ap (λ l. cond (is_match key v && is_number_or_error o) (o ∷ []) [] ++ l) rest
            ∙ chosen_number v o beside (is_match key v)
      ]

-- the numbers beside matches among the cells that hold something
pub found_beside : (key : Value) (test : ℕ → Bool) (cells others : List FilledCell) (values beside : List Value)
    → map place_and_value cells ≡ filled_from 0 values → map place_and_value others ≡ filled_from 0 beside
    → length values ≡ length beside
    → ((place : ℕ) → test place ≡ matches_in key cells place)
    → flat_map (value_if test) others ≡ filter is_number_or_error (beside_matches key values beside)
found_beside key test cells others values beside are are_others same tests =
    ifs_paired test others ∙ ap (flat_map (pair_if test)) are_others
    ∙ numbers_from key test 0 values beside same (λ index.
    ap test (omega arith) ∙ tests index ∙ matches_at key cells values index are)
