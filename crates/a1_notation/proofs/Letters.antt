-- Letters as the digits of a column's number.
use Rattle.std.proofs.Common.{◌≡◌, ℕ, ◌+◌, ◌-◌, ◌*◌, ◌<◌, min, Bool, true, false, ltb, List, [], ◌∷◌, length, get_or, take, map, refl, arith, inl, inr}
use Rattle.std.specs.Prelude.{Option, Some, IfSome, IsSome, ◌↔◌}
use Rattle.std.specs.Bool.{then_some}
use Rattle.std.specs.List.{list_all}
use Rattle.std.specs.Char.{is_ascii_alphabetic, to_ascii_uppercase}
use Rattle.std.proofs.lemmas.Bool.{ltb-true, lt-ltb, false≢true}
use Rattle.std.proofs.lemmas.Int.Digits.{number_push}
use Rattle.std.proofs.lemmas.List.{map_more}
use Rattle.std.proofs.lemmas.List.Recursion.{and_at}
use Rattle.a1_notation.proofs.ColumnLetters.{letter_value_bounds, first_letter, letters_value_bounds, letters_of_one, letters_of_two, letters_of_three}
use Rattle.a1_notation.specs.declared.column.TheConstants.{NAMED_COLUMNS}
use Rattle.a1_notation.specs.Column.{letter_value, letters_value, IsColumn, AreLetters, column_letters}

-- each of some letters is one
pub is_letter_at : (xs : List ℕ) (i : ℕ) → list_all is_ascii_alphabetic xs ≡ true → i < length xs
    → is_ascii_alphabetic (get_or xs i 0) ≡ true
is_letter_at xs i all h = and_at (list_all is_ascii_alphabetic) is_ascii_alphabetic refl (λ _ _. refl) xs i 0 h all

pub letters_value-more : (xs : List ℕ) (i : ℕ) → i < length xs
    → letters_value (take (i + 1) xs) ≡ letters_value (take i xs) * 26 + letter_value (get_or xs i 0)
letters_value-more xs i h =
    rw (map_more letter_value xs i 0 h) (number_push 26 (map letter_value (take i xs)) (letter_value (get_or xs i 0)))

-- a column's letters in upper case are the ones that are written for it
pub upper_case_letters : (text : List ℕ) (column : ℕ) → IsColumn 3 text column
    → column_letters column ≡ map to_ascii_uppercase text
upper_case_letters [] column h = absurd (omega (arith, h.letters.some))
upper_case_letters (a ∷ []) column h =
    let x = letter_value_bounds a (first_letter a [] h.letters.all).0 in
    let e : column ≡ letter_value a - 1 = omega (arith, x, h.value) in
    let p : 65 + (letter_value a - 1) ≡ to_ascii_uppercase a = omega (arith, x) in
    rw e (rw (letters_of_one (letter_value a - 1) (omega (arith, x)), p) refl)
upper_case_letters (a ∷ b ∷ []) column h =
    let l = first_letter a (b ∷ []) h.letters.all in
    let x = letter_value_bounds a l.0 in
    let y = letter_value_bounds b (first_letter b [] l.1).0 in
    let e : column ≡ 26 + 26 * (letter_value a - 1) + (letter_value b - 1) = omega (arith, x, y, h.value) in
    let p : 65 + (letter_value a - 1) ≡ to_ascii_uppercase a = omega (arith, x) in
    let q : 65 + (letter_value b - 1) ≡ to_ascii_uppercase b = omega (arith, y) in
    rw e
    (rw (letters_of_two (letter_value a - 1) (letter_value b - 1) (omega (arith, x)) (omega (arith, y)), p, q) refl)
upper_case_letters (a ∷ b ∷ c ∷ []) column h =
    let l = first_letter a (b ∷ c ∷ []) h.letters.all in
    let m = first_letter b (c ∷ []) l.1 in
    let x = letter_value_bounds a l.0 in
    let y = letter_value_bounds b m.0 in
    let z = letter_value_bounds c (first_letter c [] m.1).0 in
    let e : column ≡ 702 + 676 * (letter_value a - 1) + 26 * (letter_value b - 1) + (letter_value c - 1) =
    omega (arith, x, y, z, h.value) in
    let p : 65 + (letter_value a - 1) ≡ to_ascii_uppercase a = omega (arith, x) in
    let q : 65 + (letter_value b - 1) ≡ to_ascii_uppercase b = omega (arith, y) in
    let r : 65 + (letter_value c - 1) ≡ to_ascii_uppercase c = omega (arith, z) in
    rw e
    (rw (
      letters_of_three (letter_value a - 1) (letter_value b - 1) (letter_value c - 1) (omega (arith, x))
          (omega (arith, y)) (omega (arith, z)),
      p,
      q,
      r,
    ) refl)
upper_case_letters (a ∷ b ∷ c ∷ d ∷ rest) column h = absurd (omega (arith, h.letters.few))

-- what `capped_column` counts of some letters is their column, where it is below NAMED_COLUMNS
pub column_from_capped : (text : List ℕ) (capped : ℕ) → list_all is_ascii_alphabetic text ≡ true → 0 < length text
    → capped + 1 ≡ min (letters_value text) (NAMED_COLUMNS + 1) → capped < NAMED_COLUMNS → IsColumn 3 text capped
column_from_capped text capped all some counted small =
    elim (letters_value_bounds text all some).1 [
      | inl few ↦ record { letters = record { all = all; some = some; few = few.0 }; value = omega (arith, few.1) }
      | inr many ↦ absurd (omega (arith, many.1))
    ]

pub capped_from_column : (text : List ℕ) (capped column : ℕ) → capped + 1 ≡ min (letters_value text) (NAMED_COLUMNS + 1)
    → IsColumn 3 text column → (capped < NAMED_COLUMNS) × (capped ≡ column)
capped_from_column text capped column counted is =
    elim (letters_value_bounds text is.letters.all is.letters.some).1 [
      | inl few ↦ (omega (arith, few.1), omega (arith, few.1, is.value))
      | inr many ↦ absurd (omega (arith, many.0, is.letters.few))
    ]

-- the counting itself
pub capped_more : (text : List ℕ) (i number upper : ℕ) → list_all is_ascii_alphabetic text ≡ true → i < length text
    → number ≡ min (letters_value (take i text)) (NAMED_COLUMNS + 1) → upper ≡ to_ascii_uppercase (get_or text i 0)
    → min (26 * number + (upper - 65 + 1)) (NAMED_COLUMNS + 1)
    ≡ min (letters_value (take (i + 1) text)) (NAMED_COLUMNS + 1)
capped_more text i number upper all h so_far e =
    let more = letters_value-more text i h in
    let bounds = letter_value_bounds (get_or text i 0) (is_letter_at text i all h) in
    omega (arith, more, bounds)

-- what `then_some` gives of a test's answer
IfSome_then_some : (b : Bool) (x : ℕ) (r : Option ℕ) (P : ℕ → Type 0) → r ≡ then_some b x → (b ≡ true → P x)
    → IfSome r P
IfSome_then_some true x r P e h = rw e (h refl)
IfSome_then_some false x r P e h = rw e tt

some_then_some : (b : Bool) (x : ℕ) (r : Option ℕ) → r ≡ then_some b x → IsSome r ↔ (b ≡ true)
some_then_some true x r e = (λ _. refl, λ _. rw e refl)
some_then_some false x r e = (λ found. absurd (false≢true (rw e at found)), λ h. absurd (false≢true h))

-- what `read_column` answers of some letters
pub record AnswersColumn (text : List ℕ) (answer : Option ℕ) : Type 0 where
  pub column : IfSome answer (IsColumn 3 text)
  pub letters : IsSome answer ↔ AreLetters 3 text
  pub only : (column : ℕ) → IsColumn 3 text column → answer ≡ Some column
  pub upper_case : IfSome answer (λ column. column_letters column ≡ map to_ascii_uppercase text)

pub answers_column : (text : List ℕ) (capped : ℕ) (answer : Option ℕ) → list_all is_ascii_alphabetic text ≡ true
    → 0 < length text → capped + 1 ≡ min (letters_value text) (NAMED_COLUMNS + 1) → answer
    ≡ then_some (ltb capped NAMED_COLUMNS) capped
    → AnswersColumn text answer
answers_column text capped answer all some counted e = record {
  column =
      IfSome_then_some (ltb capped NAMED_COLUMNS) capped answer (IsColumn 3 text) e
      (λ h. column_from_capped text capped all some counted (ltb-true capped NAMED_COLUMNS h));
  letters = let test = some_then_some (ltb capped NAMED_COLUMNS) capped answer e in (
    λ found. record {
      all = all;
      some = some;
      few = (column_from_capped text capped all some counted
          (ltb-true capped NAMED_COLUMNS (test.0 found))).letters.few;
    },
    λ are. elim (letters_value_bounds text all some).1 [
      | inl few ↦ test.1 (lt-ltb capped NAMED_COLUMNS (omega (arith, few.1)))
      | inr many ↦ absurd (omega (arith, many.0, are.few))
    ],
  );
  only = λ column is. let found = capped_from_column text capped column counted is in
      rw (e, lt-ltb capped NAMED_COLUMNS found.0, found.1) refl;
  upper_case =
      IfSome_then_some (ltb capped NAMED_COLUMNS) capped answer
      (λ column. column_letters column ≡ map to_ascii_uppercase text) e
      (λ h. upper_case_letters text capped
      (column_from_capped text capped all some counted (ltb-true capped NAMED_COLUMNS h)));
}
