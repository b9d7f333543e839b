-- Columns: which numbers letters write, and that the letters that are written for a column name it.
use Rattle.std.proofs.Common.{◌≡◌, ℕ, ◌+◌, ◌-◌, ◌*◌, ◌/◌, ◌%◌, ◌<◌, ◌≤◌, true, List, [], ◌∷◌, length, map, refl, arith, inl, inr, subst}
use Rattle.std.specs.Prelude.{◌⊎◌}
use Rattle.std.specs.List.{list_all}
use Rattle.std.specs.Char.{is_ascii_alphabetic, to_ascii_uppercase}
use Rattle.std.proofs.lemmas.Bool.{and_parts, cases_lt}
use Rattle.std.proofs.lemmas.Bool.Decides.{nat_tests}
use Rattle.std.proofs.lemmas.Int.Digits.{number_after_ge}
use Rattle.a1_notation.specs.declared.column.TheConstants.{NAMED_COLUMNS}
use Rattle.a1_notation.specs.Column.{letter_value, letters_value, IsColumn, column_letters}

-- a letter's value is from 1 to 26, and its place behind the @ (64)
pub letter_value_bounds : (b : ℕ) → is_ascii_alphabetic b ≡ true
    → (1 ≤ letter_value b) × (letter_value b ≤ 26) × (to_ascii_uppercase b ≡ letter_value b + 64)
letter_value_bounds b h = grind (arith, nat_tests)

-- the first of some letters is one, and so are the rest
pub first_letter : (x : ℕ) (xs : List ℕ) → list_all is_ascii_alphabetic (x ∷ xs) ≡ true
    → (is_ascii_alphabetic x ≡ true) × (list_all is_ascii_alphabetic xs ≡ true)
first_letter x xs all = and_parts (is_ascii_alphabetic x) (list_all is_ascii_alphabetic xs) all

-- one to three letters are a number up to 18278, and more are a larger one
pub letters_value_bounds : (xs : List ℕ) → list_all is_ascii_alphabetic xs ≡ true → 0 < length xs
    → (1 ≤ letters_value xs) × (((length xs ≤ 3) × (letters_value xs ≤ 18278)) ⊎ ((3 < length xs) ×
    (18279 ≤ letters_value xs)))
letters_value_bounds [] all some = absurd (omega arith)
letters_value_bounds (a ∷ []) all some =
    let x = letter_value_bounds a (first_letter a [] all).0 in
    (omega (arith, x), inl (omega arith, omega (arith, x)))
letters_value_bounds (a ∷ b ∷ []) all some =
    let l = first_letter a (b ∷ []) all in
    let x = letter_value_bounds a l.0 in
    let y = letter_value_bounds b (first_letter b [] l.1).0 in
    (omega (arith, x, y), inl (omega arith, omega (arith, x, y)))
letters_value_bounds (a ∷ b ∷ c ∷ []) all some =
    let l = first_letter a (b ∷ c ∷ []) all in
    let m = first_letter b (c ∷ []) l.1 in
    let x = letter_value_bounds a l.0 in
    let y = letter_value_bounds b m.0 in
    let z = letter_value_bounds c (first_letter c [] m.1).0 in
    (omega (arith, x, y, z), inl (omega arith, omega (arith, x, y, z)))
letters_value_bounds (a ∷ b ∷ c ∷ d ∷ rest) all some =
    let l = first_letter a (b ∷ c ∷ d ∷ rest) all in
    let m = first_letter b (c ∷ d ∷ rest) l.1 in
    let n = first_letter c (d ∷ rest) m.1 in
    let x = letter_value_bounds a l.0 in
    let y = letter_value_bounds b m.0 in
    let z = letter_value_bounds c n.0 in
    let w = letter_value_bounds d (first_letter d rest n.1).0 in
    let e = number_after_ge 26
    ((((0 * 26 + letter_value a) * 26 + letter_value b) * 26 + letter_value c) * 26 + letter_value d)
    (map letter_value rest) (omega arith) in
    (omega (arith, x, y, z, w, e), inr (omega arith, omega (arith, x, y, z, w, e)))

-- the letters of a column of one letter, of two and of three, from their values less one
pub letters_of_one : (x : ℕ) → x < 26 → column_letters x ≡ (65 + x) ∷ []
letters_of_one x h = grind (arith, nat_tests)

pub letters_of_two : (x y : ℕ) → x < 26 → y < 26 → column_letters (26 + 26 * x + y) ≡ (65 + x) ∷ (65 + y) ∷ []
letters_of_two x y h k =
    let a : (26 + 26 * x + y - 26) / 26 ≡ x = omega arith in
    let b : (26 + 26 * x + y - 26) % 26 ≡ y = omega arith in
    grind (arith, nat_tests)

pub letters_of_three : (x y z : ℕ) → x < 26 → y < 26 → z < 26
    → column_letters (702 + 676 * x + 26 * y + z) ≡ (65 + x) ∷ (65 + y) ∷ (65 + z) ∷ []
letters_of_three x y z h k l =
    let a : (702 + 676 * x + 26 * y + z - 702) / 676 ≡ x = omega arith in
    let b : (702 + 676 * x + 26 * y + z - 702) / 26 ≡ 26 * x + y = omega arith in
    let c : (26 * x + y) % 26 ≡ y = omega arith in
    let d : (702 + 676 * x + 26 * y + z - 702) % 26 ≡ z = omega arith in
    grind (arith, nat_tests)

-- one to three letters are a column up to ZZZ
pub column_is_small : (text : List ℕ) (column : ℕ) → IsColumn 3 text column → column < NAMED_COLUMNS
column_is_small text column is =
    elim (letters_value_bounds text is.letters.all is.letters.some).1 [
      | inl few ↦ omega (arith, few.1, is.value)
      | inr many ↦ absurd (omega (arith, many.0, is.letters.few))
    ]

-- an upper-case letter by its place
upper_letter : (x : ℕ) → x < 26 → (is_ascii_alphabetic (65 + x) ≡ true) × (letter_value (65 + x) ≡ x + 1)
upper_letter x small = (grind (arith, nat_tests), grind (arith, nat_tests))

-- the letters that are written for a column are its text
column_of_two : (x y : ℕ) → x < 26 → y < 26 → IsColumn 3 (column_letters (26 + 26 * x + y)) (26 + 26 * x + y)
column_of_two x y h k =
    let a = upper_letter x h in
    let b = upper_letter y k in
    rw (letters_of_two x y h k) (record {
      letters = record { all = rw (a.0, b.0) refl; some = omega arith; few = omega arith };
      value = omega (arith, a.1, b.1);
    })

column_of_three : (x y z : ℕ) → x < 26 → y < 26 → z < 26
    → IsColumn 3 (column_letters (702 + 676 * x + 26 * y + z)) (702 + 676 * x + 26 * y + z)
column_of_three x y z h k l =
    let a = upper_letter x h in
    let b = upper_letter y k in
    let c = upper_letter z l in
    rw (letters_of_three x y z h k l) (record {
      letters = record { all = rw (a.0, b.0, c.0) refl; some = omega arith; few = omega arith };
      value = omega (arith, a.1, b.1, c.1);
    })

-- the letters that are written for a column name it
pub letters_name_column : (column : ℕ) → column < NAMED_COLUMNS → IsColumn 3 (column_letters column) column
letters_name_column column small =
    elim (cases_lt column 26) [
      | inl one ↦ let a = upper_letter column one in
          rw (letters_of_one column one) (record {
            letters = record { all = rw a.0 refl; some = omega arith; few = omega arith };
            value = omega (arith, a.1);
          })
      | inr more ↦ elim (cases_lt column 702) [
        | inl two ↦
            let e : 26 + 26 * ((column - 26) / 26) + (column - 26) % 26 ≡ column = omega arith in
            let P : ℕ → Type 0 = λ n. IsColumn 3 (column_letters n) n in
            subst P e (column_of_two ((column - 26) / 26) ((column - 26) % 26) (omega arith) (omega arith))
        | inr three ↦
            let place = column - 702 in
            let e : 702 + 676 * (place / 26 / 26) + 26 * (place / 26 % 26) + place % 26 ≡ column = omega arith in
            let P : ℕ → Type 0 = λ n. IsColumn 3 (column_letters n) n in
            subst P e
            (column_of_three (place / 26 / 26) (place / 26 % 26) (place % 26) (omega arith) (omega arith) (omega arith))
      ]
    ]
