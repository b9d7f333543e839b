-- Laws of the places of so many rows and columns.
use Rattle.std.proofs.Common.{◌≡◌, ℕ, suc, zero, ◌<◌, List, [], ◌∷◌, ◌++◌, inl, inr, Contains, refl, sym, subst, arith}
use Rattle.std.proofs.lemmas.Bool.{cases_eq}
use Rattle.std.proofs.lemmas.List.Elements.{Contains-append_cases, Contains-append_left, Contains-append_right}
use Rattle.cell_value.specs.Elements.{nothing_in, Contains-head, Contains-cons, Contains-cons_cases}

-- the first places of a row
abbrev pub row_places : ℕ → ℕ → List (ℕ × ℕ)
row_places row zero = []
row_places row (suc cols) = (row, cols) ∷ row_places row cols

-- those of the first rows
abbrev pub all_places : ℕ → ℕ → List (ℕ × ℕ)
all_places zero cols = []
all_places (suc rows) cols = row_places rows cols ++ all_places rows cols

-- a place of a row is one of its first ones
pub in_row : (row cols : ℕ) (place : ℕ × ℕ) → Contains (row_places row cols) place → (place.0 ≡ row) × (place.1 < cols)
in_row row zero place has = absurd (nothing_in place has)
in_row row (suc cols) place has = elim (Contains-cons_cases (row, cols) place (row_places row cols) has) [
  | inl same ↦ subst (λ (p : ℕ × ℕ). (p.0 ≡ row) × (p.1 < suc cols)) same (refl, omega arith)
  | inr later ↦ let (own, below) = in_row row cols place later in (own, omega (arith, below))
]

row_has : (row cols col : ℕ) → col < cols → Contains (row_places row cols) (row, col)
row_has row zero col there = absurd (let no : ⊥ = omega (arith, there) in no)
row_has row (suc cols) col there = elim (cases_eq cols col) [
  | inl same ↦
      subst (λ n. Contains (row_places row (suc cols)) (row, n)) same
      (Contains-head (row, cols) (row_places row cols))
  | inr apart ↦
      Contains-cons (row, cols) (row, col) (row_places row cols) (row_has row cols col (omega (arith, there, apart)))
]

-- a place is one of them just where its row and its column are below
pub in_places : (rows cols : ℕ) (place : ℕ × ℕ) → Contains (all_places rows cols) place
    → (place.0 < rows) × (place.1 < cols)
in_places zero cols place has = absurd (nothing_in place has)
in_places (suc rows) cols place has =
    elim (Contains-append_cases (row_places rows cols) (all_places rows cols) place has) [
      | inl first ↦ let (own, below) = in_row rows cols place first in (omega (arith, own), below)
      | inr later ↦ let (before, below) = in_places rows cols place later in (omega (arith, before), below)
    ]

pub places_have : (rows cols row col : ℕ) → row < rows → col < cols → Contains (all_places rows cols) (row, col)
places_have zero cols row col there within = absurd (let no : ⊥ = omega (arith, there) in no)
places_have (suc rows) cols row col there within = elim (cases_eq rows row) [
  | inl same ↦
      Contains-append_left (row_places rows cols) (all_places rows cols) (row, col)
      (subst (λ n. Contains (row_places n cols) (row, col)) (sym same) (row_has row cols col within))
  | inr apart ↦
      Contains-append_right (row_places rows cols) (all_places rows cols) (row, col)
      (places_have rows cols row col (omega (arith, there, apart)) within)
]
