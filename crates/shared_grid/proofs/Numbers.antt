-- The numbers of lines, the keys that are made of them, and the places that are noted.
use native.Mathlib.Omega.{arith}
use Rattle.std.proofs.Common.{◌≡◌, inl, inr, ℕ, ◌+◌, ◌<◌, ◌-◌, Bool, true, false, List, [], ◌∷◌, ◌++◌, get_or, length, refl, sym, ap, subst, ◌∙◌}
use Rattle.std.specs.Cmp.{nat_cmp_total}
use Rattle.std.specs.Ordering.{nat_cmp, eq_by_cmp}
use Rattle.std.proofs.lemmas.Bool.{cases_lt}
use Rattle.std.proofs.lemmas.List.{length-append, get_or_append_left, get_or-append_right}
use Rattle.std.proofs.lemmas.Cmp.{eq_by_cmp_equiv}
use Rattle.std.proofs.lemmas.Map.Lookups.{exact_unsigned}
use Rattle.std.proofs.lemmas.Map.Views.{tells_apart}
use Rattle.std.proofs.lemmas.Nat.{div-mul-add, mod-mul-add}
use Rattle.grid_range.specs.Area.{by_rows}
use Rattle.grid_range.specs.ByRows.{by_rows_total, same_cell}
use Rattle.shared_grid.specs.Orders.{LineOrder}
use Rattle.shared_grid.specs.Cells.{numbers, key_of, line_in, across_in}
use Rattle.shared_grid.specs.Orders.{AreNumbers, IsOrder, number_of, place_noted}
use Rattle.shared_grid.specs.Sheets.{key_at, place_in, IsOnLines}

pub place_itself : (place : ℕ × ℕ) → eq_by_cmp by_rows place place ≡ true
place_itself place = (eq_by_cmp_equiv by_rows_total).refl place

pub same_key : (one other : ℕ) → eq_by_cmp nat_cmp one other ≡ true → one ≡ other
same_key one other e = tells_apart exact_unsigned one other e

pub key_itself : (key : ℕ) → eq_by_cmp nat_cmp key key ≡ true
key_itself key = (eq_by_cmp_equiv nat_cmp_total).refl key

pub keys_turned : (one other : ℕ) → eq_by_cmp nat_cmp one other ≡ eq_by_cmp nat_cmp other one
keys_turned one other = (eq_by_cmp_equiv nat_cmp_total).symm one other

-- tests that are true of the same
pub alike : (a b : Bool) → (a ≡ true → b ≡ true) → (b ≡ true → a ≡ true) → a ≡ b
alike true b there back = sym (there refl)
alike false true there back = back refl
alike false false there back = refl

-- the lines of a key
pub line-key : (line across : ℕ) → across < numbers → line_in (key_of line across) ≡ line
line-key line across small = div-mul-add line numbers across small

pub across-key : (line across : ℕ) → across < numbers → across_in (key_of line across) ≡ across
across-key line across small = mod-mul-add line numbers across small

-- a number of a line fits its half of a key
pub small : (order : LineOrder) → IsOrder order → (line : ℕ) → line < order.count → number_of order line < numbers
small order is line there = omega (arith, is.each.within line (omega (arith, is.count)), is.most, is.count)

-- the place of a line is noted at its number
pub noted-line : (order : LineOrder) → IsOrder order → (line : ℕ) → line < order.count
    → place_noted order (number_of order line) ≡ line
noted-line order is line there = is.noted line (omega (arith, there, is.count))

module _ (rows columns : LineOrder) (rows_are : IsOrder rows) (columns_are : IsOrder columns) where
  pub place-key : (row col : ℕ) → row < rows.count → col < columns.count
      → place_in rows columns (key_at rows columns row col) ≡ (row, col)
  place-key row col row_there col_there =
      let fits = small columns columns_are col col_there in
      let one = ap (place_noted rows) (line-key (number_of rows row) (number_of columns col) fits)
      ∙ noted-line rows rows_are row row_there in
      let two = ap (place_noted columns) (across-key (number_of rows row) (number_of columns col) fits)
      ∙ noted-line columns columns_are col col_there in
      λ i. (one i, two i)

  -- the place of a key with the numbers of a row and of a column
  pub place-line : (key : ℕ) (on : IsOnLines rows columns key) → place_in rows columns key ≡ (on.row, on.column)
  place-line key on = ap (place_in rows columns) on.is ∙ place-key on.row on.column on.there.0 on.there.1

  -- a place is a key's exactly where its key is that one
  pub place_or_key : (row col key : ℕ) → row < rows.count → col < columns.count → IsOnLines rows columns key
      → eq_by_cmp by_rows (row, col) (place_in rows columns key) ≡ eq_by_cmp nat_cmp (key_at rows columns row col) key
  place_or_key row col key row_there col_there on = alike _ _
      (λ places.
      let same : (row, col) ≡ (on.row, on.column) = same_cell (row, col) (place_in rows columns key) places
      ∙ place-line key on in
      let keys : key_at rows columns row col ≡ key = ap (λ (place : ℕ × ℕ). key_at rows columns place.0 place.1) same
      ∙ sym on.is in
      subst (λ other. eq_by_cmp nat_cmp (key_at rows columns row col) other ≡ true) keys
      (key_itself (key_at rows columns row col)))
      (λ keys.
      let same : (row, col) ≡ place_in rows columns key = sym (place-key row col row_there col_there)
      ∙ ap (place_in rows columns) (same_key (key_at rows columns row col) key keys) in
      subst (λ other. eq_by_cmp by_rows (row, col) other ≡ true) same (place_itself (row, col)))

  -- two keys are one exactly where their places are
  pub places_or_keys : (one other : ℕ) → IsOnLines rows columns one → IsOnLines rows columns other
      → eq_by_cmp by_rows (place_in rows columns one) (place_in rows columns other) ≡ eq_by_cmp nat_cmp one other
  places_or_keys one other on_one on_other =
      ap (λ place. eq_by_cmp by_rows place (place_in rows columns other)) (place-line one on_one)
      ∙ place_or_key on_one.row on_one.column other on_one.there.0 on_one.there.1 on_other
      ∙ ap (λ key. eq_by_cmp nat_cmp key other) (sym on_one.is)

-- the next number behind the others
module _ (xs ys : List ℕ) (number : ℕ) (are : AreNumbers xs) (is : ys ≡ xs ++ number ∷ [])
    (next : number ≡ length xs) where
  longer : length ys ≡ length xs + 1
  longer = omega (arith, ap length is, length-append xs (number ∷ []))

  pub number_kept : (i : ℕ) → i < length xs → get_or ys i 0 ≡ get_or xs i 0
  number_kept i there = ap (λ zs. get_or zs i 0) is ∙ get_or_append_left xs (number ∷ []) 0 i there

  number_new : (i : ℕ) → i ≡ length xs → get_or ys i 0 ≡ number
  number_new i last =
      let first : i - length xs ≡ 0 = omega arith in
      ap (λ zs. get_or zs i 0) is
      ∙ get_or-append_right xs (number ∷ []) (length xs) i 0 refl (omega arith)
      ∙ ap (λ j. get_or (number ∷ []) j 0) first

  pub numbers_more : AreNumbers ys
  numbers_more = record {
    within = λ i there. elim (cases_lt i (length xs)) [
      | inl old ↦ omega (arith, number_kept i old, are.within i old, longer)
      | inr new ↦ omega (arith, number_new i (omega (arith, longer)), longer)
    ];
    apart = λ i j one two same. elim (cases_lt i (length xs)) [
      | inl first ↦ elim (cases_lt j (length xs)) [
        | inl second ↦ are.apart i j first second (sym (number_kept i first) ∙ same ∙ number_kept j second)
        | inr last ↦ absurd (omega (
          arith,
          number_kept i first,
          are.within i first,
          number_new j (omega (arith, longer)),
          same,
        ))
      ]
      | inr last ↦ elim (cases_lt j (length xs)) [
        | inl second ↦ absurd (omega (
          arith,
          number_kept j second,
          are.within j second,
          number_new i (omega (arith, longer)),
          same,
        ))
        | inr both ↦ omega (arith, longer)
      ]
    ];
  }
