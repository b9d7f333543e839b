-- The cells of an area that hold something, from its stored places by rows.
use Rattle.std.proofs.Common.{◌≡◌, ℕ, zero, suc, ◌+◌, ◌-◌, ◌*◌, ◌≤◌, ◌⊎◌, inl, inr, true, false, cond, List, [], ◌∷◌, ◌++◌, length, map, refl, ap, sym, subst, ◌∙◌, arith, Contains}
use Rattle.std.specs.Prelude.{flat_map}
use Rattle.std.specs.List.{range_with_len}
use Rattle.std.specs.List.Sorted.{IsStrictlySortedBy}
use Rattle.std.specs.declared.cmp.Ordering.{Ordering}
use Rattle.std.specs.declared.cmp.Ordering.TheVariants.{Less}
use Rattle.std.proofs.lemmas.List.{map-append}
use Rattle.cell_value.specs.Elements.{nothing_in, Contains-head, Contains-cons, Contains-cons_cases, from_each}
use Rattle.cell_value.specs.declared.cell.Value.{Value}
use Rattle.cell_calc.specs.LogicFunctions.{is_blank}
use Rattle.cell_calc.specs.Lent.{filled_from}
use Rattle.cell_calc.specs.Known.{filled_at}
use Rattle.cell_calc.specs.Book.{Place}

-- lists in one strict order that have the same elements are one list
module _ {K : Type 0} (c : K → K → Ordering) (never : (x : K) → c x x ≡ Less → ⊥)
    (on : (x y z : K) → c x y ≡ Less → c y z ≡ Less → c x z ≡ Less) where
  above : (x : K) (xs : List K) → IsStrictlySortedBy c (x ∷ xs) → (y : K) → Contains xs y → c x y ≡ Less
  unfolding IsStrictlySortedBy
  above x xs sorted y has = from_each (λ z. c x z ≡ Less) xs sorted.0 y has

  same_head : (x y : K) (xs ys : List K) → IsStrictlySortedBy c (x ∷ xs) → IsStrictlySortedBy c (y ∷ ys)
      → (y ≡ x) ⊎ Contains ys x → (x ≡ y) ⊎ Contains xs y → x ≡ y
  same_head x y xs ys first second (inl is) other = sym is
  same_head x y xs ys first second (inr in_ys) (inl is) = is
  same_head x y xs ys first second (inr in_ys) (inr in_xs) =
      absurd (never x (on x y x (above x xs first y in_xs) (above y ys second x in_ys)))

  in_tail : (x : K) (xs ys : List K) → IsStrictlySortedBy c (x ∷ xs)
      → ((k : K) → Contains (x ∷ xs) k → Contains (x ∷ ys) k) → (k : K) → Contains xs k → Contains ys k
  in_tail x xs ys sorted all k has =
      elim (Contains-cons_cases x k ys (all k (Contains-cons x k xs has))) [
        | inl is ↦ absurd (never x (subst (λ z. c x z ≡ Less) (sym is) (above x xs sorted k has)))
        | inr later ↦ later
      ]

  pub sorted_alike : (xs ys : List K) → IsStrictlySortedBy c xs → IsStrictlySortedBy c ys
      → ((k : K) → Contains xs k → Contains ys k) → ((k : K) → Contains ys k → Contains xs k) → xs ≡ ys
  unfolding IsStrictlySortedBy
  sorted_alike [] [] first second to from = refl
  sorted_alike [] (y ∷ ys) first second to from = absurd (nothing_in y (from y (Contains-head y ys)))
  sorted_alike (x ∷ xs) [] first second to from = absurd (nothing_in x (to x (Contains-head x xs)))
  sorted_alike (x ∷ xs) (y ∷ ys) first second to from =
      let is = same_head x y xs ys first second (Contains-cons_cases y x ys (to x (Contains-head x xs)))
      (Contains-cons_cases x y xs (from y (Contains-head y ys))) in
      let to' = subst (λ z. (k : K) → Contains (x ∷ xs) k → Contains (z ∷ ys) k) (sym is) to in
      let from' = subst (λ z. (k : K) → Contains (z ∷ ys) k → Contains (x ∷ xs) k) (sym is) from in
      let second' = subst (λ z. IsStrictlySortedBy c (z ∷ ys)) (sym is) second in
      ap (λ z. z ∷ xs) is
      ∙ ap (λ l. y ∷ l)
      (sorted_alike xs ys first.1 second.1 (in_tail x xs ys first to') (in_tail x ys xs second' from'))

filled_cons : (place : ℕ) (value : Value) (later : List Value)
    → filled_from place (value ∷ later) ≡ filled_at place value ++ filled_from (suc place) later
filled_cons place value later =
    elim (is_blank value) as (λ b. cond b (filled_from (suc place) later)
    ((place, value) ∷ filled_from (suc place) later)
    ≡ cond b [] ((place, value) ∷ []) ++ filled_from (suc place) later) [ true ↦ refl | false ↦ refl ]

filled_append : (place : ℕ) (front back : List Value)
    → filled_from place (front ++ back) ≡ filled_from place front ++ filled_from (place + length front) back
filled_append place [] back = ap (λ n. filled_from n back) (omega arith)
filled_append place (value ∷ later) back =
    filled_cons place value (later ++ back)
    ∙ ap (λ l. filled_at place value ++ l) (filled_append (suc place) later back)
    ∙ elim (is_blank value) as (λ b. cond b [] ((place, value) ∷ [])
    ++ (filled_from (suc place) later ++ filled_from (suc place + length later) back)
    ≡ cond b (filled_from (suc place) later) ((place, value) ∷ filled_from (suc place) later)
    ++ filled_from (place + suc (length later)) back) [
      | true ↦ ap (λ n. filled_from (suc place) later ++ filled_from n back) (omega arith)
      | false ↦ ap (λ n. (place, value) ∷ (filled_from (suc place) later ++ filled_from n back)) (omega arith)
    ]

module _ (read : Place → Value) (sheet first_row first_column width : ℕ) where
  abbrev pub at : ℕ → ℕ → Value
  at row column = read (record { sheet = sheet; row = row; column = column })

  -- the place among all by rows
  abbrev pub index_of : ℕ → ℕ → ℕ
  index_of row column = (row - first_row) * width + (column - first_column)

  abbrev pub entry_at : ℕ → ℕ → List (ℕ × Value)
  entry_at row column = filled_at (index_of row column) (at row column)

  one_row : (row column count place : ℕ) → first_column ≤ column → place ≡ index_of row column
      → filled_from place (map (λ c. at row c) (range_with_len column count))
      ≡ flat_map (λ c. entry_at row c) (range_with_len column count)
  one_row row column zero place behind is = refl
  one_row row column (suc count) place behind is =
      filled_cons place (at row column) (map (λ c. at row c) (range_with_len (column + 1) count))
      ∙ ap (λ n. filled_at n (at row column)
      ++ filled_from (suc place) (map (λ c. at row c) (range_with_len (column + 1) count))) is
      ∙ ap (λ l. entry_at row column ++ l)
      (one_row row (column + 1) count (suc place) (omega (arith, behind)) (omega (arith, behind, is)))

  -- the places of some lines by rows
  abbrev pub row_of : ℕ → List Place
  row_of row = map (λ c. record { sheet = sheet; row = row; column = c }) (range_with_len first_column width)

  row_read : (row column count : ℕ)
      → map read (map (λ c. record { sheet = sheet; row = row; column = c }) (range_with_len column count))
      ≡ map (λ c. at row c) (range_with_len column count)
  row_read row column zero = refl
  row_read row column (suc count) = ap (λ l. at row column ∷ l) (row_read row (column + 1) count)

  row_length : (row column count : ℕ) → length (map (λ c. at row c) (range_with_len column count)) ≡ count
  row_length row column zero = refl
  row_length row column (suc count) = ap suc (row_length row (column + 1) count)

  next_row : (row place : ℕ) → first_row ≤ row → place ≡ (row - first_row) * width
      → place + width ≡ (row + 1 - first_row) * width
  next_row row place behind is =
      ap (λ n. n + width) is ∙ sym (ap (λ n. n * width) (later row behind) ∙ suc_times (row - first_row))
    where
      later : (row : ℕ) → first_row ≤ row → row + 1 - first_row ≡ suc (row - first_row)
      later row behind = omega (arith, behind)

      suc_times : (n : ℕ) → suc n * width ≡ n * width + width
      suc_times n = omega arith

  pub all_rows : (row count place : ℕ) → first_row ≤ row → place ≡ (row - first_row) * width
      → filled_from place (map read (flat_map row_of (range_with_len row count)))
      ≡ flat_map (λ r. flat_map (λ c. entry_at r c) (range_with_len first_column width)) (range_with_len row count)
  all_rows row zero place behind is = refl
  all_rows row (suc count) place behind is =
      ap (filled_from place) (map-append read (row_of row) (flat_map row_of (range_with_len (row + 1) count)))
      ∙ ap (λ l. filled_from place (l ++ map read (flat_map row_of (range_with_len (row + 1) count))))
      (row_read row first_column width)
      ∙ filled_append place (map (λ c. at row c) (range_with_len first_column width))
      (map read (flat_map row_of (range_with_len (row + 1) count)))
      ∙ ap (λ l. l ++ filled_from (place + length (map (λ c. at row c) (range_with_len first_column width)))
      (map read (flat_map row_of (range_with_len (row + 1) count))))
      (one_row row first_column width place (omega arith) (omega (arith, is)))
      ∙ ap (λ n. flat_map (λ c. entry_at row c) (range_with_len first_column width)
      ++ filled_from (place + n) (map read (flat_map row_of (range_with_len (row + 1) count))))
      (row_length row first_column width)
      ∙ ap (λ l. flat_map (λ c. entry_at row c) (range_with_len first_column width) ++ l)
      (all_rows (row + 1) count (place + width) (omega (arith, behind)) (next_row row place behind is))
