-- The places in which something is stored, by rows and by columns, and the last of those of an area.
use Rattle.std.proofs.Common.{◌≡◌, ℕ, ◌+◌, ◌-◌, ◌<◌, ◌≤◌, ◌⊎◌, inl, inr, arith, sym, ap, subst, ◌∙◌, List, [], ◌∷◌, length, get_or, false}
use Rattle.std.specs.Prelude.{Contains, ◌↔◌, Some, slice_get}
use Rattle.std.specs.declared.cmp.Ordering.TheVariants.{Less}
use Rattle.std.specs.List.{IsDistinct}
use Rattle.std.specs.List.Sorted.{IsStrictlySortedBy}
use Rattle.std.specs.Ordering.{eq_by_cmp}
use Rattle.std.proofs.lemmas.Bool.Decides.{nat_tests}
use Rattle.std.proofs.lemmas.Option.{get_or_from_slice_get, slice_get_within}
use Rattle.std.proofs.lemmas.Map.Keys.{IsDistinct-head, IsDistinct-tail, IsDistinct-cons, IsDistinct-from_sorted, Less-from_sorted}
use Rattle.cell_value.specs.Elements.{Contains-map, Contains-map_from, IsDistinct-none, each_from, from_each}
use Rattle.grid_range.specs.Area.{by_rows}
use Rattle.grid_range.specs.declared.area.Area.{Area}
use Rattle.grid_range.specs.declared.band.Band.TheVariants.{Whole}
use Rattle.cell_store.specs.Places.{AreFilledPlaces}
use Rattle.cell_store.specs.Table.{HasItemsInside, Table, most_lines}
use Rattle.values_api.specs.declared.table.Rectangle.{Rectangle}
use Rattle.values_api.specs.declared.table.Stored.{Stored}
use Rattle.values_api.specs.Tables.{AreStored, IsLastOf, IsListed, IsStored, IsTable, IsTableIn, columns_first}
use Rattle.values_api.proofs.Between.{split}

-- ---- by columns

turned_apart : (a b c d : ℕ) → eq_by_cmp by_rows (a, b) (c, d) ≡ false → eq_by_cmp by_rows (b, a) (d, c) ≡ false
turned_apart a b c d apart = grind (arith, nat_tests)

pub columns_apart : (places : List (ℕ × ℕ)) → IsDistinct (eq_by_cmp by_rows) places
    → IsDistinct (eq_by_cmp by_rows) (columns_first places)
columns_apart [] apart = IsDistinct-none (eq_by_cmp by_rows)
columns_apart (place ∷ places) apart =
    IsDistinct-cons (eq_by_cmp by_rows) (place.1, place.0) (columns_first places)
    (each_from (λ other. eq_by_cmp by_rows (place.1, place.0) other ≡ false) (columns_first places) (λ other has.
    let (found, there, is) = Contains-map_from (λ (p : ℕ × ℕ). (p.1, p.0)) places other has in
    subst (λ (o : ℕ × ℕ). eq_by_cmp by_rows (place.1, place.0) o ≡ false) is
    (turned_apart place.0 place.1 found.0 found.1
    (from_each (λ o. eq_by_cmp by_rows place o ≡ false) places
    (IsDistinct-head (eq_by_cmp by_rows) place places apart) found there))))
    (columns_apart places (IsDistinct-tail (eq_by_cmp by_rows) place places apart))

pub sorted_columns_apart : (places : List (ℕ × ℕ)) → IsStrictlySortedBy by_rows places
    → IsDistinct (eq_by_cmp by_rows) (columns_first places)
sorted_columns_apart places sorted = columns_apart places (IsDistinct-from_sorted by_rows places sorted)

pub columns_have : (places : List (ℕ × ℕ)) (row col : ℕ) → Contains places (row, col)
    ↔ Contains (columns_first places) (col, row)
columns_have places row col = (
  (λ has. Contains-map (λ (p : ℕ × ℕ). (p.1, p.0)) places (row, col) has),
  (λ has.
      let (found, there, is) = Contains-map_from (λ (p : ℕ × ℕ). (p.1, p.0)) places (col, row) has in
      subst (Contains places) (ap (λ (p : ℕ × ℕ). (p.1, p.0)) is) there),
)

-- both lists of the places of a table
module _ {T : Type 0} (sheet : ℕ) (table : Table T) (inside : HasItemsInside table) (places cols : List (ℕ × ℕ))
    (filled : AreFilledPlaces (record { sheet = sheet; rows = Whole; cols = Whole }) table places) where
  pub are_stored : (rows_count cols_count : ℕ) → rows_count ≡ table.rows → cols_count ≡ table.cols
      → table.rows + table.cols ≤ most_lines → IsStrictlySortedBy by_rows cols
      → ((row col : ℕ) → Contains cols (row, col)
      ↔ ((Unit {0} × Unit {0}) × Contains (columns_first places) (row, col)))
      → AreStored (record { by_rows = places; by_cols = cols; rows = rows_count; cols = cols_count })
  are_stored rows_count cols_count rows_are cols_are few sorted exactly = record {
    rows_in_order = filled.in_order;
    cols_in_order = sorted;
    same = λ row col. (
      (λ has. (exactly col row).1 ((tt, tt), (columns_have places row col).0 has)),
      (λ has. (columns_have places row col).1 ((exactly col row).0 has).1),
    );
    few = rw (rows_are, cols_are) few;
    rows = λ row col has. rw rows_are (inside row col ((filled.exactly row col).0 has).1).0;
    cols = λ row col has. rw cols_are (inside row col ((filled.exactly row col).0 has).1).1;
  }

-- ---- the last one

-- one place is before another, or it
up_to : (a b c d : ℕ) → by_rows (a, b) (c, d) ≡ Less → (a < c) ⊎ ((a ≡ c) × (b ≤ d))
up_to a b c d less = grind (arith, nat_tests)

module _ (places : List (ℕ × ℕ)) (place : ℕ × ℕ) (last : slice_get places (length places - 1) ≡ Some place) where
  pub last_there : Contains places place
  last_there = (
    length places - 1,
    slice_get_within places (length places - 1) place last,
    get_or_from_slice_get places (length places - 1) place place last,
  )

  behind_none : (other : ℕ × ℕ) (i : ℕ) → IsStrictlySortedBy by_rows places → i < length places
      → get_or places i other ≡ other → (i < length places - 1) ⊎ (i ≡ length places - 1)
      → (other.0 < place.0) ⊎ ((other.0 ≡ place.0) × (other.1 ≤ place.1))
  behind_none other i sorted there at (inl before) =
      up_to other.0 other.1 place.0 place.1
      (subst (λ (p : ℕ × ℕ). by_rows other p ≡ Less) (get_or_from_slice_get places (length places - 1) place other last)
      (subst (λ (p : ℕ × ℕ). by_rows p (get_or places (length places - 1) other) ≡ Less) at
      (Less-from_sorted by_rows places i (length places - 1) other sorted before (omega arith))))
  behind_none other i sorted there at (inr same) =
      let is : other ≡ place =
      sym at ∙ ap (λ n. get_or places n other) same
      ∙ get_or_from_slice_get places (length places - 1) place other last in
      inr (ap (λ (p : ℕ × ℕ). p.0) is, subst (λ (p : ℕ × ℕ). other.1 ≤ p.1) is (omega arith))

  pub last_of : (other : ℕ × ℕ) → IsStrictlySortedBy by_rows places → Contains places other
      → (other.0 < place.0) ⊎ ((other.0 ≡ place.0) × (other.1 ≤ place.1))
  last_of other sorted (i, there, at) = behind_none other i sorted there at (split (omega arith))

-- ---- a table, by another word for what is stored

pub table_by : (One Other : ℕ → ℕ → Type 0) → ((row col : ℕ) → One row col ↔ Other row col) → (row col : ℕ)
    (table : Rectangle) → IsTable One row col table → IsTable Other row col table
table_by One Other same row col table is = record {
  has_cell = is.has_cell;
  closed = λ r c stored near. is.closed r c ((same r c).1 stored) near;
  least = λ other has closed. is.least other has (λ r c stored near. closed r c ((same r c).0 stored) near);
}

module _ {T : Type 0} (area : Area) (table : Table T) (held : List (ℕ × ℕ)) (filled : AreFilledPlaces area table held)
    (place : ℕ × ℕ) (last : slice_get held (length held - 1) ≡ Some place) where
  -- the last of the area's places in which something is stored
  pub is_last : IsLastOf area table place.0 place.1
  is_last =
      let there = (filled.exactly place.0 place.1).0 (last_there held place last) in
      record {
        held = there.0;
        stored = there.1;
        last = λ r c holds stored.
            last_of held place last (r, c) filled.in_order ((filled.exactly r c).1 (holds, stored));
      }

  pub last_listed : (stored : Stored) → ((row col : ℕ) → IsListed stored row col ↔ IsStored table row col)
      → IsListed stored place.0 place.1
  last_listed stored listed = (listed place.0 place.1).1 is_last.stored

  pub is_table_in : (stored : Stored) → ((row col : ℕ) → IsListed stored row col ↔ IsStored table row col)
      → (found : Rectangle) → IsTable (IsListed stored) place.0 place.1 found → IsTableIn area table (Some found)
  is_table_in stored listed found is =
      (place.0, place.1, is_last, table_by (IsListed stored) (IsStored table) listed place.0 place.1 found is)
