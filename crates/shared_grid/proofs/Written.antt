-- The sheet after an item was put or taken.
use Rattle.std.proofs.Common.{◌≡◌, ℕ, ◌<◌, true, false, cond, refl, sym, ap, subst, ◌∙◌}
use Rattle.std.specs.Prelude.{Some, None, is_some}
use Rattle.std.specs.Option.{IsSome}
use Rattle.std.specs.Cmp.{nat_cmp_total}
use Rattle.std.specs.Ordering.{nat_cmp, eq_by_cmp}
use Rattle.std.specs.FinMap as map
use Rattle.std.proofs.lemmas.Bool.{false≢true}
use Rattle.grid_range.specs.Area.{by_rows}
use Rattle.grid_range.specs.ByRows.{same_cell}
use Rattle.cell_store.specs.Table.{item_at, empty_table, with_item, without_item}
use Rattle.cell_store.specs.Laws.{TablesByItems}
use Rattle.shared_grid.specs.Orders.{LineOrder}
use Rattle.shared_grid.specs.Orders.{IsOrder}
use Rattle.shared_grid.specs.Sheets.{key_at, sheet_of, IsOnLines, AreOnLines}
use Rattle.shared_grid.proofs.Numbers.{same_key, keys_turned, place-key, place_or_key}
use Rattle.shared_grid.proofs.Placed.{item-place, none_outside, is_table}

module _ {X : Type 0} (rows columns : LineOrder) where
  -- no items are on lines
  pub none_on_lines : AreOnLines rows columns (map.empty {X = X} {R = nat_cmp})
  none_on_lines =
      record { each = λ key some. absurd (false≢true (ap is_some (sym (map.get-empty nat_cmp key)) ∙ some)) }

  module _ (items : map.FinMap nat_cmp X) (lines : AreOnLines rows columns items) where
    pub put_on_lines : (row col : ℕ) (item : X) → row < rows.count → col < columns.count
        → AreOnLines rows columns (map.insert items (key_at rows columns row col) item)
    put_on_lines row col item row_there col_there = record {
      each = λ key some.
          elim (eq_by_cmp nat_cmp key (key_at rows columns row col)) as (λ b.
          eq_by_cmp nat_cmp key (key_at rows columns row col) ≡ b → IsSome (cond b (Some item) (map.get items key))
          → IsOnLines rows columns key) [
            | true ↦ λ same _. record {
              row = row;
              column = col;
              there = (row_there, col_there);
              is = same_key key (key_at rows columns row col) same;
            }
            | false ↦ λ _ held. lines.each key held
          ] refl (subst IsSome (map.get-insert nat_cmp_total items (key_at rows columns row col) item key) some);
    }

    pub taken_on_lines : (gone : ℕ) → AreOnLines rows columns (map.remove items gone)
    taken_on_lines gone = record {
      each = λ key some.
          elim (eq_by_cmp nat_cmp key gone) as (λ b. IsSome (cond b None (map.get items key))
          → IsOnLines rows columns key) [
            | true ↦ λ none. absurd (false≢true none)
            | false ↦ λ held. lines.each key held
          ] (subst IsSome (map.get-remove nat_cmp_total items gone key) some);
    }

module _ {X : Type 0} (laws : TablesByItems X) (rows columns : LineOrder) (rows_are : IsOrder rows)
    (columns_are : IsOrder columns) where
  pub empty_sheet : sheet_of rows columns (map.empty {X = X} {R = nat_cmp}) ≡ empty_table rows.count columns.count
  empty_sheet = is_table laws rows columns rows_are columns_are map.empty (none_on_lines rows columns)
      (empty_table rows.count columns.count) refl refl
      (λ row col _ _. map.get-empty nat_cmp (key_at rows columns row col)
      ∙ sym (laws.empty rows.count columns.count row col))
      (λ row col _. laws.empty rows.count columns.count row col)

  module _ (items : map.FinMap nat_cmp X) (lines : AreOnLines rows columns items) (row col : ℕ)
      (row_there : row < rows.count) (col_there : col < columns.count) where
    -- the key of another place differs where the place does
    tests : (r c : ℕ) → r < rows.count → c < columns.count
        → eq_by_cmp nat_cmp (key_at rows columns r c) (key_at rows columns row col)
        ≡ eq_by_cmp by_rows (row, col) (r, c)
    tests r c r_there c_there =
        keys_turned (key_at rows columns r c) (key_at rows columns row col)
        ∙ sym (place_or_key rows columns rows_are columns_are row col (key_at rows columns r c) row_there col_there
        (record { row = r; column = c; there = (r_there, c_there); is = refl }))
        ∙ ap (eq_by_cmp by_rows (row, col)) (place-key rows columns rows_are columns_are r c r_there c_there)

    -- a place outside is another
    other_place : (r c : ℕ) → ((r < rows.count) × (c < columns.count) → ⊥) → eq_by_cmp by_rows (row, col) (r, c) ≡ false
    other_place r c out = elim (eq_by_cmp by_rows (row, col) (r, c)) as (λ b. eq_by_cmp by_rows (row, col) (r, c) ≡ b
        → b ≡ false) [
          | true ↦ λ same. absurd (out (subst (λ (place : ℕ × ℕ). (place.0 < rows.count) × (place.1 < columns.count))
              (same_cell (row, col) (r, c) same) (row_there, col_there)))
          | false ↦ λ _. refl
        ] refl

    pub put_sheet : (item : X)
        → sheet_of rows columns (map.insert items (key_at rows columns row col) item)
        ≡ with_item (sheet_of rows columns items) row col item
    put_sheet item = is_table laws rows columns rows_are columns_are _
        (put_on_lines rows columns items lines row col item row_there col_there) (with_item _ row col item) refl refl
        (λ r c r_there c_there.
        map.get-insert nat_cmp_total items (key_at rows columns row col) item (key_at rows columns r c)
        ∙ ap (λ b. cond b (Some item) (map.get items (key_at rows columns r c))) (tests r c r_there c_there)
        ∙ ap (cond (eq_by_cmp by_rows (row, col) (r, c)) (Some item))
        (sym (item-place laws rows columns rows_are columns_are items lines r c r_there c_there))
        ∙ sym (laws.put (sheet_of rows columns items) (row, col) item r c))
        (λ r c out.
        laws.put (sheet_of rows columns items) (row, col) item r c
        ∙ ap (λ b. cond b (Some item) (item_at (sheet_of rows columns items) r c))
        (other_place r c out)
        ∙ none_outside laws rows columns rows_are columns_are items lines r c out)

    pub taken_sheet : sheet_of rows columns (map.remove items (key_at rows columns row col))
        ≡ without_item (sheet_of rows columns items) row col
    taken_sheet = is_table laws rows columns rows_are columns_are _
        (taken_on_lines rows columns items lines (key_at rows columns row col)) (without_item _ row col) refl refl
        (λ r c r_there c_there.
        map.get-remove nat_cmp_total items (key_at rows columns row col) (key_at rows columns r c)
        ∙ ap (λ b. cond b None (map.get items (key_at rows columns r c))) (tests r c r_there c_there)
        ∙ ap (cond (eq_by_cmp by_rows (row, col) (r, c)) None)
        (sym (item-place laws rows columns rows_are columns_are items lines r c r_there c_there))
        ∙ sym (laws.taken (sheet_of rows columns items) (row, col) r c))
        (λ r c out.
        laws.taken (sheet_of rows columns items) (row, col) r c
        ∙ ap (λ b. cond b None (item_at (sheet_of rows columns items) r c))
        (other_place r c out)
        ∙ none_outside laws rows columns rows_are columns_are items lines r c out)

  -- nothing is taken from a place outside
  pub none_taken : (items : map.FinMap nat_cmp X) (lines : AreOnLines rows columns items) (row col : ℕ)
      → ((row < rows.count) × (col < columns.count) → ⊥)
      → sheet_of rows columns items
      ≡ without_item (sheet_of rows columns items) row col
  none_taken items lines row col out =
      let is = sheet_of rows columns items in
      laws.same is (without_item is row col) refl refl (λ r c.
      elim (eq_by_cmp by_rows (row, col) (r, c)) as (λ b. eq_by_cmp by_rows (row, col) (r, c) ≡ b
      → item_at is r c ≡ cond b None (item_at is r c)) [
        | true ↦ λ same. ap (λ (place : ℕ × ℕ). item_at is place.0 place.1) (sym (same_cell (row, col) (r, c) same))
            ∙ none_outside laws rows columns rows_are columns_are items lines row col out
        | false ↦ λ _. refl
      ] refl ∙ sym (laws.taken is (row, col) r c))
