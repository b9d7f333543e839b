-- What a tree of items stands for, before and after its calls.
use Rattle.std.proofs.Common.{List, length, ◌≡◌, ℕ, refl, sym, ap, subst, ◌∙◌, true, false, cond, ◌<◌}
use Rattle.std.specs.Prelude.{Some, None}
use Rattle.std.specs.Option.{IsSome}
use Rattle.std.proofs.lemmas.Bool.{false≢true}
use Rattle.std.proofs.lemmas.Map.Views.{tells_apart}
use Rattle.std.specs.List.{IsDistinct, list_any}
use Rattle.std.proofs.lemmas.Map.Made.{is_some-lookup}
use Rattle.std.specs.Ordering.{eq_by_cmp}
use Rattle.std.specs.Map.{lookup, keys_of}
use Rattle.std.specs.FinMap as map
use Rattle.grid_range.specs.Area.{by_rows}
use Rattle.grid_range.specs.ByRows.{by_rows_exact}
use Rattle.cell_store.specs.Table.{Table, item_at, filled_places, HasItemsInside, with_item, without_item}
use Rattle.cell_store.specs.Entries.{entry_at, HasEntriesInside, table_of}
use Rattle.cell_store.proofs.Cells.{SetsPlace, get-cells, same_cells, cells_put, cells_taken}
use Rattle.cell_store.proofs.Cells.{len-cells}

module _ {T : Type 0} (rows cols : ℕ) (items : List ((ℕ × ℕ) × T)) {table : Table T}
    (view : table_of rows cols items ≡ table) where
  pub item-view : (row col : ℕ) → entry_at items (row, col) ≡ item_at table row col
  item-view row col = sym (get-cells items (row, col)) ∙ ap (λ t. item_at t row col) view

  pub inside-view : HasEntriesInside rows cols items → HasItemsInside table
  inside-view inside = subst HasItemsInside view
      (λ row col some. inside (row, col) (subst IsSome (get-cells items (row, col)) some))

  pub filled-view : IsDistinct (eq_by_cmp by_rows) (keys_of items) → length items ≡ filled_places table
  filled-view apart = sym (len-cells items apart) ∙ ap filled_places view

  pub put-view : (after : List ((ℕ × ℕ) × T)) (row col : ℕ) (item : T) → SetsPlace items after (row, col) (Some item)
      → table_of rows cols after ≡ with_item table row col item
  put-view after row col item updates =
      ap (λ cells. record { rows = rows; cols = cols; cells = cells }) (cells_put items after (row, col) item updates)
      ∙ ap (λ t. with_item t row col item) view

  pub taken-view : (after : List ((ℕ × ℕ) × T)) (row col : ℕ) → SetsPlace items after (row, col) None
      → table_of rows cols after ≡ without_item table row col
  taken-view after row col updates =
      ap (λ cells. record { rows = rows; cols = cols; cells = cells }) (cells_taken items after (row, col) updates)
      ∙ ap (λ t. without_item t row col) view

  pub same-view : (after : List ((ℕ × ℕ) × T)) → after ≡ items → table_of rows cols after ≡ table
  same-view after same = ap (λ es. record { rows = rows; cols = cols; cells = map.from_entries es }) same ∙ view

module _ {T : Type 0} (rows cols : ℕ) (before after : List ((ℕ × ℕ) × T))
    (inside : HasEntriesInside rows cols before) where
  pub inside-put : (row col : ℕ) (item : T) → (row < rows) × (col < cols)
      → SetsPlace before after (row, col) (Some item)
      → HasEntriesInside rows cols after
  inside-put row col item there updates place some =
      elim (eq_by_cmp by_rows (row, col) place) as (λ b. eq_by_cmp by_rows (row, col) place ≡ b
      → IsSome (cond b (Some item) (entry_at before place)) → (place.0 < rows) × (place.1 < cols)) [
        | true ↦ λ same _. subst (λ (p : ℕ × ℕ). (p.0 < rows) × (p.1 < cols))
            (tells_apart by_rows_exact (row, col) place same) there
        | false ↦ λ _ held. inside place held
      ] refl (subst IsSome (updates place) some)

  pub inside-taken : (row col : ℕ) → SetsPlace before after (row, col) None → HasEntriesInside rows cols after
  inside-taken row col updates place some =
      elim (eq_by_cmp by_rows (row, col) place) as (λ b. IsSome (cond b None (entry_at before place))
      → (place.0 < rows) × (place.1 < cols)) [
        | true ↦ λ none. absurd (false≢true none)
        | false ↦ λ there. inside place there
      ] (subst IsSome (updates place) some)

  -- the same items
  pub inside-same : ((place : ℕ × ℕ) → entry_at after place ≡ entry_at before place) → HasEntriesInside rows cols after
  inside-same same place some = inside place (subst IsSome (same place) some)

  -- items at the same places
  pub inside-keys : keys_of after ≡ keys_of before → HasEntriesInside rows cols after
  inside-keys same place some =
      let test = eq_by_cmp by_rows place in
      inside place (is_some-lookup test before ∙ ap (list_any test) (sym same) ∙ sym (is_some-lookup test after) ∙ some)

  pub inside-unchanged : after ≡ before → HasEntriesInside rows cols after
  inside-unchanged same = inside-same (λ place. ap (λ es. lookup (eq_by_cmp by_rows place) es) same)

-- a tree with the same items stands for the same sheet
pub copy-view : {T : Type 0} (rows cols : ℕ) (items made : List ((ℕ × ℕ) × T)) {table : Table T}
    → table_of rows cols items ≡ table
    → ((place : ℕ × ℕ) → entry_at made place ≡ entry_at items place) → table_of rows cols made ≡ table
copy-view rows cols items made view same =
    ap (λ cells. record { rows = rows; cols = cols; cells = cells })
    (same_cells _ _ (λ place. get-cells made place ∙ same place ∙ sym (get-cells items place)))
    ∙ view
