-- A copy that has the items of the first rows, and of the first cells of the next one.
use Rattle.std.proofs.Common.{◌≡◌, ℕ, ◌+◌, ◌<◌, List, [], ◌∷◌, ◌++◌, false, cond, get_or, length, map, refl, sym, ap}
use Rattle.std.proofs.Common.{subst, ◌∙◌, arith, append_assoc}
use Rattle.std.specs.Prelude.{Some, None, Contains}
use Rattle.std.specs.Ordering.{eq_by_cmp}
use Rattle.std.specs.List.{IsDistinct, range_with_len}
use Rattle.std.specs.Map.{keys_of}
use Rattle.std.proofs.lemmas.Cmp.{eq_by_cmp_equiv}
use Rattle.std.proofs.lemmas.List.{append-nil}
use Rattle.std.proofs.lemmas.List.Elements.{Contains-append_right}
use Rattle.std.proofs.lemmas.Map.Keys.{IsDistinct-head, IsDistinct-tail}
use Rattle.cell_value.specs.Elements.{Contains-cons, Contains-map, from_each}
use Rattle.grid_range.specs.Area.{by_rows}
use Rattle.grid_range.specs.ByRows.{by_rows_total}
use Rattle.cell_store.specs.Entries.{entry_at}
use Rattle.link_store.proofs.ByRows.{entry_added}
use Rattle.link_store.specs.declared.cells.Cell.{Cell}
use Rattle.link_store.specs.declared.cells.Cells.{Cells}
use Rattle.link_store.specs.Lines.{ArePositions, line_entries, list_of}
use Rattle.link_store.specs.Crossings.{IsGrid, IsCellAt, ChangesAt, HasFirstRows, column_of, first_rows, sheet_items}
use Rattle.link_store.proofs.Elements.{IsDistinct-range}
use Rattle.link_store.proofs.Gathered.{list_noted, place_told, placed, rows_more}
use Rattle.link_store.proofs.Sheets.{column_is, distinct_rows, has_column, item_from}

-- where the places differ, no entry before this one is at its place
none_before : {T : Type 0} (es rest : List ((ℕ × ℕ) × T)) (entry : (ℕ × ℕ) × T)
    → IsDistinct (eq_by_cmp by_rows) (keys_of (es ++ entry ∷ rest)) → entry_at es entry.0 ≡ None
none_before [] rest entry apart = refl
none_before (e ∷ es) rest entry apart =
    let keys = keys_of (es ++ entry ∷ rest) in
    let later = Contains-map (λ k. k.0) (es ++ entry ∷ rest) entry
    (Contains-append_right es (entry ∷ rest) entry (0, omega arith, refl)) in
    let differs = from_each (λ k. eq_by_cmp by_rows e.0 k ≡ false) keys
    (IsDistinct-head (eq_by_cmp by_rows) e.0 keys apart) entry.0 later in
    ap (λ b. cond b (Some e.1) (entry_at es entry.0)) ((eq_by_cmp_equiv by_rows_total).symm entry.0 e.0 ∙ differs)
    ∙ none_before es rest entry (IsDistinct-tail (eq_by_cmp by_rows) e.0 keys apart)

module _ {T : Type 0} (cells : Cells T) (row : ℕ) where
  -- the copy has all items up to this row's, save those of the cells that are left
  pub record IsRowCopied (copy : Cells T) (left : List (ℕ × Cell T)) : Type 0 where
    pub done : List ((ℕ × ℕ) × T)
    pub items : (place : ℕ × ℕ) → entry_at (sheet_items copy) place ≡ entry_at done place
    pub all : done ++ map (placed cells row) left ≡ first_rows cells (row + 1)
    pub held : (entry : ℕ × Cell T) → Contains left entry → Contains (line_entries cells.rows row) entry

  -- before the first cell of the row, and behind its last
  pub row_starts : (copy : Cells T) (left : List (ℕ × Cell T)) → HasFirstRows cells row copy
      → left ≡ line_entries cells.rows row → IsRowCopied copy left
  row_starts copy left has same = record {
    done = first_rows cells row;
    items = has;
    all = ap (λ es. first_rows cells row ++ map (placed cells row) es) same ∙ sym (rows_more cells row);
    held = λ entry there. subst (λ es. Contains es entry) same there;
  }

  pub row_copied : {copy : Cells T} {left : List (ℕ × Cell T)} → IsRowCopied copy left → left ≡ []
      → HasFirstRows cells (row + 1) copy
  row_copied is none place =
      is.items place
      ∙ ap (λ es. entry_at es place) (sym (append-nil is.done)
      ∙ ap (λ es. is.done ++ map (placed cells row) es) (sym none) ∙ is.all)

-- the first of the cells that are left
module _ {T : Type 0} {cells : Cells T} (are : IsGrid cells) {positions : List ℕ}
    (told : ArePositions cells.columns positions) {row : ℕ} {copy : Cells T}
    {left rest : List (ℕ × Cell T)} {entry : ℕ × Cell T} (is : IsRowCopied cells row copy left)
    (steps : left ≡ entry ∷ rest) where
  cell_left : Contains (line_entries cells.rows row) entry
  cell_left = is.held entry (subst (λ es. Contains es entry) (sym steps) (0, omega arith, refl))

  -- its column, which is a column of the copy, too
  abbrev column : ℕ
  column = get_or positions entry.1.column 0

  column_is_told : column ≡ column_of cells.columns entry.1
  column_is_told =
      let its = has_column cells are (list_of cells.rows row) entry.0 entry.1 cell_left in
      place_told cells.columns are.columns_are positions told entry.1.column its.0 its.1 its.2

  pub column_listed : entry.1.column < length positions
  column_listed =
      let its = has_column cells are (list_of cells.rows row) entry.0 entry.1 cell_left in
      list_noted cells.columns are.columns_are positions told entry.1.column its.0 its.1 its.2

  pub column_within : column < cells.columns.count
  column_within =
      let its = has_column cells are (list_of cells.rows row) entry.0 entry.1 cell_left in
      omega (arith, its.1, column_is_told, column_is cells are entry.1 its.0 its.1 its.2)

  -- its place holds none of the items that are done, so the copy has no cell there
  place_free : entry_at is.done (row, column_of cells.columns entry.1) ≡ None
  place_free = none_before is.done (map (placed cells row) rest) (placed cells row entry)
      (subst (λ es. IsDistinct (eq_by_cmp by_rows) (keys_of es))
      (sym is.all ∙ ap (λ es. is.done ++ map (placed cells row) es) steps)
      (distinct_rows cells are (range_with_len 0 (row + 1)) (IsDistinct-range 0 (row + 1))))

  pub no_cell_yet : IsGrid copy → (node : ℕ) (cell : Cell T) → IsCellAt copy row column node cell → ⊥
  no_cell_yet grid node cell at =
      absurd (cc (
        item_from copy grid row column node cell at,
        is.items (row, column),
        ap
            (λ k. entry_at is.done (row, k)) column_is_told,
        place_free,
      ))

  -- once its item is added, one cell less is left
  pub cell_copied : {after : Cells T} {item : T} → item ≡ entry.1.item
      → ChangesAt (sheet_items copy) (sheet_items after) (row, column) (Some item) → IsRowCopied cells row after rest
  cell_copied {item = item} same changes = record {
    done = is.done ++ placed cells row entry ∷ [];
    items = λ place.
        changes place
        ∙ ap (λ o. cond (eq_by_cmp by_rows (row, column) place) (Some item) o) (is.items place)
        ∙ ap (λ (e : (ℕ × ℕ) × T). cond (eq_by_cmp by_rows e.0 place) (Some e.1) (entry_at is.done place))
        (λ i. ((row, column_is_told i), same i))
        ∙ sym (entry_added (row, column_of cells.columns entry.1) is.done entry.1.item place place_free);
    all = append_assoc is.done (placed cells row entry ∷ []) (map (placed cells row) rest)
        ∙ ap (λ es. is.done ++ map (placed cells row) es) (sym steps) ∙ is.all;
    held = λ other has. is.held other (subst (λ es. Contains es other) (sym steps)
        (Contains-cons entry other rest has));
  }
