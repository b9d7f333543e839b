-- The sheet that the grid's lists stand for, before and after its calls.
use Rattle.std.proofs.Common.{◌≡◌, ℕ, suc, ◌+◌, ◌<◌, List, [], ◌∷◌, length, map, take, drop, get_or, refl, sym, ap}
use Rattle.std.proofs.Common.{subst, cond, ◌∙◌, arith}
use Rattle.std.specs.Prelude.{Option, Some, None}
use Rattle.std.specs.Option.{IsSome}
use Rattle.std.specs.Ordering.{eq_by_cmp}
use Rattle.std.proofs.lemmas.Bool.{false≢true}
use Rattle.std.specs.List.{range_with_len, sum_by}
use Rattle.std.proofs.lemmas.List.{length-map, length-take, length-drop, get_or-take, get_or-drop}
use Rattle.std.proofs.lemmas.List.Concat.{length-flat_map}
use Rattle.std.proofs.lemmas.List.FromFn.{fill_by_all}
use Rattle.std.proofs.lemmas.List.Sorted.{sum_by-IsPermutation}
use Rattle.std.proofs.lemmas.List.Sums.{sum_by-cons, sum_by-take-drop}
use Rattle.grid_range.specs.declared.axis.Axis.{Axis}
use Rattle.grid_range.specs.declared.change.Change.{Change}
use Rattle.grid_range.specs.Area.{by_rows}
use Rattle.cell_store.specs.Table.{Table, item_at, filled_places, HasItemsInside, empty_table, with_item}
use Rattle.cell_store.specs.Table.{without_item}
use Rattle.cell_store.specs.Entries.{entry_at, HasEntriesInside}
use Rattle.cell_store.specs.Moved.{GoesWithLines}
use Rattle.cell_store.specs.Laws.{TablesByItems}
use Rattle.link_store.specs.declared.cells.Cells.{Cells}
use Rattle.link_store.specs.declared.lines.Lines.{Lines}
use Rattle.link_store.specs.Lists.{entries_of, live_nodes}
use Rattle.link_store.specs.Lines.{AreLines, line_entries, list_of}
use Rattle.link_store.specs.Crossings.{IsGrid, ChangesAt, GoesAlong, HasSameItems, HasSameSize, listed_table}
use Rattle.link_store.specs.Crossings.{row_items, sheet_items}
use Rattle.link_store.proofs.Sheets.{cell_from, distinct_items}

-- a sum over a list that was made of another, and one of nothing
sum_map : {X Y : Type 0} (f : Y → ℕ) (g : X → Y) (xs : List X) → sum_by f (map g xs) ≡ sum_by (λ x. f (g x)) xs
sum_map f g [] = refl
sum_map f g (x ∷ xs) = sum_by-cons f (g x) (map g xs) ∙ ap (λ n. f (g x) + n) (sum_map f g xs)
    ∙ sym (sum_by-cons (λ y. f (g y)) x xs)

sum_none : (f : ℕ → ℕ) (xs : List ℕ) → ((k : ℕ) → k < length xs → f (get_or xs k 0) ≡ 0) → sum_by f xs ≡ 0
sum_none f [] none = refl
sum_none f (x ∷ xs) none = omega (
  arith,
  sum_by-cons f x xs,
  none 0 (omega arith),
  sum_none f xs (λ k less. none (suc k) (omega arith)),
)

sum_same : {X : Type 0} (f g : X → ℕ) (xs : List X) → ((x : X) → f x ≡ g x) → sum_by f xs ≡ sum_by g xs
sum_same f g [] same = refl
sum_same f g (x ∷ xs) same = sum_by-cons f x xs ∙ ap (λ n. f x + n) (sum_same f g xs same)
    ∙ ap (λ n. n + sum_by g xs) (same x) ∙ sym (sum_by-cons g x xs)

-- the entries of the lines are all that there are
entries_on_lines : {E : Type 0} (lines : Lines E) → AreLines lines
    → sum_by (λ line. length (line_entries lines line)) (range_with_len 0 lines.count) ≡ live_nodes lines.links
entries_on_lines {E} lines are =
    let here : take lines.count lines.lists.items ≡ map (list_of lines) (range_with_len 0 lines.count) =
    fill_by_all (list_of lines) (take lines.count lines.lists.items) lines.count 0
    (simp length-take (omega (arith, are.count)))
    (λ k less. get_or-take lines.count lines.lists.items k 0 less) in
    let all : lines.links ≡ map (entries_of lines.links) (range_with_len 0 (length lines.links)) =
    fill_by_all (entries_of lines.links) lines.links (length lines.links) [] refl (λ k less. refl) in
    let rest : sum_by size (drop lines.count lines.lists.items) ≡ 0 = sum_none size
    (drop lines.count lines.lists.items) (λ k less.
    let inside : lines.count + k < length lines.lists.items = omega
    (arith, length-drop lines.count lines.lists.items) in
    ap size (get_or-drop lines.count lines.lists.items k 0)
    ∙ ap length (are.spare (lines.count + k) (omega arith) inside)) in
    sym (sum_map size (list_of lines) (range_with_len 0 lines.count))
    ∙ ap (sum_by size) (sym here)
    ∙ omega (arith, sum_by-take-drop size lines.lists.items lines.count, rest)
    ∙ sum_by-IsPermutation size (range_with_len 0 (length lines.links)) lines.lists.items are.each_list
    ∙ sym (sum_map length (entries_of lines.links) (range_with_len 0 (length lines.links)))
    ∙ ap (sum_by length) (sym all)
  where
    size : ℕ → ℕ
    size list = length (entries_of lines.links list)

module _ {T : Type 0} where
  -- as many items as nodes
  pub filled-items : (cells : Cells T) → IsGrid cells → length (sheet_items cells) ≡ cells.filled
  filled-items cells are =
      length-flat_map (row_items cells.rows cells.columns) (range_with_len 0 cells.rows.count)
      ∙ sum_same (λ row. length (row_items cells.rows cells.columns row))
      (λ row. length (line_entries cells.rows row)) (range_with_len 0 cells.rows.count)
      (λ row. length-map (line_entries cells.rows row) _)
      ∙ entries_on_lines cells.rows are.rows_are ∙ are.filled

  -- the sheet
  abbrev pub table_from : Cells T → Table T
  table_from cells = (listed_table cells).table

  pub inside-items : (cells : Cells T) → IsGrid cells
      → HasEntriesInside cells.rows.count cells.columns.count (sheet_items cells)
  inside-items cells are place some = within (entry_at (sheet_items cells) place) refl some
    where
      within : (o : Option T) → entry_at (sheet_items cells) place ≡ o → IsSome o
          → (place.0 < cells.rows.count) × (place.1 < cells.columns.count)
      within None is none = absurd (false≢true none)
      within (Some item) is some = let held = cell_from cells are place.0 place.1 item is in held.2.there

module _ {T : Type 0} (law : TablesByItems T) where
  pub filled-table : (cells : Cells T) → IsGrid cells → cells.filled ≡ filled_places (table_from cells)
  filled-table cells are =
      sym (filled-items cells are)
      ∙ sym (law.filled cells.rows.count cells.columns.count (sheet_items cells) (distinct_items cells are))

  -- what the sheet has at a place
  pub item-table : (cells : Cells T) (row col : ℕ)
      → entry_at (sheet_items cells) (row, col) ≡ item_at (table_from cells) row col
  item-table cells row col = sym (law.entries cells.rows.count cells.columns.count (sheet_items cells) row col)

  pub inside-table : (cells : Cells T) → IsGrid cells → HasItemsInside (table_from cells)
  inside-table cells are row col some = inside-items cells are (row, col)
      (subst IsSome (sym (item-table cells row col)) some)

  module _ (before after : Cells T) (size : HasSameSize before after) where
    pub table_put : (row col : ℕ) (item : T) → ChangesAt (sheet_items before) (sheet_items after) (row, col) (Some item)
        → table_from after ≡ with_item (table_from before) row col item
    table_put row col item changes = law.same (table_from after) (with_item (table_from before) row col item)
        size.rows size.columns (λ r c.
        sym (item-table after r c) ∙ changes (r, c)
        ∙ ap (cond (eq_by_cmp by_rows (row, col) (r, c)) (Some item)) (item-table before r c)
        ∙ sym (law.put (table_from before) (row, col) item r c))

    pub table_taken : (row col : ℕ) → ChangesAt (sheet_items before) (sheet_items after) (row, col) None
        → table_from after ≡ without_item (table_from before) row col
    table_taken row col changes = law.same (table_from after) (without_item (table_from before) row col) size.rows
        size.columns (λ r c.
        sym (item-table after r c) ∙ changes (r, c)
        ∙ ap (cond (eq_by_cmp by_rows (row, col) (r, c)) None) (item-table before r c)
        ∙ sym (law.taken (table_from before) (row, col) r c))

    pub table_same : HasSameItems before after → table_from after ≡ table_from before
    table_same same = law.same (table_from after) (table_from before) size.rows size.columns (λ r c.
        sym (item-table after r c) ∙ same (r, c) ∙ item-table before r c)

  -- a sheet with nothing in it
  pub table_empty : (cells : Cells T) (rows cols : ℕ) → cells.rows.count ≡ rows → cells.columns.count ≡ cols
      → ((place : ℕ × ℕ) → entry_at (sheet_items cells) place ≡ None) → table_from cells ≡ empty_table rows cols
  table_empty cells rows cols a b none = law.same (table_from cells) (empty_table rows cols) a b (λ r c.
      sym (item-table cells r c) ∙ none (r, c) ∙ sym (law.empty rows cols r c))

  -- after a change
  pub table_moved : (axis : Axis) (change : Change) (before after : Cells T) → GoesAlong axis change before after
      → GoesWithLines axis change (table_from before) (table_from after)
  table_moved axis change before after goes = record {
    size = λ i. (goes.rows i, goes.columns i);
    items = λ row col item. (
      (λ is.
          let came = (goes.items (row, col) item).0 (item-table after row col ∙ is) in
          record {
            old_row = came.old.0;
            old_col = came.old.1;
            goes = came.goes;
            held = sym (item-table before came.old.0 came.old.1) ∙ came.held;
          }),
      (λ came.
          sym (item-table after row col)
          ∙ (goes.items (row, col) item).1 (record {
            old = (came.old_row, came.old_col);
            goes = came.goes;
            held = item-table before came.old_row came.old_col ∙ came.held;
          })),
    );
  }
