-- A cell that was taken out of the list of its row and out of that of its column.
use Rattle.std.proofs.Common.{◌≡◌, ◌≢◌, inl, inr, ℕ, List, [], ◌∷◌, false, length, map, get_or, sym, ap, subst, ◌∙◌}
use Rattle.std.proofs.Common.{arith}
use Rattle.std.specs.Prelude.{None, Contains, nat_eq}
use Rattle.std.specs.List.{IsDistinct}
use Rattle.std.specs.Option.{is_some}
use Rattle.std.proofs.lemmas.Bool.{cases_eq, false≢true}
use Rattle.std.proofs.lemmas.List.{length-map}
use Rattle.std.proofs.lemmas.Map.Keys.{IsDistinct-head, IsDistinct-tail, IsDistinct-cons}
use Rattle.cell_store.specs.Entries.{entry_at}
use Rattle.link_store.specs.declared.cells.Cell.{Cell}
use Rattle.link_store.specs.declared.cells.Cells.{Cells}
use Rattle.link_store.specs.declared.cells.Link.{Link}
use Rattle.link_store.specs.Lists.{entries_of, live_nodes, without, without_node, HasNodesOnce}
use Rattle.link_store.specs.Lines.{list_of}
use Rattle.link_store.specs.Crossings.{IsGrid, IsCellAt, AreCrossed, ChangesAt, sheet_items}
use Rattle.link_store.proofs.Members.{without_same, without_other}
use Rattle.cell_value.specs.Elements.{nothing_in, each_from, from_each, Contains-map, Contains-map_from}
use Rattle.link_store.proofs.Uses.{one_place, entries_without, stayed_from, stayed_in, left_from}
use Rattle.link_store.proofs.Holding.{lines_kept, one_cell, one_cell_place, changes_at, same_option, holds_iff}

module _ {T : Type 0} where
  distinct_left : (node : ℕ) (found : List (ℕ × Cell T))
      → IsDistinct nat_eq (map (λ (e : ℕ × Cell T). e.1.column) found)
      → IsDistinct nat_eq (map (λ (e : ℕ × Cell T). e.1.column) (without node found))
  distinct_left node [] apart = apart
  distinct_left node (entry ∷ rest) apart =
      let tail = distinct_left node rest (IsDistinct-tail nat_eq entry.1.column
      (map (λ (e : ℕ × Cell T). e.1.column) rest) apart) in
      elim (cases_eq entry.0 node) [
        | inl same ↦ subst (λ es. IsDistinct nat_eq (map (λ (e : ℕ × Cell T). e.1.column) es))
            (sym (without_same node entry rest same)) tail
        | inr differs ↦ subst (λ es. IsDistinct nat_eq (map (λ (e : ℕ × Cell T). e.1.column) es))
            (sym (without_other node entry rest differs))
            (IsDistinct-cons nat_eq entry.1.column (map (λ (e : ℕ × Cell T). e.1.column) (without node rest))
            (each_from (λ k. nat_eq entry.1.column k ≡ false)
            (map (λ (e : ℕ × Cell T). e.1.column) (without node rest)) (λ k has.
            let found = Contains-map_from (λ (e : ℕ × Cell T). e.1.column) (without node rest) k has in
            subst (λ n. nat_eq entry.1.column n ≡ false) found.2
            (from_each (λ n. nat_eq entry.1.column n ≡ false) (map (λ (e : ℕ × Cell T). e.1.column) rest)
            (IsDistinct-head nat_eq entry.1.column (map (λ (e : ℕ × Cell T). e.1.column) rest) apart) found.0.1.column
            (Contains-map (λ (e : ℕ × Cell T). e.1.column) rest found.0 (left_from rest node found.0 found.1).0))))
            tail)
      ]

  -- the cell of a node of a row's list, out of both lists
  pub record IsRemoved (before after : Cells T) (list node : ℕ) (cell : Cell T) : Type 0 where
    pub stood : Contains (entries_of before.rows.links list) (node, cell)
    pub rows_once : HasNodesOnce before.rows.links
    pub columns_once : HasNodesOnce before.columns.links
    pub rows : after.rows.links ≡ without_node before.rows.links node
    pub columns : after.columns.links ≡ without_node before.columns.links cell.column_node
    pub kept_rows : after.rows.lists.items ≡ before.rows.lists.items
    pub row_count : after.rows.count ≡ before.rows.count
    pub kept_columns : after.columns.lists.items ≡ before.columns.lists.items
    pub column_count : after.columns.count ≡ before.columns.count
    pub live_rows : live_nodes after.rows.links ≡ after.filled
    pub live_columns : live_nodes after.columns.links ≡ after.filled

  module _ (before after : Cells T) (list node : ℕ) (cell : Cell T) (are : IsGrid before)
      (is : IsRemoved before after list node cell) where
    row_from : (other : ℕ) (entry : ℕ × Cell T) → Contains (entries_of after.rows.links other) entry
        → Contains (entries_of before.rows.links other) entry × (entry.0 ≢ node)
    row_from other entry has = stayed_from before.rows.links node other entry
        (subst (λ all. Contains (entries_of all other) entry) is.rows has)

    row_in : (other : ℕ) (entry : ℕ × Cell T) → Contains (entries_of before.rows.links other) entry
        → entry.0 ≢ node → Contains (entries_of after.rows.links other) entry
    row_in other entry has differs = subst (λ all. Contains (entries_of all other) entry) (sym is.rows)
        (stayed_in before.rows.links node other entry has differs)

    column_from : (other : ℕ) (entry : ℕ × Link) → Contains (entries_of after.columns.links other) entry
        → Contains (entries_of before.columns.links other) entry × (entry.0 ≢ cell.column_node)
    column_from other entry has = stayed_from before.columns.links cell.column_node other entry
        (subst (λ all. Contains (entries_of all other) entry) is.columns has)

    crossed_left : AreCrossed after.rows.links after.columns.links
    crossed_left = record {
      in_column = λ other n one has.
          let was = row_from other (n, one) has in
          let held = are.crossed.in_column other n one was.0 in
          subst (λ all. Contains (entries_of all one.column)
          (one.column_node, record { row = other; row_node = n })) (sym is.columns)
          (stayed_in before.columns.links cell.column_node one.column
          (one.column_node, record { row = other; row_node = n }) held (λ same.
          let both = one_place before.columns.links is.columns_once one.column cell.column cell.column_node
          (record { row = other; row_node = n }) (record { row = list; row_node = node })
          (subst (λ k. Contains (entries_of before.columns.links one.column)
          (k, record { row = other; row_node = n })) same held)
          (are.crossed.in_column list node cell is.stood) in
          was.1 (ap (λ (l : Link). l.row_node) both.1)));
      in_row = λ other n link has.
          let was = column_from other (n, link) has in
          let held = are.crossed.in_row other n link was.0 in (
            held.0,
            row_in link.row (link.row_node, record { item = held.0; column = other; column_node = n }) held.1 (λ same.
                let both = one_place before.rows.links is.rows_once link.row list node
                (record { item = held.0; column = other; column_node = n }) cell
                (subst (λ k. Contains (entries_of before.rows.links link.row)
                (k, record { item = held.0; column = other; column_node = n })) same held.1) is.stood in
                was.1 (ap (λ (c : Cell T). c.column_node) both.1)),
          );
      one_cell = λ other. subst (λ es. IsDistinct nat_eq (map (λ (e : ℕ × Cell T). e.1.column) es))
          (sym (ap (λ all. entries_of all other) is.rows ∙ entries_without before.rows.links node other))
          (distinct_left node (entries_of before.rows.links other) (are.crossed.one_cell other));
    }

    pub grid_left : IsGrid after
    grid_left = record {
      rows_are = lines_kept before.rows after.rows are.rows_are is.kept_rows is.row_count
          (ap length is.rows ∙ length-map before.rows.links (without node))
          (λ index entry past inside has.
          nothing_in entry (subst (λ es. Contains es entry) (are.rows_are.spare index past inside)
          (row_from (list_of before.rows index) entry has).0));
      columns_are = lines_kept before.columns after.columns are.columns_are is.kept_columns is.column_count
          (ap length is.columns ∙ length-map before.columns.links (without cell.column_node))
          (λ index entry past inside has.
          nothing_in entry (subst (λ es. Contains es entry) (are.columns_are.spare index past inside)
          (column_from (list_of before.columns index) entry has).0));
      crossed = crossed_left;
      size = omega (arith, are.size, is.row_count, is.column_count);
      filled = is.live_rows;
      linked = is.live_columns;
    }

    -- the other cells are where they were
    cell_was : (row column n : ℕ) (one : Cell T) → IsCellAt after row column n one
        → IsCellAt before row column n one × (n ≢ node)
    cell_was row column n one at =
        let was = row_from (list_of before.rows row) (n, one)
        (subst (λ xs. Contains (entries_of after.rows.links (get_or xs row 0)) (n, one)) is.kept_rows
        at.stands) in (
          record {
            there = (omega (arith, at.there.0, is.row_count), omega (arith, at.there.1, is.column_count));
            stands = was.0;
            column_is = at.column_is ∙ ap (λ xs. get_or xs column 0) is.kept_columns;
          },
          was.1,
        )

    cell_stays : (row column n : ℕ) (one : Cell T) → IsCellAt before row column n one → n ≢ node
        → IsCellAt after row column n one
    cell_stays row column n one at differs = record {
      there = (omega (arith, at.there.0, is.row_count), omega (arith, at.there.1, is.column_count));
      stands = subst (λ xs. Contains (entries_of after.rows.links (get_or xs row 0)) (n, one)) (sym is.kept_rows)
          (row_in (list_of before.rows row) (n, one) at.stands differs);
      column_is = at.column_is ∙ ap (λ xs. get_or xs column 0) (sym is.kept_columns);
    }

    pub changes_left : (row column : ℕ) → IsCellAt before row column node cell
        → ChangesAt (sheet_items before) (sheet_items after) (row, column) None
    changes_left row column at =
        changes_at before after (row, column) None are grid_left
        (λ item. (
          (λ held.
              let was = cell_was row column held.0 held.1 held.2 in
              let same = one_cell (entries_of before.rows.links (list_of before.rows row)) (held.0, held.1)
              (node, cell) (are.crossed.one_cell (list_of before.rows row))
              was.0.stands at.stands (was.0.column_is ∙ sym at.column_is) in
              absurd (was.1 (ap (λ (e : ℕ × Cell T). e.0) same))),
          (λ some. absurd (false≢true (ap is_some some))),
        ))
        (λ other item differs. (
          (λ held. (held.0, held.1, (cell_was other.0 other.1 held.0 held.1 held.2).0, held.3)),
          (λ held. (
            held.0,
            held.1,
            cell_stays other.0 other.1 held.0 held.1 held.2 (λ same.
                let both = one_place before.rows.links is.rows_once (list_of before.rows other.0)
                (list_of before.rows row) node held.1 cell
                (subst (λ k. Contains (entries_of before.rows.links (list_of before.rows other.0)) (k, held.1))
                same held.2.stands) at.stands in
                differs (one_cell_place before are other.0 other.1 row column held.0 node held.1 cell
                held.2 at both.0 (ap (λ (c : Cell T). c.column) both.1))),
            held.3,
          )),
        ))

    -- the items of other places stay
    pub items_left : (place : ℕ × ℕ) → ((n : ℕ) (one : Cell T) → IsCellAt before place.0 place.1 n one → n ≢ node)
        → entry_at (sheet_items after) place ≡ entry_at (sheet_items before) place
    items_left place differs = same_option (entry_at (sheet_items after) place)
        (entry_at (sheet_items before) place) (λ item. (
          (λ some.
              let held = (holds_iff after grid_left place item).0 some in
              (holds_iff before are place item).1 (
                held.0,
                held.1,
                (cell_was place.0 place.1 held.0 held.1 held.2).0,
                held.3,
              )),
          (λ some.
              let held = (holds_iff before are place item).0 some in
              (holds_iff after grid_left place item).1
              (held.0, held.1, cell_stays place.0 place.1 held.0 held.1 held.2 (differs held.0 held.1 held.2), held.3)),
        ))

    -- so do those of other rows, and of other columns
    pub other_rows_left : (place : ℕ × ℕ) → (list_of before.rows place.0 ≡ list → ⊥)
        → entry_at (sheet_items after) place ≡ entry_at (sheet_items before) place
    other_rows_left place other = items_left place (λ n one at same.
        other (one_place before.rows.links is.rows_once (list_of before.rows place.0) list node one cell
        (subst (λ k. Contains (entries_of before.rows.links (list_of before.rows place.0)) (k, one)) same
        at.stands) is.stood).0)

    pub other_columns_left : (place : ℕ × ℕ) → (list_of before.columns place.1 ≡ cell.column → ⊥)
        → entry_at (sheet_items after) place ≡ entry_at (sheet_items before) place
    other_columns_left place other = items_left place (λ n one at same.
        let both = one_place before.rows.links is.rows_once (list_of before.rows place.0) list node one cell
        (subst (λ k. Contains (entries_of before.rows.links (list_of before.rows place.0)) (k, one)) same
        at.stands) is.stood in
        other (sym at.column_is ∙ ap (λ (c : Cell T). c.column) both.1))
