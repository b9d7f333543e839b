-- A cell whose item was replaced.
use Rattle.std.proofs.Common.{◌≡◌, ◌≢◌, ◌⊎◌, inl, inr, ℕ, List, [], ◌∷◌, length, map, refl, sym, ap, subst, ◌∙◌, arith}
use Rattle.std.specs.Prelude.{Some, Contains, nat_eq}
use Rattle.std.specs.Option.{unwrap_or}
use Rattle.std.specs.List.{IsDistinct}
use Rattle.std.proofs.lemmas.Bool.{cases_eq}
use Rattle.std.proofs.lemmas.List.{length-map}
use Rattle.cell_value.specs.Elements.{Contains-cons}
use Rattle.link_store.specs.declared.cells.Cell.{Cell}
use Rattle.link_store.specs.declared.cells.Cells.{Cells}
use Rattle.link_store.specs.Lists.{entries_of, live_nodes, with_item_at, HasNodesOnce}
use Rattle.link_store.specs.Lines.{list_of}
use Rattle.link_store.specs.Crossings.{IsGrid, IsCellAt, AreCrossed, ChangesAt, sheet_items}
use Rattle.link_store.proofs.Replaced.{put, put_here, put_other}
use Rattle.cell_value.specs.Elements.{nothing_in}
use Rattle.link_store.proofs.Uses.{one_place, entries_put, put_from, put_old, put_new}
use Rattle.link_store.proofs.Holding.{lines_kept, one_cell, one_cell_place, changes_at}

module _ {T : Type 0} where
  -- the columns of the cells stay
  columns_put : (node : ℕ) (cell : Cell T) (found : List (ℕ × Cell T))
      → ((one : Cell T) → Contains found (node, one) → one.column ≡ cell.column)
      → map (λ (e : ℕ × Cell T). e.1.column) (map (put node cell) found) ≡ map (λ (e : ℕ × Cell T). e.1.column) found
  columns_put node cell [] same = refl
  columns_put node cell (entry ∷ rest) same =
      let tail = columns_put node cell rest (λ one has. same one (Contains-cons entry (node, one) rest has)) in
      elim (cases_eq entry.0 node) [
        | inl here ↦
            let kept : (put node cell entry).1.column ≡ entry.1.column =
            ap (λ (e : ℕ × Cell T). e.1.column) (put_here node cell entry here)
            ∙ sym (same entry.1 (0, omega arith, ap (λ n. (n, entry.1)) here)) in
            ap (λ k. k ∷ map (λ (e : ℕ × Cell T). e.1.column) (map (put node cell) rest)) kept
            ∙ ap (λ ks. entry.1.column ∷ ks) tail
        | inr other ↦
            ap (λ (e : ℕ × Cell T). e.1.column ∷ map (λ (x : ℕ × Cell T). x.1.column) (map (put node cell) rest))
            (put_other node cell entry other) ∙ ap (λ ks. entry.1.column ∷ ks) tail
      ]

  module _ (before : Cells T) (links : List (List (ℕ × Cell T))) (list node : ℕ) (cell : Cell T) (item : T)
      (are : IsGrid before)
      (stood : Contains (entries_of before.rows.links list) (node, cell)) (once : HasNodesOnce before.rows.links)
      (made : links ≡ with_item_at before.rows.links node (record cell { item = item }))
      (live : live_nodes links ≡ before.filled) where
    -- the cells then
    abbrev pub rewritten : Cells T
    rewritten = record before { rows = record before.rows { links = links } }

    abbrev new : Cell T
    new = record cell { item = item }

    row_from : (other : ℕ) (entry : ℕ × Cell T) → Contains (entries_of links other) entry
        → ((entry.0 ≢ node) × Contains (entries_of before.rows.links other)
        entry) ⊎ ((entry ≡ (node, new)) × ((old : Cell T) × Contains (entries_of before.rows.links other)
        (node, old)))
    row_from other entry has = put_from before.rows.links node new other entry
        (subst (λ all. Contains (entries_of all other) entry) made has)

    row_old : (other : ℕ) (entry : ℕ × Cell T) → Contains (entries_of before.rows.links other) entry
        → entry.0 ≢ node → Contains (entries_of links other) entry
    row_old other entry has differs = subst (λ all. Contains (entries_of all other) entry) (sym made)
        (put_old before.rows.links node new other entry has differs)

    row_new : Contains (entries_of links list) (node, new)
    row_new = subst (λ all. Contains (entries_of all list) (node, new)) (sym made)
        (put_new before.rows.links node new list cell stood)

    its : (other : ℕ) (one : Cell T) → Contains (entries_of before.rows.links other) (node, one)
        → (other ≡ list) × (one ≡ cell)
    its other one has = one_place before.rows.links once other list node one cell has stood

    crossed_put : AreCrossed links before.columns.links
    crossed_put = record {
      in_column = λ other n one has. elim (row_from other (n, one) has) [
        | inl old ↦ are.crossed.in_column other n one old.1
        | inr here ↦
            let same = its other here.1.0 here.1.1 in
            let is : one ≡ new = ap (λ (e : ℕ × Cell T). e.1) here.0 in
            let at : n ≡ node = ap (λ (e : ℕ × Cell T). e.0) here.0 in
            subst (λ (c : Cell T). Contains (entries_of before.columns.links c.column)
            (c.column_node, record { row = other; row_node = n })) (sym is)
            (subst (λ k. Contains (entries_of before.columns.links cell.column)
            (cell.column_node, record { row = other; row_node = k })) (sym at)
            (subst (λ k. Contains (entries_of before.columns.links cell.column)
            (cell.column_node, record { row = k; row_node = node })) (sym same.0)
            (are.crossed.in_column list node cell stood)))
      ];
      in_row = λ other n link has.
          let held = are.crossed.in_row other n link has in
          elim (cases_eq link.row_node node) [
            | inl here ↦
                let same = its link.row (record { item = held.0; column = other; column_node = n })
                (subst (λ k. Contains (entries_of before.rows.links link.row)
                (k, record { item = held.0; column = other; column_node = n })) here held.1) in
                let is : new ≡ record { item = item; column = other; column_node = n } = ap
                (λ (c : Cell T). record c { item = item }) (sym same.1) in (
                  item,
                  subst (λ k. Contains (entries_of links link.row)
                      (k, record { item = item; column = other; column_node = n })) (sym here)
                      (subst (λ (c : Cell T). Contains (entries_of links link.row) (node, c)) is
                      (subst (λ k. Contains (entries_of links k) (node, new)) (sym same.0) row_new)),
                )
            | inr differs ↦ (
              held.0,
              row_old link.row
                  (link.row_node, record { item = held.0; column = other; column_node = n }) held.1 differs,
            )
          ];
      one_cell = λ other. subst (IsDistinct nat_eq)
          (sym (ap (λ all. map (λ (e : ℕ × Cell T). e.1.column) (entries_of all other)) made
          ∙ ap (map (λ (e : ℕ × Cell T). e.1.column)) (entries_put before.rows.links node new other)
          ∙ columns_put node new (entries_of before.rows.links other)
          (λ one has. ap (λ (c : Cell T). c.column) (its other one has).1)))
          (are.crossed.one_cell other);
    }

    pub grid_put : IsGrid rewritten
    grid_put = record {
      rows_are = lines_kept before.rows rewritten.rows are.rows_are refl refl
          (ap length made ∙ length-map before.rows.links (map (put node new)))
          (λ index entry past inside has. elim (row_from (list_of before.rows index) entry has) [
            | inl old ↦ nothing_in entry (subst (λ es. Contains es entry) (are.rows_are.spare index past inside) old.1)
            | inr here ↦ nothing_in (node, here.1.0)
                (subst (λ es. Contains es (node, here.1.0)) (are.rows_are.spare index past inside) here.1.1)
          ]);
      columns_are = are.columns_are;
      crossed = crossed_put;
      size = are.size;
      filled = live;
      linked = are.linked;
    }

    cell_was : (row column n : ℕ) (one : Cell T) → IsCellAt rewritten row column n one
        → ((n ≢ node) × IsCellAt before row column n one) ⊎ ((one ≡ new) × IsCellAt before row column node cell)
    cell_was row column n one at = elim (row_from (list_of before.rows row) (n, one) at.stands) [
      | inl old ↦ inl (old.0, record { there = at.there; stands = old.1; column_is = at.column_is })
      | inr here ↦
          let same = its (list_of before.rows row) here.1.0 here.1.1 in
          let is : one ≡ new = ap (λ (e : ℕ × Cell T). e.1) here.0 in
          inr (
            is,
            record {
              there = at.there;
              stands = subst (λ (c : Cell T). Contains (entries_of before.rows.links (list_of before.rows row))
                  (node, c)) same.1 here.1.1;
              column_is = ap (λ (c : Cell T). c.column) (sym is) ∙ at.column_is;
            },
          )
    ]

    pub changes_put : (row column : ℕ) → IsCellAt before row column node cell
        → ChangesAt (sheet_items before) (sheet_items rewritten) (row, column) (Some item)
    changes_put row column at =
        changes_at before rewritten (row, column) (Some item) are grid_put
        (λ x. (
          (λ held. elim (cell_was row column held.0 held.1 held.2) [
            | inl old ↦
                let same = one_cell (entries_of before.rows.links (list_of before.rows row)) (held.0, held.1)
                (node, cell) (are.crossed.one_cell (list_of before.rows row))
                old.1.stands at.stands (old.1.column_is ∙ sym at.column_is) in
                absurd (old.0 (ap (λ (e : ℕ × Cell T). e.0) same))
            | inr here ↦ ap Some (sym (ap (λ (c : Cell T). c.item) here.0) ∙ held.3)
          ]),
          (λ some. (
            node,
            new,
            record {
              there = at.there;
              stands = subst (λ all. Contains (entries_of all (list_of before.rows row)) (node, new)) (sym made)
                  (put_new before.rows.links node new (list_of before.rows row) cell at.stands);
              column_is = at.column_is;
            },
            ap (λ o. unwrap_or o item) some,
          )),
        ))
        (λ other x differs. (
          (λ held. elim (cell_was other.0 other.1 held.0 held.1 held.2) [
            | inl old ↦ (held.0, held.1, old.1, held.3)
            | inr here ↦ absurd (differs (one_cell_place before are other.0 other.1 row column node node cell cell
                here.1 at
                ((its (list_of before.rows other.0) cell here.1.stands).0
                ∙ sym (its (list_of before.rows row) cell at.stands).0) refl))
          ]),
          (λ held. (
            held.0,
            held.1,
            record {
              there = held.2.there;
              stands = row_old (list_of before.rows other.0) (held.0, held.1) held.2.stands (λ same.
                  let both = its (list_of before.rows other.0) held.1
                  (subst (λ k. Contains (entries_of before.rows.links (list_of before.rows other.0))
                  (k, held.1)) same held.2.stands) in
                  let mine = its (list_of before.rows row) cell at.stands in
                  differs (one_cell_place before are other.0 other.1 row column held.0 node held.1 cell
                  held.2 at (both.0 ∙ sym mine.0) (ap (λ (c : Cell T). c.column) both.1)));
              column_is = held.2.column_is;
            },
            held.3,
          )),
        ))
