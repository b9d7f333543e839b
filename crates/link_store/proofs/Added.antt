-- A cell that was added to the list of its row and to that of its column.
use Rattle.std.proofs.Common.{◌≡◌, ◌⊎◌, inl, inr, ℕ, zero, suc, ◌<◌, ◌+◌, List, [], ◌∷◌, ◌++◌, length, map, refl, sym}
use Rattle.std.proofs.Common.{ap, subst, ◌∙◌, arith}
use Rattle.std.specs.Prelude.{Some, Contains, nat_eq}
use Rattle.std.specs.Option.{unwrap_or}
use Rattle.std.specs.List.{IsDistinct}
use Rattle.std.proofs.lemmas.Bool.{cases_eq, ne_eqb}
use Rattle.std.proofs.lemmas.List.{length-map, length-set, map-append}
use Rattle.std.proofs.lemmas.Map.Keys.{IsDistinct-cons}
use Rattle.cell_value.specs.Elements.{Contains-cons, Contains-cons_cases, IsDistinct-append, Contains-map_from}
use Rattle.link_store.specs.declared.cells.Cell.{Cell}
use Rattle.link_store.specs.declared.cells.Cells.{Cells}
use Rattle.link_store.specs.declared.cells.Link.{Link}
use Rattle.link_store.specs.Lists.{entries_of, live_nodes, without, without_node, with_entry, with_item_at, IsLive}
use Rattle.link_store.specs.Lines.{list_of}
use Rattle.link_store.specs.Nodes.{Lacks}
use Rattle.link_store.specs.Crossings.{IsGrid, IsCellAt, AreCrossed, ChangesAt, sheet_items}
use Rattle.link_store.proofs.Members.{without_none, without_same, without_other, without_lacking}
use Rattle.link_store.proofs.Replaced.{put}
use Rattle.cell_value.specs.Elements.{nothing_in, IsDistinct-none}
use Rattle.link_store.proofs.LineLists.{same_line}
use Rattle.link_store.proofs.Uses.{entries_with, entries_beside, pushed_from, pushed_old, pushed_new, put_from}
use Rattle.link_store.proofs.Uses.{put_old, put_new}
use Rattle.link_store.proofs.Holding.{lines_kept, changes_at}

module _ {T : Type 0} where
  lacks_all : (node : ℕ) (found : List (ℕ × T)) → ((x : T) → Contains found (node, x) → ⊥) → Lacks node found
  lacks_all node [] none = tt
  lacks_all node (entry ∷ rest) none = (
    (λ same. none entry.1 (0, omega arith, ap (λ n. (n, entry.1)) same)),
    lacks_all node rest (λ x has. none x (Contains-cons entry (node, x) rest has)),
  )

  without_push : (node : ℕ) (item : T) (found : List (ℕ × T)) → Lacks node found
      → without node (found ++ (node, item) ∷ []) ≡ found
  without_push node item [] lacks = without_same node (node, item) [] refl
  without_push node item (entry ∷ rest) lacks =
      without_other node entry (rest ++ (node, item) ∷ []) lacks.0
      ∙ ap (λ es. entry ∷ es) (without_push node item rest lacks.1)

  -- what was added is taken out again
  pub push_undone : (lists : List (List (ℕ × T))) (list node : ℕ) (item : T) → list < length lists
      → (IsLive lists node → ⊥)
      → without_node (with_entry lists list node item) node ≡ lists
  push_undone [] list node item there fresh = absurd (omega (arith, there))
  push_undone (found ∷ lists) zero node item there fresh =
      ap (λ f. f ∷ without_node lists node) (without_push node item found
      (lacks_all node found (λ x has. fresh (x, (0, has)))))
      ∙ ap (λ fs. found ∷ fs) (without_none node lists
      (λ i. lacks_all node (entries_of lists i) (λ x has. fresh (x, (suc i, has)))))
  push_undone (found ∷ lists) (suc list) node item there fresh =
      ap (λ f. f ∷ without_node (with_entry lists list node item) node)
      (without_lacking node found (lacks_all node found (λ x has. fresh (x, (0, has)))))
      ∙ ap (λ fs. found ∷ fs) (push_undone lists list node item (omega (arith, there))
      (λ live. fresh (live.0, (suc live.1.0, live.1.1))))

module _ {T : Type 0} (before : Cells T) (row_links : List (List (ℕ × Cell T)))
    (column_links : List (List (ℕ × Link))) (row column : ℕ) (item : T)
    (node column_node first : ℕ) (are : IsGrid before)
    (there : (row < before.rows.count) × (column < before.columns.count))
    (empty : (n : ℕ) (cell : Cell T) → IsCellAt before row column n cell → ⊥)
    (fresh : IsLive before.rows.links node → ⊥) (column_fresh : IsLive before.columns.links column_node → ⊥)
    (rows_made : row_links ≡ with_entry before.rows.links (list_of before.rows row) node
    (record { item = item; column = list_of before.columns column; column_node = column_node }))
    (columns_made : column_links ≡ with_item_at
    (with_entry before.columns.links (list_of before.columns column) column_node
    (record { row = list_of before.rows row; row_node = first })) column_node
    (record { row = list_of before.rows row; row_node = node }))
    (rows_within : list_of before.rows row < length before.rows.links)
    (columns_within : list_of before.columns column < length before.columns.links)
    (live_rows : live_nodes row_links ≡ before.filled + 1)
    (live_columns : live_nodes column_links ≡ before.filled + 1) where
  -- the cells then
  abbrev pub added : Cells T
  added = record {
    rows = record before.rows { links = row_links };
    columns = record before.columns { links = column_links };
    filled = before.filled + 1;
  }

  abbrev new : Cell T
  new = record { item = item; column = list_of before.columns column; column_node = column_node }

  abbrev link : Link
  link = record { row = list_of before.rows row; row_node = node }

  row_from : (other : ℕ) (entry : ℕ × Cell T) → Contains (entries_of row_links other) entry
      → Contains (entries_of before.rows.links other)
      entry ⊎ ((other ≡ list_of before.rows row) × (entry ≡ (node, new)))
  row_from other entry has = pushed_from before.rows.links (list_of before.rows row) node new rows_within other
      entry (subst (λ all. Contains (entries_of all other) entry) rows_made has)

  row_old : (other : ℕ) (entry : ℕ × Cell T) → Contains (entries_of before.rows.links other) entry
      → Contains (entries_of row_links other) entry
  row_old other entry has = subst (λ all. Contains (entries_of all other) entry) (sym rows_made)
      (pushed_old before.rows.links (list_of before.rows row) node new rows_within other entry has)

  row_new : Contains (entries_of row_links (list_of before.rows row)) (node, new)
  row_new = subst (λ all. Contains (entries_of all (list_of before.rows row)) (node, new)) (sym rows_made)
      (pushed_new before.rows.links (list_of before.rows row) node new rows_within)

  abbrev pushed : List (List (ℕ × Link))
  pushed = with_entry before.columns.links (list_of before.columns column) column_node
      (record { row = list_of before.rows row; row_node = first })

  column_from : (other : ℕ) (entry : ℕ × Link) → Contains (entries_of column_links other) entry
      → Contains (entries_of before.columns.links other)
      entry ⊎ ((other ≡ list_of before.columns column) × (entry ≡ (column_node, link)))
  column_from other entry has = elim (put_from pushed column_node link other entry
      (subst (λ all. Contains (entries_of all other) entry) columns_made has)) [
        | inl old ↦ elim (pushed_from before.columns.links (list_of before.columns column) column_node
            (record { row = list_of before.rows row; row_node = first }) columns_within other entry old.1) [
              | inl was ↦ inl was
              | inr came ↦ absurd (old.0 (ap (λ (e : ℕ × Link). e.0) came.1))
            ]
        | inr here ↦ elim (pushed_from before.columns.links (list_of before.columns column) column_node
            (record { row = list_of before.rows row; row_node = first }) columns_within other (column_node, here.1.0)
            here.1.1) [
              | inl was ↦ absurd (column_fresh (here.1.0, (other, was)))
              | inr came ↦ inr (came.0, here.0)
            ]
      ]

  column_old : (other : ℕ) (entry : ℕ × Link) → Contains (entries_of before.columns.links other) entry
      → Contains (entries_of column_links other) entry
  column_old other entry has = subst (λ all. Contains (entries_of all other) entry) (sym columns_made)
      (put_old pushed column_node link other entry
      (pushed_old before.columns.links (list_of before.columns column) column_node
      (record { row = list_of before.rows row; row_node = first }) columns_within other entry has)
      (λ same. column_fresh (
        entry.1,
        (
          other,
          subst
              (λ k. Contains (entries_of before.columns.links other) (k, entry.1)) same has,
        ),
      )))

  column_new : Contains (entries_of column_links (list_of before.columns column)) (column_node, link)
  column_new = subst (λ all. Contains (entries_of all (list_of before.columns column)) (column_node, link))
      (sym columns_made)
      (put_new pushed column_node link (list_of before.columns column)
      (record { row = list_of before.rows row; row_node = first })
      (pushed_new before.columns.links (list_of before.columns column) column_node
      (record { row = list_of before.rows row; row_node = first }) columns_within))

  crossed_added : AreCrossed row_links column_links
  crossed_added = record {
    in_column = λ other n one has. elim (row_from other (n, one) has) [
      | inl old ↦ column_old one.column (one.column_node, record { row = other; row_node = n })
          (are.crossed.in_column other n one old)
      | inr came ↦
          let is : one ≡ new = ap (λ (e : ℕ × Cell T). e.1) came.1 in
          let at : n ≡ node = ap (λ (e : ℕ × Cell T). e.0) came.1 in
          subst (λ (c : Cell T). Contains (entries_of column_links c.column)
          (c.column_node, record { row = other; row_node = n })) (sym is)
          (subst (λ k. Contains (entries_of column_links (list_of before.columns column))
          (column_node, record { row = other; row_node = k })) (sym at)
          (subst (λ k. Contains (entries_of column_links (list_of before.columns column))
          (column_node, record { row = k; row_node = node })) (sym came.0) column_new))
    ];
    in_row = λ other n one has. elim (column_from other (n, one) has) [
      | inl old ↦
          let held = are.crossed.in_row other n one old in
          (held.0, row_old one.row (one.row_node, record { item = held.0; column = other; column_node = n }) held.1)
      | inr came ↦
          let is : one ≡ link = ap (λ (e : ℕ × Link). e.1) came.1 in
          let at : n ≡ column_node = ap (λ (e : ℕ × Link). e.0) came.1 in (
            item,
            subst (λ (l : Link). Contains (entries_of row_links l.row)
                (l.row_node, record { item = item; column = other; column_node = n })) (sym is)
                (subst (λ k. Contains (entries_of row_links (list_of before.rows row))
                (node, record { item = item; column = other; column_node = k })) (sym at)
                (subst (λ k. Contains (entries_of row_links (list_of before.rows row))
                (node, record { item = item; column = k; column_node = column_node })) (sym came.0) row_new)),
          )
    ];
    one_cell = λ other. subst (λ all. IsDistinct nat_eq
        (map (λ (e : ℕ × Cell T). e.1.column) (entries_of all other))) (sym rows_made)
        (elim (cases_eq other (list_of before.rows row)) [
          | inl same ↦
              subst (λ es. IsDistinct nat_eq (map (λ (e : ℕ × Cell T). e.1.column) es))
              (sym (ap (entries_of (with_entry before.rows.links (list_of before.rows row) node new)) same
              ∙ entries_with before.rows.links (list_of before.rows row) node new rows_within))
              (subst (IsDistinct nat_eq) (sym (map-append (λ (e : ℕ × Cell T). e.1.column)
              (entries_of before.rows.links (list_of before.rows row)) ((node, new) ∷ [])))
              (IsDistinct-append nat_eq (map (λ (e : ℕ × Cell T). e.1.column)
              (entries_of before.rows.links (list_of before.rows row))) (list_of before.columns column ∷ [])
              (are.crossed.one_cell (list_of before.rows row))
              (IsDistinct-cons nat_eq (list_of before.columns column) [] tt (IsDistinct-none nat_eq))
              (λ x y one two.
              let cell = Contains-map_from (λ (e : ℕ × Cell T). e.1.column)
              (entries_of before.rows.links (list_of before.rows row)) x one in
              ne_eqb x y (λ equal. elim (Contains-cons_cases (list_of before.columns column) y [] two) [
                | inl here ↦ empty cell.0.0 cell.0.1 (record {
                  there = there;
                  stands = cell.1;
                  column_is = cell.2
                      ∙ equal ∙ sym here;
                })
                | inr none ↦ nothing_in y none
              ]))))
          | inr differs ↦
              subst (λ es. IsDistinct nat_eq (map (λ (e : ℕ × Cell T). e.1.column) es))
              (sym (entries_beside before.rows.links (list_of before.rows row) node new rows_within other differs))
              (are.crossed.one_cell other)
        ]);
  }

  pub grid_added : IsGrid added
  grid_added = record {
    rows_are = lines_kept before.rows added.rows are.rows_are refl refl
        (ap length rows_made ∙ length-set before.rows.links (list_of before.rows row)
        (entries_of before.rows.links (list_of before.rows row) ++ (node, new) ∷ []))
        (λ index entry past inside has. elim (row_from (list_of before.rows index) entry has) [
          | inl old ↦ nothing_in entry (subst (λ es. Contains es entry) (are.rows_are.spare index past inside) old)
          | inr came ↦
              let same = same_line before.rows are.rows_are index row inside
              (omega (arith, there.0, are.rows_are.count)) came.0 in
              omega (arith, there.0)
        ]);
    columns_are = lines_kept before.columns added.columns are.columns_are refl refl
        (ap length columns_made ∙ length-map pushed (map (put column_node link))
        ∙ length-set before.columns.links (list_of before.columns column)
        (entries_of before.columns.links (list_of before.columns
        column) ++ (column_node, record { row = list_of before.rows row; row_node = first }) ∷ []))
        (λ index entry past inside has. elim (column_from (list_of before.columns index) entry has) [
          | inl old ↦ nothing_in entry (subst (λ es. Contains es entry) (are.columns_are.spare index past inside) old)
          | inr came ↦
              let same = same_line before.columns are.columns_are index column inside
              (omega (arith, there.1, are.columns_are.count)) came.0 in
              omega (arith, there.1)
        ]);
    crossed = crossed_added;
    size = are.size;
    filled = live_rows;
    linked = live_columns;
  }

  pub changes_added : ChangesAt (sheet_items before) (sheet_items added) (row, column) (Some item)
  changes_added =
      changes_at before added (row, column) (Some item) are grid_added
      (λ x. (
        (λ held. elim (row_from (list_of before.rows row) (held.0, held.1) held.2.stands) [
          | inl old ↦ absurd (empty held.0 held.1 (record {
            there = there;
            stands = old;
            column_is = held.2.column_is;
          }))
          | inr came ↦ ap Some (sym (ap (λ (e : ℕ × Cell T). e.1.item) came.1) ∙ held.3)
        ]),
        (λ some. (
          node,
          new,
          record { there = there; stands = row_new; column_is = refl },
          ap
              (λ o. unwrap_or o item) some,
        )),
      ))
      (λ other x differs. (
        (λ held. elim (row_from (list_of before.rows other.0) (held.0, held.1) held.2.stands) [
          | inl old ↦ (
            held.0,
            held.1,
            record { there = held.2.there; stands = old; column_is = held.2.column_is },
            held.3,
          )
          | inr came ↦
              let same_row = same_line before.rows are.rows_are other.0 row
              (omega (arith, held.2.there.0, are.rows_are.count)) (omega (arith, there.0, are.rows_are.count))
              came.0 in
              let same_column = same_line before.columns are.columns_are other.1 column
              (omega (arith, held.2.there.1, are.columns_are.count)) (omega (arith, there.1, are.columns_are.count))
              (sym held.2.column_is ∙ ap (λ (e : ℕ × Cell T). e.1.column) came.1) in
              absurd (differs (λ i. (same_row i, same_column i)))
        ]),
        (λ held. (
          held.0,
          held.1,
          record {
            there = held.2.there;
            stands = row_old (list_of before.rows other.0)
                (held.0, held.1) held.2.stands;
            column_is = held.2.column_is;
          },
          held.3,
        )),
      ))
