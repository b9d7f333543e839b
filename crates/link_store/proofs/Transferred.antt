-- A sheet whose lines changed places, with the lists of its lines.
use Rattle.std.proofs.Common.{◌≡◌, inl, inr, ℕ, ◌+◌, ◌<◌, ◌≤◌, List, length, map, refl, sym, ap, subst, ◌∙◌, arith}
use Rattle.std.specs.Prelude.{Option, Some, None, Result, Ok, Err, OnOk, OnErr, IfOk, Contains, nat_eq, max}
use Rattle.std.specs.Option.{option_map, unwrap_or, is_some, IsSome}
use Rattle.std.specs.List.{IsDistinct}
use Rattle.std.proofs.lemmas.Bool.{false≢true}
use Rattle.grid_range.specs.declared.axis.Axis.{Axis}
use Rattle.grid_range.specs.declared.axis.Axis.TheVariants.{Rows, Columns}
use Rattle.grid_range.specs.declared.change.Change.{Change}
use Rattle.grid_range.specs.declared.change.Change.TheVariants.{Insert, Delete, Move}
use Rattle.grid_range.specs.Change.{Fits}
use Rattle.grid_range.specs.Tracking.{place_of}
use Rattle.cell_store.specs.Moved.{place_after, size_after}
use Rattle.grid_range.specs.TrackingLaws.{PlacesStayBelow}
use Rattle.cell_store.specs.Table.{most_lines}
use Rattle.link_store.specs.declared.cells.Cell.{Cell}
use Rattle.link_store.specs.declared.cells.Cells.{Cells}
use Rattle.link_store.specs.declared.cells.Link.{Link}
use Rattle.link_store.specs.declared.lines.Lines.{Lines}
use Rattle.link_store.specs.Lists.{entries_of}
use Rattle.link_store.specs.Lines.{AreLines, AreMoved, AreSameLines, HasSameEntries, IsInsertion, list_of}
use Rattle.link_store.specs.Crossings.{IsGrid, IsCellAt, AreCrossed, GoesAlong, HasSameItems, KeepsItems}
use Rattle.link_store.specs.Crossings.{TakesListsAgain}
use Rattle.cell_value.specs.Elements.{nothing_in}
use Rattle.cell_store.specs.TurningLaws.{goes_below}
use Rattle.link_store.proofs.Sheets.{item_from, cell_from}
use Rattle.link_store.proofs.Holding.{same_items}

-- where a place's line goes
row_goes : (change : Change) (old place : ℕ × ℕ) → place_after Rows change old.0 old.1 ≡ Some place
    → (place_of change old.0 ≡ Some place.0) × (old.1 ≡ place.1)
row_goes change old place goes = through (place_of change old.0) goes
  where
    through : (o : Option ℕ) → option_map {U = ℕ × ℕ} (λ line. (line, old.1)) o ≡ Some place
        → (o ≡ Some place.0) × (old.1 ≡ place.1)
    through None is = absurd (false≢true (ap is_some is))
    through (Some line) is =
        let same : ◌≡◌ {A = ℕ × ℕ} (line, old.1) place = ap (λ o. unwrap_or o (line, old.1)) is in
        (ap (λ (p : ℕ × ℕ). Some p.0) same, ap (λ (p : ℕ × ℕ). p.1) same)

column_goes : (change : Change) (old place : ℕ × ℕ) → place_after Columns change old.0 old.1 ≡ Some place
    → (place_of change old.1 ≡ Some place.1) × (old.0 ≡ place.0)
column_goes change old place goes = through (place_of change old.1) goes
  where
    through : (o : Option ℕ) → option_map {U = ℕ × ℕ} (λ line. (old.0, line)) o ≡ Some place
        → (o ≡ Some place.1) × (old.0 ≡ place.0)
    through None is = absurd (false≢true (ap is_some is))
    through (Some line) is =
        let same : ◌≡◌ {A = ℕ × ℕ} (old.0, line) place = ap (λ o. unwrap_or o (old.0, line)) is in
        (ap (λ (p : ℕ × ℕ). Some p.1) same, ap (λ (p : ℕ × ℕ). p.0) same)

module _ {T : Type 0} where
  -- the same entries cross
  crossed_same : (rows new_rows : List (List (ℕ × Cell T))) (columns new_columns : List (List (ℕ × Link)))
      → ((list : ℕ) → entries_of new_rows list ≡ entries_of rows list)
      → ((list : ℕ) → entries_of new_columns list ≡ entries_of columns list)
      → AreCrossed rows columns → AreCrossed new_rows new_columns
  crossed_same rows new_rows columns new_columns a b are = record {
    in_column = λ list node cell has.
        subst (λ es. Contains es (cell.column_node, record { row = list; row_node = node })) (sym (b cell.column))
        (are.in_column list node cell (subst (λ es. Contains es (node, cell)) (a list) has));
    in_row = λ list node link has.
        let held = are.in_row list node link (subst (λ es. Contains es (node, link)) (b list) has) in (
          held.0,
          subst (λ es. Contains es (
            link.row_node,
            record {
              item = held.0;
              column = list;
              column_node = node;
            },
          )) (sym (a link.row)) held.1,
        );
    one_cell = λ list. subst (λ es. IsDistinct nat_eq (map (λ (e : ℕ × Cell T). e.1.column) es)) (sym (a list))
        (are.one_cell list);
  }

  module _ (before : Cells T) (rows : Lines (Cell T)) (are : IsGrid before) (lines : AreLines rows)
      (same : HasSameEntries before.rows rows) where
    abbrev pub with_rows : Cells T
    with_rows = record before { rows = rows }

    pub rows_grid : rows.count + before.columns.count ≤ most_lines → IsGrid with_rows
    rows_grid size = record {
      rows_are = lines;
      columns_are = are.columns_are;
      crossed = crossed_same before.rows.links rows.links before.columns.links before.columns.links same.entries
          (λ list. refl) are.crossed;
      size = size;
      filled = same.live ∙ are.filled;
      linked = are.linked;
    }

    -- a cell in a line with the same list
    row_cell : (cells other : Lines (Cell T)) (row place column node : ℕ) (cell : Cell T)
        → IsCellAt (record before { rows = cells }) row column node cell
        → ((list : ℕ) → entries_of other.links list ≡ entries_of cells.links list)
        → list_of other place ≡ list_of cells row → place < other.count
        → IsCellAt (record before { rows = other }) place column node cell
    row_cell cells other row place column node cell at entries list there = record {
      there = (there, at.there.1);
      stands = subst (λ es. Contains es (node, cell))
          (sym (ap (entries_of other.links) list ∙ entries (list_of cells row))) at.stands;
      column_is = at.column_is;
    }

    pub rows_same : AreSameLines before.rows rows → (rows.count + before.columns.count ≤ most_lines)
        → HasSameItems before with_rows
    rows_same kept size = same_items before with_rows are (rows_grid size) (λ place item. (
      (λ held. (
        held.0,
        held.1,
        row_cell rows before.rows place.0 place.0 place.1 held.0 held.1 held.2 (λ list. sym (same.entries list))
            (sym (kept.lists place.0 (omega (arith, held.2.there.0, kept.count))))
            (omega (arith, held.2.there.0, kept.count)),
        held.3,
      )),
      (λ held. (
        held.0,
        held.1,
        row_cell before.rows rows place.0 place.0 place.1 held.0 held.1 held.2 same.entries
            (kept.lists place.0 held.2.there.0) (omega (arith, held.2.there.0, kept.count)),
        held.3,
      )),
    ))

    pub rows_moved : PlacesStayBelow → (change : Change) → Fits change before.rows.count
        → AreMoved change before.rows rows → rows.count + before.columns.count ≤ most_lines
        → GoesAlong Rows change before with_rows
    rows_moved below change fits moved size = record {
      rows = moved.count;
      columns = refl;
      items = λ place item. (
        (λ is.
            let held = cell_from with_rows (rows_grid size) place.0 place.1 item is in
            elim (moved.coming place.0 held.2.there.0) [
              | inl was ↦
                  let at = row_cell rows before.rows place.0 was.line place.1 held.0 held.1 held.2
                  (λ list. sym (same.entries list)) (sym was.list_is) was.there in
                  record {
                    old = (was.line, place.1);
                    goes = ap (option_map (λ line. (line, place.1))) was.goes;
                    held = item_from before are was.line place.1 held.0 held.1 at ∙ ap Some held.3;
                  }
              | inr none ↦ absurd (nothing_in (held.0, held.1)
                  (subst (λ es. Contains es (held.0, held.1)) none held.2.stands))
            ]),
        (λ came.
            let held = cell_from before are came.old.0 came.old.1 item came.held in
            let went = row_goes change came.old place came.goes in
            let inside = goes_below below change before.rows.count came.old.0 place.0 fits held.2.there.0 went.0 in
            let at = row_cell before.rows rows came.old.0 place.0 came.old.1 held.0 held.1 held.2 same.entries
            (moved.going came.old.0 place.0 held.2.there.0 went.0) (omega (arith, inside, moved.count)) in
            item_from with_rows (rows_grid size) place.0 place.1 held.0 held.1
            (subst (λ k. IsCellAt with_rows place.0 k held.0 held.1) went.1 at) ∙ ap Some held.3),
      );
    }

  module _ (before : Cells T) (columns : Lines Link) (are : IsGrid before) (lines : AreLines columns)
      (same : HasSameEntries before.columns columns) where
    abbrev pub with_columns : Cells T
    with_columns = record before { columns = columns }

    pub columns_grid : before.rows.count + columns.count ≤ most_lines → IsGrid with_columns
    columns_grid size = record {
      rows_are = are.rows_are;
      columns_are = lines;
      crossed = crossed_same before.rows.links before.rows.links before.columns.links columns.links (λ list. refl)
          same.entries are.crossed;
      size = size;
      filled = are.filled;
      linked = same.live ∙ are.linked;
    }

    column_cell : (links other : Lines Link) (row column place node : ℕ) (cell : Cell T)
        → IsCellAt (record before { columns = links }) row column node cell
        → list_of other place ≡ list_of links column → place < other.count
        → IsCellAt (record before { columns = other }) row place node cell
    column_cell links other row column place node cell at list there = record {
      there = (at.there.0, there);
      stands = at.stands;
      column_is = at.column_is ∙ sym list;
    }

    pub columns_same : AreSameLines before.columns columns → (before.rows.count + columns.count ≤ most_lines)
        → HasSameItems before with_columns
    columns_same kept size = same_items before with_columns are (columns_grid size) (λ place item. (
      (λ held. (
        held.0,
        held.1,
        column_cell columns before.columns place.0 place.1 place.1 held.0 held.1 held.2
            (sym (kept.lists place.1 (omega (arith, held.2.there.1, kept.count))))
            (omega (arith, held.2.there.1, kept.count)),
        held.3,
      )),
      (λ held. (
        held.0,
        held.1,
        column_cell before.columns columns place.0 place.1 place.1 held.0 held.1 held.2
            (kept.lists place.1 held.2.there.1) (omega (arith, held.2.there.1, kept.count)),
        held.3,
      )),
    ))

    -- a cell's column is no empty one
    pub columns_moved : PlacesStayBelow → (change : Change) → Fits change before.columns.count
        → AreMoved change before.columns columns → before.rows.count + columns.count ≤ most_lines
        → GoesAlong Columns change before with_columns
    columns_moved below change fits moved size = record {
      rows = refl;
      columns = moved.count;
      items = λ place item. (
        (λ is.
            let held = cell_from with_columns (columns_grid size) place.0 place.1 item is in
            elim (moved.coming place.1 held.2.there.1) [
              | inl was ↦
                  let at = column_cell columns before.columns place.0 place.1 was.line held.0 held.1 held.2
                  (sym was.list_is) was.there in
                  record {
                    old = (place.0, was.line);
                    goes = ap (option_map (λ line. (place.0, line))) was.goes;
                    held = item_from before are place.0 was.line held.0 held.1 at ∙ ap Some held.3;
                  }
              | inr none ↦
                  let link : Link = record { row = list_of before.rows place.0; row_node = held.0 } in
                  let has = (columns_grid size).crossed.in_column (list_of before.rows place.0) held.0 held.1
                  held.2.stands in
                  absurd (nothing_in (held.1.column_node, link)
                  (subst (λ es. Contains es (held.1.column_node, link))
                  (ap (entries_of columns.links) held.2.column_is ∙ none) has))
            ]),
        (λ came.
            let held = cell_from before are came.old.0 came.old.1 item came.held in
            let went = column_goes change came.old place came.goes in
            let inside = goes_below below change before.columns.count came.old.1 place.1 fits held.2.there.1 went.0 in
            let at = column_cell before.columns columns came.old.0 came.old.1 place.1 held.0 held.1 held.2
            (moved.going came.old.1 place.1 held.2.there.1 went.0) (omega (arith, inside, moved.count)) in
            item_from with_columns (columns_grid size) place.0 place.1 held.0 held.1
            (subst (λ k. IsCellAt with_columns k place.1 held.0 held.1) went.1 at) ∙ ap Some held.3),
      );
    }

-- one of the two ends of a call
pub either_end : {A B : Type 0} (r : Result A B) (P Q R : Type 0) → OnOk r P → OnErr r Q → (P → R) → (Q → R) → R
either_end (Ok x) P Q R a b f g = f a
either_end (Err e) P Q R a b f g = g b

pub ok_then : {A B : Type 0} (r : Result A B) (P R : Type 0) → OnOk r P → (P → R) → OnOk r R
ok_then (Ok x) P R a f = f a
ok_then (Err e) P R a f = tt

pub err_then : {A B : Type 0} (r : Result A B) (P R : Type 0) → OnErr r P → (P → R) → OnErr r R
err_then (Ok x) P R a f = tt
err_then (Err e) P R a f = f a

pub if_ok_then : {A B : Type 0} (r : Result A B) (P Q : A → Type 0) → IfOk r P → ((x : A) → P x → Q x) → IfOk r Q
if_ok_then (Ok x) P Q a f = f x a
if_ok_then (Err e) P Q a f = tt

pub err_both : {A B : Type 0} (r : Result A B) (P Q R : Type 0) → OnErr r P → OnErr r Q → (P → Q → R) → OnErr r R
err_both (Ok x) P Q R a b f = tt
err_both (Err e) P Q R a b f = f a b

module _ {T : Type 0} (axis : Axis) (change : Change) (before middle after : Cells T)
    (kept : KeepsItems axis change before middle) where
  -- after the items of deleted lines were dropped
  pub goes_after : GoesAlong axis change middle after → GoesAlong axis change before after
  goes_after goes = record {
    rows = goes.rows ∙ ap (λ (s : ℕ × ℕ). (size_after axis change s.0 s.1).0)
        (λ i. (kept.lines.size.rows i, kept.lines.size.columns i));
    columns = goes.columns ∙ ap (λ (s : ℕ × ℕ). (size_after axis change s.0 s.1).1)
        (λ i. (kept.lines.size.rows i, kept.lines.size.columns i));
    items = λ place item. (
      (λ is.
          let came = (goes.items place item).0 is in
          record {
            old = came.old;
            goes = came.goes;
            held = sym (kept.kept came.old (ap is_some came.goes))
                ∙ came.held;
          }),
      (λ came.
          (goes.items place item).1 (record {
            old = came.old;
            goes = came.goes;
            held = kept.kept came.old
                (ap is_some came.goes) ∙ came.held;
          })),
    );
  }

  pub takes_after : TakesListsAgain axis change middle after → TakesListsAgain axis change before after
  takes_after took = record {
    rows = subst (λ n. length after.rows.lists.items ≤ n)
        (λ i. max (length (kept.lines.rows i)) (size_after axis change (kept.lines.size.rows i)
        (kept.lines.size.columns i)).0) took.rows;
    columns = subst (λ n. length after.columns.lists.items ≤ n)
        (λ i. max (length (kept.lines.columns i))
        (size_after axis change (kept.lines.size.rows i) (kept.lines.size.columns i)).1) took.columns;
  }

  -- an insertion deletes none
  pub nothing_dropped : IsInsertion change → HasSameItems middle after → HasSameItems before after
  nothing_dropped inserts same place = same place ∙ kept.kept place (stays axis change inserts)
    where
      stays : (axis : Axis) (change : Change) → IsInsertion change → IsSome (place_after axis change place.0 place.1)
      stays Rows (Insert at n) inserts = refl
      stays Columns (Insert at n) inserts = refl
      stays axis (Delete start end) inserts = absurd inserts
      stays axis (Move start end to) inserts = absurd inserts
