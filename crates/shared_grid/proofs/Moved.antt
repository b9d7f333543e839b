-- The sheet after a change of its lines.
use Rattle.std.proofs.Common.{◌≡◌, ◌⊎◌, inl, inr, ℕ, ◌+◌, ◌-◌, ◌*◌, ◌^◌, ◌<◌, ◌≤◌, true, false, nat_lt, cond, length, refl, sym, ap, subst, ◌∙◌, arith}
use Rattle.std.specs.Prelude.{Option, Some, None, is_some, max}
use Rattle.std.specs.Option.{IsSome, option_map, unwrap_or}
use Rattle.std.specs.Ordering.{nat_cmp}
use Rattle.std.specs.FinMap as fin
use Rattle.std.proofs.lemmas.Bool.{false≢true, cases_lt, ltb-true}
use Rattle.std.proofs.lemmas.Bool.Decides.{nat_tests}
use Rattle.grid_range.specs.declared.axis.Axis.{Axis}
use Rattle.grid_range.specs.declared.axis.Axis.TheVariants.{Rows, Columns}
use Rattle.grid_range.specs.declared.change.Change.{Change}
use Rattle.grid_range.specs.declared.change.Change.TheVariants.{Insert, Delete, Move}
use Rattle.grid_range.specs.Change.{Fits, count_after}
use Rattle.grid_range.specs.Tracking.{place_of, closed_up, span_moved, start_opened}
use Rattle.grid_range.specs.TrackingLaws.{PlacesStayBelow}
use Rattle.cell_store.specs.Table.{item_at, filled_places, most_lines}
use Rattle.cell_store.specs.Moved.{GoesWithLines, CameFrom, IsRoomAfter}
use Rattle.cell_store.specs.Laws.{TablesByItems}
use Rattle.shared_grid.specs.Orders.{LineOrder}
use Rattle.shared_grid.specs.Orders.{AreMoved, IsOrder, number_of}
use Rattle.shared_grid.specs.Cells.{numbers, key_of, line_in, across_in, number_on, HasFewer}
use Rattle.cell_store.specs.Kept.{KeptTable, ReusesLines}
use Rattle.shared_grid.specs.Sheets.{sheet_of, numbered_table, deleted, IsOnLines, IsSheet, AreCleared, AreOnAxis}
use Rattle.shared_grid.proofs.Numbers.{line-key, across-key, small}
use Rattle.shared_grid.proofs.Placed.{item-place, inside, filled}
use Rattle.cell_store.specs.TurningLaws.{chosen, goes_below}
use Rattle.shared_grid.proofs.Views.{item-view, inside-view, filled-view}

same_end : (start end line : ℕ) → start ≤ line → line < end → closed_up start end (line + 1) ≤ closed_up start end line
same_end start end line low high = grind (arith, nat_tests)

grows_before : (start end line : ℕ) → start < end → line < start → closed_up start end line
    < closed_up start end (line + 1)
grows_before start end line some before = grind (arith, nat_tests)

grows_behind : (start end line : ℕ) → start < end → end ≤ line → closed_up start end line
    < closed_up start end (line + 1)
grows_behind start end line some behind = grind (arith, nat_tests)

lost : (a b place : ℕ) → b ≤ a → option_map (λ (s : ℕ × ℕ). s.0) (cond (nat_lt a b) (Some (a, b)) None) ≡ Some place → ⊥
lost a b place le found = elim (nat_lt a b) as (λ t. nat_lt a b ≡ t
    → option_map (λ (s : ℕ × ℕ). s.0) (cond t (Some (a, b)) None) ≡ Some place → ⊥) [
      | true ↦ λ less _. let below : a < b = ltb-true a b less in omega (arith, below)
      | false ↦ λ _ none. false≢true (ap is_some none)
    ] refl found

-- a line that has a place isn't deleted
stays : (change : Change) (line place : ℕ) → place_of change line ≡ Some place → (deleted change).0 ≤ line
    → line < (deleted change).1 → ⊥
stays (Insert at inserted) line place goes low high = omega arith
stays (Delete start end) line place goes low high =
    lost (closed_up start end line) (closed_up start end (line + 1)) place (same_end start end line low high) goes
stays (Move start end to) line place goes low high = omega arith

-- a line has a place, or it is deleted
lands : (change : Change) (count line : ℕ) → Fits change count → line < count
    → ((place : ℕ) × (place_of change line ≡ Some place)) ⊎ (((deleted change).0 ≤ line) × (line < (deleted change).1))
lands (Insert at inserted) count line fits there = inl (start_opened at inserted line, refl)
lands (Delete start end) count line fits there = elim (cases_lt line start) [
  | inl before ↦ inl (
    closed_up start end line,
    chosen (closed_up start end line) (closed_up start end (line + 1)) (closed_up start end line)
        (grows_before start end line fits.0 before) refl,
  )
  | inr past ↦ elim (cases_lt line end) [
    | inl within ↦ inr (past, within)
    | inr behind ↦ inl (
      closed_up start end line,
      chosen (closed_up start end line) (closed_up start end (line + 1)) (closed_up start end line)
          (grows_behind start end line fits.0 behind) refl,
    )
  ]
]
lands (Move start end to) count line fits there = inl ((span_moved line (line + 1) start end to).0, refl)

deleted_there : (change : Change) (count line : ℕ) → Fits change count → line < (deleted change).1 → line < count
deleted_there (Insert at inserted) count line fits high = omega arith
deleted_there (Delete start end) count line fits high = omega (arith, fits.1)
deleted_there (Move start end to) count line fits high = omega arith

module _ {X : Type 0} (change : Change) (before after : LineOrder) (moved : AreMoved change before after)
    (old new : ℕ → Option X) where
  -- the item of a line after the change was that of a line that went there
  came : ((number : ℕ) → (new number ≡ None) ⊎ (new number ≡ old number)) → (place : ℕ) (item : X) → place < after.count
      → (IsSome (old (number_of after place)) → (line : ℕ) × (line < before.count)
      × (number_of after place ≡ number_of before line))
      → new (number_of after place) ≡ Some item
      → (line : ℕ) × (line < before.count) × (place_of change line ≡ Some place)
      × (old (number_of before line) ≡ Some item)
  came fewer place item there on held =
      let was : old (number_of after place) ≡ Some item = elim (fewer (number_of after place)) [
        | inl none ↦ absurd (false≢true (ap is_some (sym none ∙ held)))
        | inr same ↦ sym same ∙ held
      ] in
      elim (moved.coming place there) [
        | inl line ↦ (line.line, line.there, line.goes, ap old (sym line.number_is) ∙ was)
        | inr fresh ↦
            let found = on (ap is_some was) in
            absurd (fresh found.0 found.1 (sym found.2))
      ]

  -- and an item that is kept goes with its line
  went : (line place : ℕ) (item : X) → line < before.count → place_of change line ≡ Some place
      → new (number_of before line) ≡ old (number_of before line) → old (number_of before line) ≡ Some item
      → new (number_of after place) ≡ Some item
  went line place item there goes kept held = ap new (moved.going line place there goes) ∙ kept ∙ held

-- where the places of a line are, that of one of its items is
row_goes : (line : Option ℕ) (across row col : ℕ) → option_map {U = ℕ × ℕ} (λ (l : ℕ). (l, across)) line
    ≡ Some (row, col)
    → (line ≡ Some row) × (across ≡ col)
row_goes None across row col same = absurd (false≢true (ap is_some same))
row_goes (Some line) across row col same =
    let pair : (line, across) ≡ (row, col) = ap (λ (o : Option (ℕ × ℕ)). unwrap_or o (row, col)) same in
    (ap (λ (p : ℕ × ℕ). Some p.0) pair, ap (λ (p : ℕ × ℕ). p.1) pair)

column_goes : (line : Option ℕ) (across row col : ℕ) → option_map {U = ℕ × ℕ} (λ (l : ℕ). (across, l)) line
    ≡ Some (row, col)
    → (line ≡ Some col) × (across ≡ row)
column_goes None across row col same = absurd (false≢true (ap is_some same))
column_goes (Some line) across row col same =
    let pair : (across, line) ≡ (row, col) = ap (λ (o : Option (ℕ × ℕ)). unwrap_or o (row, col)) same in
    (ap (λ (p : ℕ × ℕ). Some p.1) pair, ap (λ (p : ℕ × ℕ). p.0) pair)

module _ {X : Type 0} (items left : fin.FinMap nat_cmp X) where
  was_there : HasFewer items left → (key : ℕ) → IsSome (fin.get left key) → IsSome (fin.get items key)
  was_there fewer key some = elim (fewer.each key) [
    | inl none ↦ absurd (false≢true (sym (ap is_some none) ∙ some))
    | inr same ↦ subst IsSome same some
  ]

  never : (key : ℕ) → fin.get left key ≡ None → IsSome (fin.get left key) → ⊥
  never key none some = false≢true (sym (ap is_some none) ∙ some)

fits_key : (key line across : ℕ) → line < numbers → across < numbers → key ≡ key_of line across → key < 2 ^ 64
fits_key key line across one two is = omega arith

-- each item of a sheet is on a row, and on a column
module _ {X : Type 0} (rows columns : LineOrder) (items : fin.FinMap nat_cmp X) (is : IsSheet rows columns items) where
  pub on_rows : AreOnAxis Rows rows items
  on_rows = record {
    each = λ key some.
        let on = is.lines.each key some in
        record {
          line = on.row;
          there = on.there.0;
          is = ap line_in on.is ∙ line-key (number_of rows on.row) (number_of columns on.column)
              (small columns is.columns_are on.column on.there.1);
        };
  }

  pub on_columns : AreOnAxis Columns columns items
  on_columns = record {
    each = λ key some.
        let on = is.lines.each key some in
        record {
          line = on.column;
          there = on.there.1;
          is = ap across_in on.is ∙ across-key (number_of rows on.row) (number_of columns on.column)
              (small columns is.columns_are on.column on.there.1);
        };
  }

module _ {X : Type 0} (laws : TablesByItems X) (below : PlacesStayBelow) (change : Change)
    (rows columns after : LineOrder)
    (items left : fin.FinMap nat_cmp X) (is : IsSheet rows columns items) (sheet : KeptTable X)
    (view : numbered_table rows columns items ≡ sheet) (after_is : IsOrder after) where
  rows_same : rows.count ≡ sheet.table.rows
  rows_same = ap (λ s. s.table.rows) view

  cols_same : columns.count ≡ sheet.table.cols
  cols_same = ap (λ s. s.table.cols) view

  row_small : (row : ℕ) → row < rows.count → number_of rows row < numbers
  row_small row there = small rows is.rows_are row there

  col_small : (col : ℕ) → col < columns.count → number_of columns col < numbers
  col_small col there = small columns is.columns_are col there

  -- no item is left on a deleted line
  none_deleted : (axis : Axis) (order : LineOrder)
      → AreCleared axis order (deleted change).0 (deleted change).1 items left
      → (key : ℕ) → IsOnLines rows columns key → (line : ℕ) → (deleted change).0 ≤ line → line < (deleted change).1
      → number_on axis key ≡ number_of order line → IsSome (fin.get left key) → ⊥
  none_deleted axis order cleared key on line low high same =
      never items left key (cleared.gone line key low high
      (fits_key key (number_of rows on.row) (number_of columns on.column)
      (row_small on.row on.there.0) (col_small on.column on.there.1) on.is) same)

  on_row : (col : ℕ) → col < columns.count → (number : ℕ)
      → IsSome (fin.get items (key_of number (number_of columns col)))
      → (line : ℕ) × (line < rows.count) × (number ≡ number_of rows line)
  on_row col there number some =
      let on = is.lines.each (key_of number (number_of columns col)) some in (
        on.row,
        on.there.0,
        sym (line-key number (number_of columns col) (col_small col there)) ∙ ap line_in on.is
            ∙ line-key (number_of rows on.row) (number_of columns on.column) (col_small on.column on.there.1),
      )

  on_column : (row number : ℕ) → number < numbers → IsSome (fin.get items (key_of (number_of rows row) number))
      → (line : ℕ) × (line < columns.count) × (number ≡ number_of columns line)
  on_column row number fits some =
      let on = is.lines.each (key_of (number_of rows row) number) some in (
        on.column,
        on.there.1,
        sym (across-key (number_of rows row) number fits) ∙ ap across_in on.is
            ∙ across-key (number_of rows on.row) (number_of columns on.column) (col_small on.column on.there.1),
      )

  module _ (fits : Fits change rows.count) (moved : AreMoved change rows after)
      (cleared : AreCleared Rows rows (deleted change).0 (deleted change).1 items left)
      (room : count_after change rows.count + columns.count ≤ most_lines) where
    pub rows_sheet : IsSheet after columns left
    rows_sheet = record {
      rows_are = after_is;
      columns_are = is.columns_are;
      lines = record {
        each = λ key some.
            let on = is.lines.each key (was_there items left cleared.fewer key some) in
            elim (lands change rows.count on.row fits on.there.0) [
              | inl goes ↦ record {
                row = goes.0;
                column = on.column;
                there = (
                  omega (arith, goes_below below change rows.count on.row goes.0 fits on.there.0 goes.1, moved.count),
                  on.there.1,
                );
                is = on.is ∙ ap (λ (n : ℕ). key_of n (number_of columns on.column))
                    (sym (moved.going on.row goes.0 on.there.0 goes.1));
              }
              | inr gone ↦ absurd (none_deleted Rows rows cleared key on on.row gone.0 gone.1
                  (ap line_in on.is
                  ∙ line-key (number_of rows on.row) (number_of columns on.column)
                  (col_small on.column on.there.1)) some)
            ];
      };
      size = omega (arith, moved.count, room);
    }

    pub rows_go : GoesWithLines Rows change sheet.table (sheet_of after columns left)
    rows_go = record {
      size = λ i. ((moved.count ∙ ap (count_after change) rows_same) i, cols_same i);
      items = λ row col item. (
        (λ held.
            let there =
            inside laws after columns after_is is.columns_are left rows_sheet.lines row col (ap is_some held) in
            let found = came change rows after moved (λ n. fin.get items (key_of n (number_of columns col)))
            (λ n. fin.get left (key_of n (number_of columns col)))
            (λ n. cleared.fewer.each (key_of n (number_of columns col)))
            row item there.0 (on_row col there.1 (number_of after row))
            (sym (item-place laws after columns after_is is.columns_are left rows_sheet.lines row col there.0
            there.1) ∙ held) in
            record {
              old_row = found.0;
              old_col = col;
              goes = ap (option_map {U = ℕ × ℕ} (λ (line : ℕ). (line, col))) found.2;
              held = sym (item-view laws rows columns items is sheet view found.0 col found.1 there.1) ∙ found.3;
            }),
        (λ (from : CameFrom Rows change sheet.table row col item).
            let to = row_goes (place_of change from.old_row) from.old_col row col from.goes in
            let place =
            inside-view laws rows columns items is sheet view from.old_row from.old_col (ap is_some from.held) in
            let row_there : from.old_row < rows.count = omega (arith, place.0, rows_same) in
            let col_there : from.old_col < columns.count = omega (arith, place.1, cols_same) in
            let kept = cleared.kept (key_of (number_of rows from.old_row) (number_of columns from.old_col))
            (λ line low high same.
            let one : from.old_row ≡ line =
            is.rows_are.each.apart from.old_row line (omega (arith, row_there, is.rows_are.count))
            (omega (arith, deleted_there change rows.count line fits high, is.rows_are.count))
            (sym (line-key (number_of rows from.old_row) (number_of columns from.old_col)
            (col_small from.old_col col_there)) ∙ same) in
            stays change from.old_row row to.0 (omega (arith, one, low)) (omega (arith, one, high))) in
            let held = went change rows after moved (λ n. fin.get items (key_of n (number_of columns from.old_col)))
            (λ n. fin.get left (key_of n (number_of columns from.old_col))) from.old_row row item row_there to.0 kept
            (item-view laws rows columns items is sheet view from.old_row from.old_col row_there col_there
            ∙ from.held) in
            subst (λ (c : ℕ). item_at (sheet_of after columns left) row c ≡ Some item) to.1
            (item-place laws after columns after_is is.columns_are left rows_sheet.lines row from.old_col
            (omega (
              arith,
              goes_below below change rows.count from.old_row row fits row_there to.0,
              moved.count,
            )) col_there
            ∙ held)),
      );
    }

    rows_left : filled_places (sheet_of after columns left) ≡ fin.len left
    rows_left = filled laws after columns after_is is.columns_are left rows_sheet.lines

    pub rows_fewer : filled_places (sheet_of after columns left) ≤ filled_places sheet.table
    rows_fewer = omega (arith, rows_left, filled-view laws rows columns items is sheet view, cleared.fewer.count)

    -- the steps for the entries, and those for the maps
    pub rows_steps : (old made new : ℕ) → made ≡ old + rows.count + count_after change rows.count
        → new + 2 * fin.len left ≤ made + 2 * fin.len items + rows.count + count_after change rows.count
        → new ≤ old + 2 * sheet.table.rows + 2 * count_after change sheet.table.rows
        + 2 * (filled_places sheet.table - filled_places (sheet_of after columns left))
    rows_steps old made new entries maps =
        subst (λ (n : ℕ). new ≤ old + 2 * n + 2 * count_after change n
        + 2 * (filled_places sheet.table - filled_places (sheet_of after columns left))) rows_same
        (omega (
          arith,
          entries,
          maps,
          rows_left,
          filled-view laws rows columns items is sheet view,
          cleared.fewer.count,
        ))

  module _ (fits : Fits change columns.count) (moved : AreMoved change columns after)
      (cleared : AreCleared Columns columns (deleted change).0 (deleted change).1 items left)
      (room : rows.count + count_after change columns.count ≤ most_lines) where
    pub columns_sheet : IsSheet rows after left
    columns_sheet = record {
      rows_are = is.rows_are;
      columns_are = after_is;
      lines = record {
        each = λ key some.
            let on = is.lines.each key (was_there items left cleared.fewer key some) in
            elim (lands change columns.count on.column fits on.there.1) [
              | inl goes ↦ record {
                row = on.row;
                column = goes.0;
                there = (
                  on.there.0,
                  omega (
                    arith,
                    goes_below below change columns.count on.column goes.0 fits on.there.1 goes.1,
                    moved.count,
                  ),
                );
                is = on.is ∙ ap (key_of (number_of rows on.row)) (sym (moved.going on.column goes.0 on.there.1 goes.1));
              }
              | inr gone ↦ absurd (none_deleted Columns columns cleared key on on.column gone.0 gone.1
                  (ap across_in on.is
                  ∙ across-key (number_of rows on.row) (number_of columns on.column)
                  (col_small on.column on.there.1)) some)
            ];
      };
      size = omega (arith, moved.count, room);
    }

    pub columns_go : GoesWithLines Columns change sheet.table (sheet_of rows after left)
    columns_go = record {
      size = λ i. (rows_same i, (moved.count ∙ ap (count_after change) cols_same) i);
      items = λ row col item. (
        (λ held.
            let there =
            inside laws rows after is.rows_are after_is left columns_sheet.lines row col (ap is_some held) in
            let found = came change columns after moved (λ n. fin.get items (key_of (number_of rows row) n))
            (λ n. fin.get left (key_of (number_of rows row) n))
            (λ n. cleared.fewer.each (key_of (number_of rows row) n))
            col item there.1 (on_column row (number_of after col) (small after after_is col there.1))
            (sym (item-place laws rows after is.rows_are after_is left columns_sheet.lines row col there.0
            there.1) ∙ held) in
            record {
              old_row = row;
              old_col = found.0;
              goes = ap (option_map {U = ℕ × ℕ} (λ (line : ℕ). (row, line))) found.2;
              held = sym (item-view laws rows columns items is sheet view row found.0 there.0 found.1) ∙ found.3;
            }),
        (λ (from : CameFrom Columns change sheet.table row col item).
            let to = column_goes (place_of change from.old_col) from.old_row row col from.goes in
            let place =
            inside-view laws rows columns items is sheet view from.old_row from.old_col (ap is_some from.held) in
            let row_there : from.old_row < rows.count = omega (arith, place.0, rows_same) in
            let col_there : from.old_col < columns.count = omega (arith, place.1, cols_same) in
            let kept = cleared.kept (key_of (number_of rows from.old_row) (number_of columns from.old_col))
            (λ line low high same.
            let one : from.old_col ≡ line =
            is.columns_are.each.apart from.old_col line (omega (arith, col_there, is.columns_are.count))
            (omega (arith, deleted_there change columns.count line fits high, is.columns_are.count))
            (sym (across-key (number_of rows from.old_row) (number_of columns from.old_col)
            (col_small from.old_col col_there)) ∙ same) in
            stays change from.old_col col to.0 (omega (arith, one, low)) (omega (arith, one, high))) in
            let held = went change columns after moved (λ n. fin.get items (key_of (number_of rows from.old_row) n))
            (λ n. fin.get left (key_of (number_of rows from.old_row) n)) from.old_col col item col_there to.0 kept
            (item-view laws rows columns items is sheet view from.old_row from.old_col row_there col_there
            ∙ from.held) in
            subst (λ (r : ℕ). item_at (sheet_of rows after left) r col ≡ Some item) to.1
            (item-place laws rows after is.rows_are after_is left columns_sheet.lines from.old_row col row_there
            (omega (arith, goes_below below change columns.count from.old_col col fits col_there to.0, moved.count))
            ∙ held)),
      );
    }

    columns_left : filled_places (sheet_of rows after left) ≡ fin.len left
    columns_left = filled laws rows after is.rows_are after_is left columns_sheet.lines

    pub columns_fewer : filled_places (sheet_of rows after left) ≤ filled_places sheet.table
    columns_fewer = omega (arith, columns_left, filled-view laws rows columns items is sheet view, cleared.fewer.count)

    -- the steps for the entries, and those for the maps
    pub columns_steps : (old made new : ℕ) → made ≡ old + columns.count + count_after change columns.count
        → new + 2 * fin.len left ≤ made + 2 * fin.len items + columns.count + count_after change columns.count
        → new ≤ old + 2 * sheet.table.cols + 2 * count_after change sheet.table.cols
        + 2 * (filled_places sheet.table - filled_places (sheet_of rows after left))
    columns_steps old made new entries maps =
        subst (λ (n : ℕ). new ≤ old + 2 * n + 2 * count_after change n
        + 2 * (filled_places sheet.table - filled_places (sheet_of rows after left))) cols_same
        (omega (
          arith,
          entries,
          maps,
          columns_left,
          filled-view laws rows columns items is sheet view,
          cleared.fewer.count,
        ))

-- the change fits the lines, and there is room, as the sheet that callers see has it
module _ {X : Type 0} (change : Change) (rows columns : LineOrder) (items : fin.FinMap nat_cmp X) (sheet : KeptTable X)
    (view : numbered_table rows columns items ≡ sheet) where
  pub rows_fit : Fits change sheet.table.rows → Fits change rows.count
  rows_fit fits = subst (Fits change) (sym (ap (λ s. s.table.rows) view)) fits

  pub columns_fit : Fits change sheet.table.cols → Fits change columns.count
  columns_fit fits = subst (Fits change) (sym (ap (λ s. s.table.cols) view)) fits

  pub rows_room : IsRoomAfter Rows change sheet.table → count_after change rows.count + columns.count ≤ most_lines
  rows_room room = subst (λ (n : ℕ). n ≤ most_lines)
      (sym (ap (λ s. count_after change s.table.rows + s.table.cols) view)) room

  pub columns_room : IsRoomAfter Columns change sheet.table → rows.count + count_after change columns.count ≤ most_lines
  columns_room room = subst (λ (n : ℕ). n ≤ most_lines)
      (sym (ap (λ s. s.table.rows + count_after change s.table.cols) view)) room

  -- the numbers that there were, or those that the lines need
  pub rows_reused : (after : LineOrder) (left : fin.FinMap nat_cmp X) → length after.numbers
      ≤ max (length rows.numbers) (count_after change rows.count)
      → ReusesLines Rows change sheet (numbered_table after columns left)
  rows_reused after left few = record {
    rows = subst (λ (n : ℕ). length after.numbers ≤ n)
        (ap (λ s. max s.kept_rows (count_after change s.table.rows)) view) few;
    columns = omega (arith, ap (λ s. s.kept_columns) view);
  }

  pub columns_reused : (after : LineOrder) (left : fin.FinMap nat_cmp X)
      → length after.numbers ≤ max (length columns.numbers) (count_after change columns.count)
      → ReusesLines Columns change sheet (numbered_table rows after left)
  columns_reused after left few = record {
    rows = omega (arith, ap (λ s. s.kept_rows) view);
    columns = subst (λ (n : ℕ). length after.numbers ≤ n)
        (ap (λ s. max s.kept_columns (count_after change s.table.cols)) view) few;
  }
