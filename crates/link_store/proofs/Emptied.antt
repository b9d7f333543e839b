-- Lines whose items are dropped, one after the other.
use Rattle.std.proofs.Common.{◌≡◌, ◌≢◌, inl, inr, ℕ, ◌+◌, ◌<◌, ◌≤◌, Bool, refl, sym, ap, subst, ◌∙◌, arith}
use Rattle.std.specs.Prelude.{Option, Some, None, Contains}
use Rattle.std.proofs.lemmas.Bool.{cases_lt}
use Rattle.grid_range.specs.declared.axis.Axis.{Axis}
use Rattle.grid_range.specs.declared.axis.Axis.TheVariants.{Rows, Columns}
use Rattle.grid_range.specs.declared.change.Change.TheVariants.{Delete}
use Rattle.cell_store.specs.Entries.{entry_at}
use Rattle.cell_store.specs.Moved.{lines_on}
use Rattle.link_store.specs.declared.cells.Cell.{Cell}
use Rattle.link_store.specs.declared.cells.Cells.{Cells}
use Rattle.link_store.specs.declared.cells.Link.{Link}
use Rattle.link_store.specs.Lists.{entries_of}
use Rattle.link_store.specs.Lines.{line_entries, list_of}
use Rattle.link_store.specs.Crossings.{IsGrid, HasSameLines, LosesFirst, LosesItems, IsEmptyList, HasDeletedEmpty}
use Rattle.link_store.specs.Crossings.{lists_on, line_on, sheet_items}
use Rattle.cell_value.specs.Elements.{nothing_in}
use Rattle.link_store.proofs.LineLists.{line_of, same_line}
use Rattle.link_store.proofs.Sheets.{item_from, cell_from, has_column}
use Rattle.link_store.proofs.Holding.{empty_from}

-- an option that holds nothing
pub nothing : {X : Type 0} (o : Option X) → ((x : X) → o ≡ Some x → ⊥) → o ≡ None
nothing None none = refl
nothing (Some x) none = absurd (none x refl)

module _ {T : Type 0} (cells : Cells T) (are : IsGrid cells) where
  -- a place outside the sheet holds nothing
  outside : (axis : Axis) (place : ℕ × ℕ) → lines_on axis cells.rows.count cells.columns.count ≤ line_on axis place
      → entry_at (sheet_items cells) place ≡ None
  outside Rows place past = nothing (entry_at (sheet_items cells) place) (λ item is.
      let held = cell_from cells are place.0 place.1 item is in omega (arith, held.2.there.0, past))
  outside Columns place past = nothing (entry_at (sheet_items cells) place) (λ item is.
      let held = cell_from cells are place.0 place.1 item is in omega (arith, held.2.there.1, past))

  -- nor does one on a line whose list is empty
  pub on_empty : (axis : Axis) (place : ℕ × ℕ) → IsEmptyList axis cells (lists_on axis cells (line_on axis place))
      → entry_at (sheet_items cells) place ≡ None
  on_empty Rows place empty = nothing (entry_at (sheet_items cells) place) (λ item is.
      let held = cell_from cells are place.0 place.1 item is in
      nothing_in (held.0, held.1) (subst (λ es. Contains es (held.0, held.1)) empty held.2.stands))
  on_empty Columns place empty = nothing (entry_at (sheet_items cells) place) (λ item is.
      let held = cell_from cells are place.0 place.1 item is in
      let link : Link = record { row = list_of cells.rows place.0; row_node = held.0 } in
      nothing_in (held.1.column_node, link) (subst (λ es. Contains es (held.1.column_node, link))
      (ap (entries_of cells.columns.links) held.2.column_is ∙ empty)
      (are.crossed.in_column (list_of cells.rows place.0) held.0 held.1 held.2.stands)))

  -- and a line that holds nothing has an empty list
  pub empty_on : (axis : Axis) (line : ℕ) → line < lines_on axis cells.rows.count cells.columns.count
      → ((place : ℕ × ℕ) → line_on axis place ≡ line → entry_at (sheet_items cells) place ≡ None)
      → IsEmptyList axis cells (lists_on axis cells line)
  empty_on Rows line there none = empty_from (line_entries cells.rows line) (λ entry has.
      let column = has_column cells are (list_of cells.rows line) entry.0 entry.1 has in
      let is = item_from cells are line column.0 entry.0 entry.1
      (record { there = (there, column.1); stands = has; column_is = column.2 }) in
      absurd (cc (is, none (line, column.0) refl)))
  empty_on Columns line there none = empty_from (line_entries cells.columns line) (λ entry has.
      let held = are.crossed.in_row (list_of cells.columns line) entry.0 entry.1 has in
      let cell : Cell T = record { item = held.0; column = list_of cells.columns line; column_node = entry.0 } in
      let row = line_of cells.rows are.rows_are entry.1.row (entry.1.row_node, cell) held.1 in
      let is = item_from cells are row.0 line entry.1.row_node cell (record {
        there = (row.1, there);
        stands = subst (λ list. Contains (entries_of cells.rows.links list) (entry.1.row_node, cell)) (sym row.2)
            held.1;
        column_is = refl;
      }) in
      absurd (cc (is, none (row.0, line) refl)))

  -- a place of another line is on another list
  other_list : (axis : Axis) (line : ℕ) (place : ℕ × ℕ) → line < lines_on axis cells.rows.count cells.columns.count
      → line_on axis place ≢ line
      → line_on axis place < lines_on axis cells.rows.count cells.columns.count
      → lists_on axis cells (line_on axis place) ≡ lists_on axis cells line → ⊥
  other_list Rows line place there differs within same =
      differs (same_line cells.rows are.rows_are place.0 line (omega (arith, within, are.rows_are.count))
      (omega (arith, there, are.rows_are.count)) same)
  other_list Columns line place there differs within same =
      differs (same_line cells.columns are.columns_are place.1 line (omega (arith, within, are.columns_are.count))
      (omega (arith, there, are.columns_are.count)) same)

-- how many lines there are stays
pub same_lines_on : {T : Type 0} (axis : Axis) (before after : Cells T) → HasSameLines before after
    → lines_on axis after.rows.count after.columns.count ≡ lines_on axis before.rows.count before.columns.count
same_lines_on Rows before after same = same.size.rows
same_lines_on Columns before after same = same.size.columns

module _ {T : Type 0} (axis : Axis) where
  pub lines_trans : (one two three : Cells T) → HasSameLines one two → HasSameLines two three → HasSameLines one three
  lines_trans one two three a b = record {
    rows = b.rows ∙ a.rows;
    columns = b.columns ∙ a.columns;
    size = record { rows = b.size.rows ∙ a.size.rows; columns = b.size.columns ∙ a.size.columns };
  }

  -- items of other lines stay where one is dropped
  pub kept_elsewhere : (before after : Cells T) (line list : ℕ) (lost : Bool) → IsGrid before → IsGrid after
      → LosesFirst axis list before after lost
      → list ≡ lists_on axis before line → line < lines_on axis before.rows.count before.columns.count
      → (place : ℕ × ℕ) → line_on axis place ≢ line
      → entry_at (sheet_items after) place ≡ entry_at (sheet_items before) place
  kept_elsewhere before after line list lost one two loses is there place differs =
      elim (cases_lt (line_on axis place) (lines_on axis before.rows.count before.columns.count)) [
        | inl within ↦ loses.others place (λ same. other_list before one axis line place there differs within
            (same ∙ is))
        | inr past ↦ outside after two axis place
            (subst (λ n. n ≤ line_on axis place) (sym (same_lines_on axis before after loses.lines)) past)
            ∙ sym (outside before one axis place past)
      ]

  -- the line was emptied
  pub line_emptied : (before after : Cells T) (line list : ℕ) → IsGrid after → HasSameLines before after
      → list ≡ lists_on axis after line → IsEmptyList axis after list
      → ((place : ℕ × ℕ) → line_on axis place ≢ line
      → entry_at (sheet_items after) place ≡ entry_at (sheet_items before) place)
      → LosesItems axis line (line + 1) before after
  line_emptied before after line list are lines is empty others = record {
    lines = lines;
    gone = λ place low high.
        let here : line_on axis place ≡ line = omega arith in
        on_empty after are axis place (subst (λ n. IsEmptyList axis after n)
        (is ∙ ap (lists_on axis after) (sym here)) empty);
    others = λ place apart. others place (λ same. elim apart [ inl low ↦ omega arith | inr high ↦ omega arith ]);
  }

  pub none_lost : (cells : Cells T) (start : ℕ) → LosesItems axis start start cells cells
  none_lost cells start = record {
    lines = record { rows = refl; columns = refl; size = record { rows = refl; columns = refl } };
    gone = λ place low high. absurd (omega arith);
    others = λ place apart. refl;
  }

  -- one line more
  pub more_lost : (one two three : Cells T) (start line : ℕ) → start ≤ line → LosesItems axis start line one two
      → LosesItems axis line (line + 1) two three
      → LosesItems axis start (line + 1) one three
  more_lost one two three start line order before now = record {
    lines = lines_trans one two three before.lines now.lines;
    gone = λ place low high. elim (cases_lt (line_on axis place) line) [
      | inl earlier ↦ now.others place (inl earlier) ∙ before.gone place low earlier
      | inr here ↦ now.gone place here high
    ];
    others = λ place apart. elim apart [
      | inl low ↦ now.others place (inl (omega arith)) ∙ before.others place (inl low)
      | inr high ↦ now.others place (inr high) ∙ before.others place (inr (omega arith))
    ];
  }

module _ {T : Type 0} where
  -- the lines that were emptied have no entries
  pub deleted_empty : (axis : Axis) (start end : ℕ) (cells : Cells T) → IsGrid cells
      → end ≤ lines_on axis cells.rows.count cells.columns.count
      → ((place : ℕ × ℕ) → start ≤ line_on axis place → line_on axis place < end
      → entry_at (sheet_items cells) place ≡ None) → HasDeletedEmpty axis (Delete start end) cells
  deleted_empty Rows start end cells are there gone = λ line low high.
      empty_on cells are Rows line (omega arith) (λ place here. gone place (omega (arith, here)) (omega (arith, here)))
  deleted_empty Columns start end cells are there gone = λ line low high.
      empty_on cells are Columns line (omega arith)
      (λ place here. gone place (omega (arith, here)) (omega (arith, here)))
