-- The places of cells, as they are gathered line by line.
use Rattle.std.proofs.Common.{◌≡◌, ◌≢◌, ℕ, suc, ◌+◌, ◌-◌, ◌<◌, ◌≤◌, List, [], ◌∷◌, ◌++◌, false, length, map, refl}
use Rattle.std.proofs.Common.{sym, ap, subst, ◌∙◌, arith, append_assoc, get_or}
use Rattle.std.specs.Prelude.{Contains, nat_eq, Option, Some, None}
use Rattle.std.specs.Option.{IsSome, is_some}
use Rattle.std.specs.Ordering.{eq_by_cmp}
use Rattle.std.specs.List.{IsDistinct, flat_map, range_with_len}
use Rattle.std.proofs.lemmas.Bool.{eq-eqb, false≢true}
use Rattle.std.proofs.lemmas.Bool.Decides.{nat_tests}
use Rattle.std.proofs.lemmas.Grind.{get_or_default_zero}
use Rattle.std.proofs.lemmas.List.{append-nil}
use Rattle.std.proofs.lemmas.List.Concat.{flat_map-append}
use Rattle.std.proofs.lemmas.Map.Keys.{IsDistinct-head, IsDistinct-tail}
use Rattle.grid_range.specs.declared.area.Area.{Area}
use Rattle.grid_range.specs.declared.band.Band.{Band}
use Rattle.grid_range.specs.declared.axis.Axis.{Axis}
use Rattle.grid_range.specs.declared.axis.Axis.TheVariants.{Rows, Columns}
use Rattle.grid_range.specs.Band.{HasLine}
use Rattle.grid_range.specs.Area.{by_rows}
use Rattle.cell_store.specs.Entries.{entry_at}
use Rattle.cell_store.specs.Moved.{lines_on}
use Rattle.link_store.specs.declared.cells.Cell.{Cell}
use Rattle.link_store.specs.declared.cells.Cells.{Cells}
use Rattle.link_store.specs.declared.cells.Link.{Link}
use Rattle.link_store.specs.declared.lines.Lines.{Lines}
use Rattle.link_store.specs.Lists.{entries_of, HasNodesOnce}
use Rattle.link_store.specs.Lines.{AreLines, ArePositions, line_entries, list_of}
use Rattle.link_store.specs.Crossings.{IsGrid, IsCellAt, ArePlacesOn, HasPlacesOf, column_of, first_rows, place_in}
use Rattle.link_store.specs.Crossings.{row_items, sheet_items}
use Rattle.cell_value.specs.Elements.{Contains-cons, Contains-map, Contains-map_from, IsDistinct-append, from_each}
use Rattle.link_store.proofs.Elements.{Contains-flat_map}
use Rattle.cell_value.specs.Elements.{IsDistinct-none}
use Rattle.link_store.proofs.Elements.{Contains-flat_map_from, IsDistinct-map}
use Rattle.link_store.proofs.Elements.{IsDistinct-range, range_has, range_high}
use Rattle.link_store.proofs.Holding.{one_cell}
use Rattle.link_store.proofs.LineLists.{range_more, line_of, list_within, links_as_lists, place_is}
use Rattle.link_store.proofs.Sheets.{cell_from, column_is, has_column, item_from, other_column, other_row}

some_item : {X : Type 0} (o : Option X) → IsSome o → (x : X) × (o ≡ Some x)
some_item None some = absurd (false≢true some)
some_item (Some x) some = (x, refl)

apart_columns : (one two : ℕ × ℕ) → one.1 ≢ two.1 → eq_by_cmp by_rows one two ≡ false
apart_columns one two differs = grind (arith, nat_tests)

-- the area's band on the axis
abbrev pub band_on : Axis → Area → Band
band_on Rows area = area.rows
band_on Columns area = area.cols

module _ {T : Type 0} (cells : Cells T) where
  -- an entry's item with its place
  abbrev pub placed : ℕ → ℕ × Cell T → (ℕ × ℕ) × T
  placed row entry = ((row, column_of cells.columns entry.1), entry.1.item)

  -- and its place, in a row's list and in a column's
  abbrev pub in_row : ℕ → ℕ × Cell T → ℕ × ℕ
  in_row row entry = (row, place_in cells.columns entry.1.column)

  abbrev pub in_column : ℕ → ℕ × Link → ℕ × ℕ
  in_column column entry = (place_in cells.rows entry.1.row, column)

  -- one row more
  pub rows_more : (row : ℕ) → first_rows cells (row + 1) ≡ first_rows cells row ++ row_items cells.rows
      cells.columns row
  rows_more row =
      let next : row + 1 ≡ suc row = omega arith in
      let zero_row : 0 + row ≡ row = omega arith in
      ap (first_rows cells) next
      ∙ ap (flat_map (row_items cells.rows cells.columns))
      (range_more 0 row ∙ ap (λ r. range_with_len 0 row ++ r ∷ []) zero_row)
      ∙ flat_map-append (row_items cells.rows cells.columns) (range_with_len 0 row) (row ∷ [])
      ∙ ap (λ es. first_rows cells row ++ es) (append-nil (row_items cells.rows cells.columns row))

-- places that are gathered line by line: what `put` makes of the entries of each
module _ {E : Type 0} (lines : Lines E) (put : ℕ → ℕ × E → ℕ × ℕ) where
  abbrev pub on_line : ℕ → List (ℕ × ℕ)
  on_line line = map (put line) (line_entries lines line)

  -- those of the lines from `start` to the one before `line`
  abbrev pub on_lines : ℕ → ℕ → List (ℕ × ℕ)
  on_lines start line = flat_map on_line (range_with_len start (line - start))

  pub none_yet : (start : ℕ) → on_lines start start ≡ []
  none_yet start = let none : start - start ≡ 0 = omega arith in ap
      (λ n. flat_map on_line (range_with_len start n)) none

  lines_more : (start line : ℕ) → start ≤ line → on_lines start (line + 1) ≡ on_lines start line ++ on_line line
  lines_more start line order =
      let next : line + 1 - start ≡ suc (line - start) = omega arith in
      let last : start + (line - start) ≡ line = omega arith in
      ap (λ n. flat_map on_line (range_with_len start n)) next
      ∙ ap (flat_map on_line) (range_more start (line - start)
      ∙ ap (λ k. range_with_len start (line - start) ++ k ∷ []) last)
      ∙ flat_map-append on_line (range_with_len start (line - start)) (line ∷ [])
      ∙ ap (λ ps. on_lines start line ++ ps) (append-nil (on_line line))

  -- what is left of a line
  pub record IsLineLeft (start line : ℕ) (places : List (ℕ × ℕ)) (left : List (ℕ × E)) : Type 0 where
    pub held : (entry : ℕ × E) → Contains left entry → Contains (line_entries lines line) entry
    pub all : places ++ map (put line) left ≡ on_lines start (line + 1)

  pub line_begins : (start line : ℕ) (places : List (ℕ × ℕ)) (left : List (ℕ × E)) → start ≤ line
      → places ≡ on_lines start line
      → left ≡ line_entries lines line → IsLineLeft start line places left
  line_begins start line places left order so_far same = record {
    held = λ entry has. subst (λ es. Contains es entry) same has;
    all = ap (λ ps. ps ++ map (put line) left) so_far ∙ ap (λ es. on_lines start line ++ map (put line) es) same
        ∙ sym (lines_more start line order);
  }

  pub left_first : (start line : ℕ) (places : List (ℕ × ℕ)) (left rest : List (ℕ × E)) (entry : ℕ × E)
      → IsLineLeft start line places left
      → left ≡ entry ∷ rest → Contains (line_entries lines line) entry
  left_first start line places left rest entry is steps = is.held entry
      (subst (λ es. Contains es entry) (sym steps) (0, omega arith, refl))

  pub line_goes_on : (start line : ℕ) (places after : List (ℕ × ℕ)) (left rest : List (ℕ × E)) (entry : ℕ × E)
      (place : ℕ × ℕ)
      → IsLineLeft start line places left → left ≡ entry ∷ rest → place ≡ put line entry → after ≡ places ++ place ∷ []
      → IsLineLeft start line after rest
  line_goes_on start line places after left rest entry place is steps same pushed = record {
    held = λ e has. is.held e (subst (λ es. Contains es e) (sym steps) (Contains-cons entry e rest has));
    all = ap (λ ps. ps ++ map (put line) rest) pushed
        ∙ append_assoc places (place ∷ []) (map (put line) rest)
        ∙ ap (λ p. places ++ p ∷ map (put line) rest) same
        ∙ ap (λ es. places ++ map (put line) es) (sym steps) ∙ is.all;
  }

  pub line_ends : (start line : ℕ) (places : List (ℕ × ℕ)) (left : List (ℕ × E))
      → IsLineLeft start line places left → left ≡ []
      → places ≡ on_lines start (line + 1)
  line_ends start line places left is empty =
      sym (append-nil places) ∙ ap (λ es. places ++ map (put line) es) (sym empty) ∙ is.all

  -- places of different lines differ, where each has its line's number
  pub distinct_lines : (line_is : ℕ × ℕ → ℕ) → ((line : ℕ) (entry : ℕ × E) → line_is (put line entry) ≡ line)
      → ((one other : ℕ × ℕ) → line_is one ≢ line_is other → eq_by_cmp by_rows one other ≡ false)
      → ((line : ℕ) → IsDistinct (eq_by_cmp by_rows) (on_line line))
      → (some : List ℕ) → IsDistinct nat_eq some → IsDistinct (eq_by_cmp by_rows) (flat_map on_line some)
  distinct_lines line_is is differ each [] apart = IsDistinct-none (eq_by_cmp by_rows)
  distinct_lines line_is is differ each (line ∷ some) apart =
      IsDistinct-append (eq_by_cmp by_rows) (on_line line) (flat_map on_line some) (each line)
      (distinct_lines line_is is differ each some (IsDistinct-tail nat_eq line some apart)) (λ x y one two.
      let first = Contains-map_from (put line) (line_entries lines line) x one in
      let later = Contains-flat_map_from on_line some y two in
      let second = Contains-map_from (put later.0) (line_entries lines later.0) y later.2 in
      differ x y (λ same.
      false≢true (sym (from_each (λ k. nat_eq line k ≡ false) some (IsDistinct-head nat_eq line some apart) later.0
      later.1)
      ∙ eq-eqb line later.0 (sym (is line first.0) ∙ ap line_is first.2 ∙ same ∙ ap line_is (sym second.2)
      ∙ is later.0 second.0))))

-- where a line stands, as it was noted for its list
module _ {E : Type 0} (lines : Lines E) (are : AreLines lines) (positions : List ℕ)
    (told : ArePositions lines positions)
    (list line : ℕ) (there : line < lines.count) (is : list ≡ list_of lines line) where
  pub list_noted : list < length positions
  list_noted =
      let inside = list_within lines are line (omega (arith, there, are.count)) in
      omega (arith, is, inside, links_as_lists lines are, told.long)

  pub place_told : get_or positions list 0 ≡ place_in lines list
  place_told = ap (λ k. get_or positions k 0) is ∙ told.each line there ∙ sym (place_is lines are list line there is)

  pub place_read : (read : ℕ) → read ≡ get_or positions list read → read ≡ place_in lines list
  place_read read at = at ∙ get_or_default_zero positions list read list_noted ∙ place_told

module _ {T : Type 0} (cells : Cells T) (are : IsGrid cells) where
  -- the row of an entry of a column's list
  pub has_row : (list node : ℕ) (link : Link) → Contains (entries_of cells.columns.links list) (node, link)
      → (row : ℕ) × (row < cells.rows.count) × (link.row ≡ list_of cells.rows row)
  has_row list node link has =
      let held = are.crossed.in_row list node link has in
      let line = line_of cells.rows are.rows_are link.row
      (link.row_node, record { item = held.0; column = list; column_node = node }) held.1 in
      (line.0, line.1, sym line.2)

  -- the cell of an entry has its item in the sheet
  row_filled : (row : ℕ) (entry : ℕ × Cell T) → row < cells.rows.count → Contains (line_entries cells.rows row) entry
      → IsSome (entry_at (sheet_items cells) (in_row cells row entry))
  row_filled row entry there has =
      let its = has_column cells are (list_of cells.rows row) entry.0 entry.1 has in
      let is = item_from cells are row its.0 entry.0 entry.1
      (record { there = (there, its.1); stands = has; column_is = its.2 }) in
      subst (λ k. IsSome (entry_at (sheet_items cells) (row, k)))
      (sym (column_is cells are entry.1 its.0 its.1 its.2)) (ap is_some is)

  -- the entry of a column's list that a cell is linked to
  link_of : (row column node : ℕ) (cell : Cell T) → IsCellAt cells row column node cell
      → Contains (line_entries cells.columns column)
      (cell.column_node, record { row = list_of cells.rows row; row_node = node })
  link_of row column node cell at =
      subst (λ list. Contains (entries_of cells.columns.links list)
      (cell.column_node, record { row = list_of cells.rows row; row_node = node })) at.column_is
      (are.crossed.in_column (list_of cells.rows row) node cell at.stands)

  row_place : (list row : ℕ) → row < cells.rows.count → list ≡ list_of cells.rows row → place_in cells.rows list ≡ row
  row_place = place_is cells.rows are.rows_are

  column_filled : (column : ℕ) (entry : ℕ × Link) → column < cells.columns.count
      → Contains (line_entries cells.columns column) entry
      → IsSome (entry_at (sheet_items cells) (in_column cells column entry))
  column_filled column entry there has =
      let held = are.crossed.in_row (list_of cells.columns column) entry.0 entry.1 has in
      let its = has_row (list_of cells.columns column) entry.0 entry.1 has in
      let cell : Cell T = record { item = held.0; column = list_of cells.columns column; column_node = entry.0 } in
      let is = item_from cells are its.0 column entry.1.row_node cell (record {
        there = (its.1, there);
        stands = subst (λ list. Contains (entries_of cells.rows.links list) (entry.1.row_node, cell)) its.2 held.1;
        column_is = refl;
      }) in
      subst (λ k. IsSome (entry_at (sheet_items cells) (k, column)))
      (sym (row_place entry.1.row its.0 its.1 its.2)) (ap is_some is)

  -- cells of one line stand on other lines of their own
  distinct_on_row : (row : ℕ) → IsDistinct (eq_by_cmp by_rows) (on_line cells.rows (in_row cells) row)
  distinct_on_row row =
      IsDistinct-map nat_eq (eq_by_cmp by_rows) (λ (e : ℕ × Cell T). e.1.column) (in_row cells row)
      (line_entries cells.rows row)
      (are.crossed.one_cell (list_of cells.rows row)) (λ x y one two apart.
      other_column row (place_in cells.columns x.1.column) (place_in cells.columns y.1.column) (λ same.
      let first = has_column cells are (list_of cells.rows row) x.0 x.1 one in
      let second = has_column cells are (list_of cells.rows row) y.0 y.1 two in
      let equal : first.0 ≡ second.0 = sym (column_is cells are x.1 first.0 first.1 first.2) ∙ same
      ∙ column_is cells are y.1 second.0 second.1 second.2 in
      false≢true (sym apart ∙ eq-eqb x.1.column y.1.column
      (first.2 ∙ ap (list_of cells.columns) equal ∙ sym second.2))))

  distinct_on_column : HasNodesOnce cells.columns.links → (column : ℕ)
      → IsDistinct (eq_by_cmp by_rows) (on_line cells.columns (in_column cells) column)
  distinct_on_column once column =
      let list = list_of cells.columns column in
      IsDistinct-map nat_eq (eq_by_cmp by_rows) (λ (e : ℕ × Link). e.0) (in_column cells column)
      (line_entries cells.columns column)
      (once.distinct list) (λ x y one two apart.
      other_row (in_column cells column x) (in_column cells column y) (λ same.
      let first = has_row list x.0 x.1 one in
      let second = has_row list y.0 y.1 two in
      let equal : first.0 ≡ second.0 = sym (row_place x.1.row first.0 first.1 first.2) ∙ same
      ∙ row_place y.1.row second.0 second.1 second.2 in
      let held = are.crossed.in_row list x.0 x.1 one in
      let other = are.crossed.in_row list y.0 y.1 two in
      let rows_same : y.1.row ≡ x.1.row = second.2 ∙ ap (list_of cells.rows) (sym equal) ∙ sym first.2 in
      let one_is : Cell T = record { item = held.0; column = list; column_node = x.0 } in
      let other_is : Cell T = record { item = other.0; column = list; column_node = y.0 } in
      let is = one_cell (entries_of cells.rows.links x.1.row) (x.1.row_node, one_is) (y.1.row_node, other_is)
      (are.crossed.one_cell x.1.row)
      held.1 (subst (λ k. Contains (entries_of cells.rows.links k) (y.1.row_node, other_is)) rows_same other.1) refl in
      false≢true (sym apart ∙ eq-eqb x.0 y.0 (ap (λ (e : ℕ × Cell T). e.1.column_node) is))))

  -- what was gathered of rows, and of columns
  pub rows_gathered : (start end : ℕ) (places : List (ℕ × ℕ)) → start ≤ end → end ≤ cells.rows.count
      → places ≡ on_lines cells.rows (in_row cells) start end
      → ArePlacesOn Rows start end cells places
  rows_gathered start end places order inside same = subst (ArePlacesOn Rows start end cells) (sym same) (record {
    distinct = distinct_lines cells.rows (in_row cells) (λ place. place.0) (λ row entry. refl)
        (λ one other differs. other_row one other differs) distinct_on_row
        (range_with_len start (end - start)) (IsDistinct-range start (end - start));
    only = λ place has.
        let of_row = Contains-flat_map_from (on_line cells.rows (in_row cells))
        (range_with_len start (end - start)) place has in
        let entry = Contains-map_from (in_row cells of_row.0) (line_entries cells.rows of_row.0) place of_row.2 in
        let high = range_high start (end - start) of_row.0 of_row.1 in
        subst (λ p. IsSome (entry_at (sheet_items cells) p)) entry.2
        (row_filled of_row.0 entry.0 (omega (arith, high)) entry.1);
    all = λ place low high some.
        let item = some_item (entry_at (sheet_items cells) place) some in
        let held = cell_from cells are place.0 place.1 item.0 item.1 in
        Contains-flat_map (on_line cells.rows (in_row cells)) (range_with_len start (end - start)) place.0 place
        (range_has start (end - start) place.0 low (omega arith))
        (subst (Contains (on_line cells.rows (in_row cells) place.0))
        (λ i. (place.0, column_is cells are held.1 place.1 held.2.there.1 held.2.column_is i))
        (Contains-map (in_row cells place.0) (line_entries cells.rows place.0) (held.0, held.1) held.2.stands));
  })

  pub columns_gathered : HasNodesOnce cells.columns.links → (start end : ℕ) (places : List (ℕ × ℕ)) → start ≤ end
      → end ≤ cells.columns.count
      → places ≡ on_lines cells.columns (in_column cells) start end → ArePlacesOn Columns start end cells places
  columns_gathered once start end places order inside same = subst (ArePlacesOn Columns start end cells) (sym same)
      (record {
        distinct = distinct_lines cells.columns (in_column cells) (λ place. place.1) (λ column entry. refl)
            apart_columns (distinct_on_column once)
            (range_with_len start (end - start)) (IsDistinct-range start (end - start));
        only = λ place has.
            let of_column = Contains-flat_map_from (on_line cells.columns (in_column cells))
            (range_with_len start (end - start)) place has in
            let entry = Contains-map_from (in_column cells of_column.0) (line_entries cells.columns of_column.0) place
            of_column.2 in
            let high = range_high start (end - start) of_column.0 of_column.1 in
            subst (λ p. IsSome (entry_at (sheet_items cells) p)) entry.2
            (column_filled of_column.0 entry.0 (omega (arith, high)) entry.1);
        all = λ place low high some.
            let item = some_item (entry_at (sheet_items cells) place) some in
            let held = cell_from cells are place.0 place.1 item.0 item.1 in
            let link : Link = record { row = list_of cells.rows place.0; row_node = held.0 } in
            Contains-flat_map (on_line cells.columns (in_column cells)) (range_with_len start (end - start)) place.1
            place (range_has start (end - start) place.1 low (omega arith))
            (subst (Contains (on_line cells.columns (in_column cells) place.1))
            (λ i. (row_place (list_of cells.rows place.0) place.0 held.2.there.0 refl i, place.1))
            (Contains-map (in_column cells place.1) (line_entries cells.columns place.1) (held.1.column_node, link)
            (link_of place.0 place.1 held.0 held.1 held.2)));
      })

-- those of the lines of an area have its filled places
pub places_of_area : {T : Type 0} (cells : Cells T) (are : IsGrid cells) (area : Area) (axis : Axis)
    (start end : ℕ) (places : List (ℕ × ℕ))
    → ((line : ℕ) → line < lines_on axis cells.rows.count cells.columns.count → HasLine (band_on axis area) line
    → (start ≤ line) × (line < end))
    → ArePlacesOn axis start end cells places → HasPlacesOf cells area places
places_of_area cells are area Rows start end places covers on = record {
  distinct = on.distinct;
  exactly = λ row col holds. (
    on.only (row, col),
    (λ some.
        let item = some_item (entry_at (sheet_items cells) (row, col)) some in
        let there = (cell_from cells are row col item.0 item.1).2.there in
        let here = covers row there.0 holds.0 in
        on.all (row, col) here.0 here.1 some),
  );
}
places_of_area cells are area Columns start end places covers on = record {
  distinct = on.distinct;
  exactly = λ row col holds. (
    on.only (row, col),
    (λ some.
        let item = some_item (entry_at (sheet_items cells) (row, col)) some in
        let there = (cell_from cells are row col item.0 item.1).2.there in
        let here = covers col there.1 holds.1 in
        on.all (row, col) here.0 here.1 some),
  );
}
