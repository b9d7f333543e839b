-- The sheet that lists of rows and of columns stand for: what it has at a place.
use Rattle.std.proofs.Common.{◌≡◌, ◌≢◌, ℕ, ◌<◌, List, [], ◌∷◌, false, map, refl, sym, ap, subst, ◌∙◌, arith}
use Rattle.std.specs.Prelude.{Some, Contains, nat_eq}
use Rattle.std.specs.Ordering.{eq_by_cmp}
use Rattle.std.specs.List.{IsDistinct, flat_map, range_with_len}
use Rattle.std.specs.Map.{keys_of}
use Rattle.std.proofs.lemmas.Bool.{eq-eqb, false≢true}
use Rattle.std.proofs.lemmas.Bool.Decides.{nat_tests}
use Rattle.std.proofs.lemmas.Cmp.{eq_by_cmp_equiv}
use Rattle.std.proofs.lemmas.List.{map-append}
use Rattle.std.proofs.lemmas.Map.Keys.{IsDistinct-head, IsDistinct-tail}
use Rattle.std.proofs.lemmas.Map.Views.{tells_apart, Contains-from_lookup, lookup-from_Contains}
use Rattle.grid_range.specs.Area.{by_rows}
use Rattle.grid_range.specs.ByRows.{by_rows_total, by_rows_exact}
use Rattle.cell_store.specs.Entries.{entry_at}
use Rattle.link_store.specs.declared.cells.Cell.{Cell}
use Rattle.link_store.specs.declared.cells.Cells.{Cells}
use Rattle.link_store.specs.Lists.{entries_of}
use Rattle.link_store.specs.Lines.{line_entries, list_of}
use Rattle.link_store.specs.Crossings.{IsGrid, IsCellAt, column_of, row_items, sheet_items}
use Rattle.link_store.proofs.Elements.{Contains-flat_map, Contains-flat_map_from}
use Rattle.link_store.proofs.Elements.{Contains-range, Contains-range_from}
use Rattle.cell_value.specs.Elements.{IsDistinct-none, Contains-map, Contains-map_from, from_each, IsDistinct-append}
use Rattle.link_store.proofs.Elements.{IsDistinct-map, IsDistinct-range}
use Rattle.link_store.proofs.LineLists.{line_of, place_is}

-- two places that differ in a column, and in a row
pub other_column : (row one two : ℕ) → one ≢ two → eq_by_cmp by_rows (row, one) (row, two) ≡ false
other_column row one two differs = grind (arith, nat_tests)

pub other_row : (one two : ℕ × ℕ) → one.0 ≢ two.0 → eq_by_cmp by_rows one two ≡ false
other_row one two differs = grind (arith, nat_tests)

module _ {T : Type 0} (cells : Cells T) (are : IsGrid cells) where
  -- the column of a cell
  pub column_is : (cell : Cell T) (column : ℕ) → column < cells.columns.count
      → cell.column ≡ list_of cells.columns column → column_of cells.columns cell ≡ column
  column_is cell = place_is cells.columns are.columns_are cell.column

  -- and there is one
  pub has_column : (list node : ℕ) (cell : Cell T) → Contains (entries_of cells.rows.links list) (node, cell)
      → (column : ℕ) × (column < cells.columns.count) × (cell.column ≡ list_of cells.columns column)
  has_column list node cell has =
      let line = line_of cells.columns are.columns_are cell.column
      (cell.column_node, record { row = list; row_node = node }) (are.crossed.in_column list node cell has) in
      (line.0, line.1, sym line.2)

  -- the item of a cell is the sheet's
  pub cell_listed : (row column node : ℕ) (cell : Cell T) → IsCellAt cells row column node cell
      → Contains (sheet_items cells) ((row, column), cell.item)
  cell_listed row column node cell at =
      Contains-flat_map (row_items cells.rows cells.columns) (range_with_len 0 cells.rows.count) row
      ((row, column), cell.item) (Contains-range cells.rows.count row at.there.0)
      (subst (λ c. Contains (row_items cells.rows cells.columns row) ((row, c), cell.item))
      (column_is cell column at.there.1 at.column_is)
      (Contains-map (λ (entry : ℕ × Cell T). ((row, column_of cells.columns entry.1), entry.1.item))
      (line_entries cells.rows row) (node, cell) at.stands))

  -- and an item of the sheet is that of a cell
  pub listed_cell : (row column : ℕ) (item : T) → Contains (sheet_items cells) ((row, column), item)
      → (node : ℕ) × (cell : Cell T) × IsCellAt cells row column node cell × (cell.item ≡ item)
  listed_cell row column item has =
      let of_row = Contains-flat_map_from (row_items cells.rows cells.columns) (range_with_len 0 cells.rows.count)
      ((row, column), item) has in
      let entry = Contains-map_from (λ (e : ℕ × Cell T). ((of_row.0, column_of cells.columns e.1), e.1.item))
      (line_entries cells.rows of_row.0) ((row, column), item) of_row.2 in
      let its = has_column (list_of cells.rows of_row.0) entry.0.0 entry.0.1 entry.1 in
      let same_row : of_row.0 ≡ row = ap (λ p. p.0.0) entry.2 in
      let same_column : its.0 ≡ column = sym (column_is entry.0.1 its.0 its.1 its.2) ∙ ap (λ p. p.0.1) entry.2 in (
        entry.0.0,
        entry.0.1,
        record {
          there = (
            subst (λ r. r < cells.rows.count) same_row
                (Contains-range_from cells.rows.count of_row.0 of_row.1),
            subst (λ k. k < cells.columns.count)
                same_column its.1,
          );
          stands = subst (λ r. Contains (line_entries cells.rows r) entry.0) same_row entry.1;
          column_is = its.2 ∙ ap (list_of cells.columns) same_column;
        },
        ap (λ p. p.1) entry.2,
      )

  -- cells of one row stand in columns of their own
  distinct_row : (row : ℕ) → IsDistinct (eq_by_cmp by_rows) (keys_of (row_items cells.rows cells.columns row))
  distinct_row row = subst (IsDistinct (eq_by_cmp by_rows)) (keys_row (line_entries cells.rows row))
      (IsDistinct-map nat_eq (eq_by_cmp by_rows) (λ (e : ℕ × Cell T). e.1.column)
      (λ (e : ℕ × Cell T). (row, column_of cells.columns e.1)) (line_entries cells.rows row)
      (are.crossed.one_cell (list_of cells.rows row))
      (λ x y one two apart. other_column row (column_of cells.columns x.1) (column_of cells.columns y.1) (λ same.
      let first = has_column (list_of cells.rows row) x.0 x.1 one in
      let second = has_column (list_of cells.rows row) y.0 y.1 two in
      let equal : first.0 ≡ second.0 = sym (column_is x.1 first.0 first.1 first.2) ∙ same
      ∙ column_is y.1 second.0 second.1 second.2 in
      false≢true (sym apart ∙ eq-eqb x.1.column y.1.column
      (first.2 ∙ ap (list_of cells.columns) equal ∙ sym second.2)))))
    where
      keys_row : (es : List (ℕ × Cell T)) → map {B = ℕ × ℕ} (λ (e : ℕ × Cell T). (row, column_of cells.columns e.1)) es
          ≡ keys_of (map {B = (ℕ × ℕ) × T} (λ (e : ℕ × Cell T). ((row, column_of cells.columns e.1), e.1.item)) es)
      keys_row [] = refl
      keys_row (e ∷ es) = ap (λ ks. (row, column_of cells.columns e.1) ∷ ks) (keys_row es)

  pub distinct_rows : (some : List ℕ) → IsDistinct nat_eq some
      → IsDistinct (eq_by_cmp by_rows) (keys_of (flat_map (row_items cells.rows cells.columns) some))
  distinct_rows [] apart = IsDistinct-none (eq_by_cmp by_rows)
  distinct_rows (row ∷ some) apart =
      subst (IsDistinct (eq_by_cmp by_rows)) (sym
      (map-append (λ e. e.0) (row_items cells.rows cells.columns row)
      (flat_map (row_items cells.rows cells.columns) some)))
      (IsDistinct-append (eq_by_cmp by_rows) (keys_of (row_items cells.rows cells.columns row))
      (keys_of (flat_map (row_items cells.rows cells.columns) some))
      (distinct_row row) (distinct_rows some (IsDistinct-tail nat_eq row some apart)) (λ x y one two.
      let first = row_of row x one in
      let entry = Contains-map_from (λ e. e.0) (flat_map (row_items cells.rows cells.columns) some) y two in
      let of_row = Contains-flat_map_from (row_items cells.rows cells.columns) some entry.0 entry.1 in
      let second = row_of of_row.0 y (subst (Contains (keys_of (row_items cells.rows cells.columns of_row.0)))
      entry.2 (Contains-map (λ e. e.0) (row_items cells.rows cells.columns of_row.0) entry.0 of_row.2)) in
      other_row x y (λ same. false≢true (sym (from_each (λ k. nat_eq row k ≡ false) some
      (IsDistinct-head nat_eq row some apart) of_row.0 of_row.1)
      ∙ eq-eqb row of_row.0 (sym first ∙ same ∙ second)))))
    where
      row_of : (row : ℕ) (place : ℕ × ℕ) → Contains (keys_of (row_items cells.rows cells.columns row)) place
          → place.0 ≡ row
      row_of row place has =
          let entry = Contains-map_from (λ e. e.0) (row_items cells.rows cells.columns row) place has in
          let cell = Contains-map_from (λ (e : ℕ × Cell T). ((row, column_of cells.columns e.1), e.1.item))
          (line_entries cells.rows row) entry.0 entry.1 in
          ap (λ p. p.0) (sym entry.2) ∙ ap (λ p. p.0.0) (sym cell.2)

  pub distinct_items : IsDistinct (eq_by_cmp by_rows) (keys_of (sheet_items cells))
  distinct_items = distinct_rows (range_with_len 0 cells.rows.count) (IsDistinct-range 0 cells.rows.count)

  -- what the sheet has at a place
  pub item_from : (row column node : ℕ) (cell : Cell T) → IsCellAt cells row column node cell
      → entry_at (sheet_items cells) (row, column) ≡ Some cell.item
  item_from row column node cell at =
      lookup-from_Contains (eq_by_cmp_equiv by_rows_total) (row, column) cell.item (sheet_items cells)
      distinct_items (cell_listed row column node cell at)

  pub cell_from : (row column : ℕ) (item : T) → entry_at (sheet_items cells) (row, column) ≡ Some item
      → (node : ℕ) × (cell : Cell T) × IsCellAt cells row column node cell × (cell.item ≡ item)
  cell_from row column item is =
      listed_cell row column item (Contains-from_lookup (tells_apart by_rows_exact) (row, column) item
      (sheet_items cells) is)
