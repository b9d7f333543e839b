-- A write of one cell follows by names.
use Rattle.std.proofs.Common.{◌≡◌, ℕ, refl, sym, ap, subst, ◌∙◌, List, [], ◌∷◌, cond, Bool, true, false, length, inl, inr, ◌<◌, suc, arith}
use Rattle.std.specs.Prelude.{Option, None, Some, IfSome, map, slice_get, ◌==◌, ◌&&◌, Contains}
use Rattle.std.specs.List.{All, AllZip}
use Rattle.std.specs.Option.{option_map}
use Rattle.std.specs.Ordering.{eq_by_cmp}
use Rattle.std.proofs.lemmas.Bool.{cases_Bool, eqb-true, eq-eqb, and_parts, false≢true, false_from_ne_true}
use Rattle.std.proofs.lemmas.Option.{same_Some, slice_get_within}
use Rattle.grid_range.specs.Order.{IsOrder}
use Rattle.grid_range.specs.declared.axis.Axis.{Axis}
use Rattle.grid_range.specs.declared.axis.Axis.TheVariants.{Rows, Columns}
use Rattle.grid_range.specs.Area.{by_rows}
use Rattle.cell_store.specs.Table.{HasPlace, item_at}
use Rattle.ref_rewrite.specs.declared.cell_content.Content.{Content}
use Rattle.world_model.specs.Content.{NameContent, content_named}
use Rattle.world_model.specs.Filters.{filter_named}
use Rattle.world_model.specs.Metadata.{item_named}
use Rattle.world_model.specs.Protections.{protection_named}
use Rattle.world_model.specs.Ranges.{range_named}
use Rattle.world_model.specs.Sheet.{NameSheet, PlaceSheet, lines_of}
use Rattle.world_model.specs.Area.{area_named}
use Rattle.world_model.specs.Book.{NameBook, PlaceBook, orders_of, sheet_with}
use Rattle.world_model.specs.StandsFor.{SheetStandsFor, BookStandsFor}
use Rattle.world_model.specs.Writing.{cells_written, sheet_written, book_written, table_written, sheet_put, book_put}
use Rattle.world_model.specs.Sound.{IsContentWithin, place_sheet_with}
use Rattle.world_model.proofs.Puts.{SameSheet, put_is_same, item_written, item_chosen, same_place}
use Rattle.world_model.proofs.StillStands.{merges_stand}
use Rattle.world_model.proofs.WrittenSound.{stays_sound}
use Rattle.world_model.proofs.Found.{IsOwn, own_sheets, holds_if_found}
use Rattle.world_model.proofs.Lines.{KeepsLines, orders_stay_same, lines_there, line_has_one_place, listed}

-- two lines of an order are one exactly where their places are
same_line : (order : List ℕ) (i j n m : ℕ) → IsOrder order → slice_get order i ≡ Some n → slice_get order j ≡ Some m
    → (m == n) ≡ (j == i)
same_line order i j n m distinct at_i at_j = elim (cases_Bool (j == i)) [
  | inl same ↦
      let one : j ≡ i = eqb-true j i same in
      let held : Some m ≡ Some n = sym at_j ∙ ap (slice_get order) one ∙ at_i in
      eq-eqb m n (same_Some m n held) ∙ sym same
  | inr other ↦ false_from_ne_true (m == n) (λ is.
      let held : slice_get order j ≡ Some n = at_j ∙ ap Some (eqb-true m n is) in
      let one : j ≡ i = line_has_one_place order j i n distinct held at_i in
      false≢true (sym other ∙ eq-eqb j i one)) ∙ sym other
]

-- what stands at a place after a write, by places and by names
moved_over : (f : Content → NameContent) (is is' : Bool) (content held : Option Content) (held' : Option NameContent)
    → is' ≡ is → held' ≡ option_map f held
    → cond is' (option_map f content) held' ≡ option_map f (cond is content held)
moved_over f true true content held held' same is = refl
moved_over f true false content held held' same is = absurd (false≢true same)
moved_over f false true content held held' same is = absurd (false≢true (sym same))
moved_over f false false content held held' same is = is

-- the cells of a sheet that may be written
pub cells_chosen : (b : Bool) (names : NameSheet) (cells : ℕ → ℕ → Option NameContent) (r c : ℕ)
    → (cond b (record names { cells = cells }) names).cells r c ≡ cond b (cells r c) (names.cells r c)
cells_chosen true names cells r c = refl
cells_chosen false names cells r c = refl

pub record SameNames (one other : NameSheet) : Type 0 where
  pub id : one.id ≡ other.id
  pub title : one.title ≡ other.title
  pub hidden : one.hidden ≡ other.hidden
  pub rows : one.rows ≡ other.rows
  pub cols : one.cols ≡ other.cols
  pub merges : one.merges ≡ other.merges
  pub filter : one.filter ≡ other.filter

pub written_is_same : (b : Bool) (names : NameSheet) (cells : ℕ → ℕ → Option NameContent)
    → SameNames (cond b (record names { cells = cells }) names) names
written_is_same true names cells = record {
  id = refl;
  title = refl;
  hidden = refl;
  rows = refl;
  cols = refl;
  merges = refl;
  filter = refl;
}
written_is_same false names cells = record {
  id = refl;
  title = refl;
  hidden = refl;
  rows = refl;
  cols = refl;
  merges = refl;
  filter = refl;
}

pub same_lines : (one other : NameSheet) (axis : Axis) → SameNames one other → lines_of one axis ≡ lines_of other axis
same_lines one other Rows same = same.rows
same_lines one other Columns same = same.cols

-- a write of no cell of the sheet leaves it
not_there : (b is : Bool) (content held : Option NameContent) → (b ≡ true → is ≡ false) → held ≡ None
    → cond b (cond is content held) held ≡ None
not_there false is content held other none = none
not_there true true content held other none = absurd (false≢true (sym (other refl)))
not_there true false content held other none = none

-- at each place, what a write makes
at_place : (f : Content → NameContent) (b b' is is' : Bool) (content held : Option Content) (held' : Option NameContent)
    → b' ≡ b → (b ≡ true → is' ≡ is) → held' ≡ option_map f held
    → cond b' (cond is' (option_map f content) held') held' ≡ option_map f (cond b (cond is content held) held)
at_place f true true is is' content held held' same there one = moved_over f is is' content held held' (there refl) one
at_place f true false is is' content held held' same there one = absurd (false≢true same)
at_place f false true is is' content held held' same there one = absurd (false≢true (sym same))
at_place f false false is is' content held held' same there one = one

module _ (sheets : List NameSheet) (id row col r c : ℕ) (content : Option Content) where
  abbrev named : Content → NameContent
  named = content_named (orders_of sheets)

  abbrev after : NameSheet → NameSheet
  after = sheet_written id r c (option_map named content)

  abbrev put : PlaceSheet → PlaceSheet
  put = sheet_put id row col content

  after_same : (names : NameSheet) → SameNames (after names) names
  after_same names = written_is_same (names.id == id) names (cells_written r c (option_map named content) names.cells)

  put_same : (sheet : PlaceSheet) → SameSheet (put sheet) sheet
  put_same sheet = put_is_same (sheet.id == id) row col content sheet

  keeps : KeepsLines after
  keeps = record {
    id = λ names. (after_same names).id;
    lines = λ names axis. same_lines (after names) names axis (after_same names);
  }

  same_orders : orders_of (map after sheets) ≡ orders_of sheets
  same_orders = orders_stay_same after keeps sheets

  module _ (at_row : slice_get (orders_of sheets id Rows) row ≡ Some r)
      (at_col : slice_get (orders_of sheets id Columns) col ≡ Some c) where
    -- the lines of the sheet that is written
    own_lines : (names : NameSheet) (axis : Axis) → sheet_with names.id sheets ≡ Some names → (names.id == id) ≡ true
        → orders_of sheets id axis ≡ lines_of names axis
    own_lines names axis own is =
        ap (λ n. orders_of sheets n axis) (sym (eqb-true names.id id is)) ∙ lines_there sheets names.id axis names own

    row_there : (names : NameSheet) → sheet_with names.id sheets ≡ Some names → (names.id == id) ≡ true
        → slice_get names.rows row ≡ Some r
    row_there names own is = ap (λ order. slice_get order row) (sym (own_lines names Rows own is)) ∙ at_row

    col_there : (names : NameSheet) → sheet_with names.id sheets ≡ Some names → (names.id == id) ≡ true
        → slice_get names.cols col ≡ Some c
    col_there names own is = ap (λ order. slice_get order col) (sym (own_lines names Columns own is)) ∙ at_col

    same_cell : (sheet : PlaceSheet) (names : NameSheet) → SheetStandsFor sheets sheet names → IsOwn sheets names
        → (row' col' r' c' : ℕ) → slice_get names.rows row' ≡ Some r' → slice_get names.cols col' ≡ Some c'
        → (names.id == id) ≡ true
        → (r' == r && c' == c) ≡ eq_by_cmp by_rows (row', col') (row, col)
    same_cell sheet names stands own row' col' r' c' at_row' at_col' is =
        ap (λ b. b && (c' == c))
        (same_line names.rows row row' r r' stands.distinct_rows (row_there names own is) at_row')
        ∙ ap (λ b. (row' == row) && b)
        (same_line names.cols col col' c c' stands.distinct_cols (col_there names own is) at_col')
        ∙ sym (same_place row col row' col')

    -- the cell that is written is one of the sheet
    elsewhere : (sheet : PlaceSheet) (names : NameSheet) → SheetStandsFor sheets sheet names → IsOwn sheets names
        → (r' c' : ℕ) → ¬ (Contains names.rows r' × Contains names.cols c') → (names.id == id) ≡ true
        → (r' == r && c' == c) ≡ false
    elsewhere sheet names stands own r' c' out is = false_from_ne_true (r' == r && c' == c) (λ both.
        let parts = and_parts (r' == r) (c' == c) both in
        out (
          subst (Contains names.rows) (sym (eqb-true r' r parts.0)) (listed names.rows row r (row_there names own is)),
          subst (Contains names.cols) (sym (eqb-true c' c parts.1)) (listed names.cols col c (col_there names own is)),
        ))

    pub sheet_follows : (sheet : PlaceSheet) (names : NameSheet) → SheetStandsFor sheets sheet names
        → IsOwn sheets names
        → SheetStandsFor (map after sheets) (put sheet) (after names)
    sheet_follows sheet names stands own = record {
      id = (put_same sheet).id ∙ stands.id ∙ sym (after_same names).id;
      title = (put_same sheet).title ∙ stands.title ∙ sym (after_same names).title;
      hidden = (put_same sheet).hidden ∙ stands.hidden ∙ sym (after_same names).hidden;
      distinct_rows = subst IsOrder (sym (after_same names).rows) stands.distinct_rows;
      distinct_cols = subst IsOrder (sym (after_same names).cols) stands.distinct_cols;
      rows = (put_same sheet).rows ∙ stands.rows ∙ ap length (sym (after_same names).rows);
      cols = (put_same sheet).cols ∙ stands.cols ∙ ap length (sym (after_same names).cols);
      cells = λ row' col' r' c' at_row' at_col'.
          let there_row : slice_get names.rows row' ≡ Some r' =
          ap (λ order. slice_get order row') (sym (after_same names).rows) ∙ at_row' in
          let there_col : slice_get names.cols col' ≡ Some c' =
          ap (λ order. slice_get order col') (sym (after_same names).cols) ∙ at_col' in
          cells_chosen (names.id == id) names (cells_written r c (option_map named content) names.cells) r' c'
          ∙ at_place named (sheet.id == id) (names.id == id) (eq_by_cmp by_rows (row', col') (row, col))
          (r' == r && c' == c) content (item_at sheet.table row' col') (names.cells r' c')
          (ap (λ n. n == id) (sym stands.id))
          (λ is. same_cell sheet names stands own row' col' r' c' there_row there_col
          (ap (λ n. n == id) (sym stands.id) ∙ is))
          (stands.cells row' col' r' c' there_row there_col)
          ∙ ap (λ item. option_map named (cond (sheet.id == id) item (item_at sheet.table row' col')))
          (sym (item_written row col content sheet.table row' col'))
          ∙ ap (option_map named) (sym (item_chosen (sheet.id == id) sheet
          (table_written row col content sheet.table) row' col'))
          ∙ ap (λ orders. option_map (content_named orders) (item_at (put sheet).table row' col')) (sym same_orders);
      nowhere_else = λ r' c' out.
          let gone : ¬ (Contains names.rows r' × Contains names.cols c') = λ both.
          out (
            subst (λ order. Contains order r') (sym (after_same names).rows) both.0,
            subst (λ order. Contains order c') (sym (after_same names).cols) both.1,
          ) in
          cells_chosen (names.id == id) names (cells_written r c (option_map named content) names.cells) r' c'
          ∙ not_there (names.id == id) (r' == r && c' == c) (option_map named content) (names.cells r' c')
          (elsewhere sheet names stands own r' c' gone) (stands.nowhere_else r' c' gone);
      merges = merges_stand (orders_of sheets) (orders_of (map after sheets)) sheet.merges (put sheet).merges
          names.merges (after names).merges (after_same names).merges
          (ap (λ orders. map (area_named orders) sheet.merges) (sym same_orders)
          ∙ ap (map (area_named (orders_of (map after sheets)))) (sym (put_same sheet).merges)) stands.merges;
      filter = (after_same names).filter ∙ stands.filter
          ∙ ap (λ orders. option_map (filter_named orders) sheet.filter) (sym same_orders)
          ∙ ap (option_map (filter_named (orders_of (map after sheets)))) (sym (put_same sheet).filter);
    }

    sheets_follow : (some : List PlaceSheet) (names : List NameSheet) → AllZip (SheetStandsFor sheets) some names
        → All (IsOwn sheets) names → AllZip (SheetStandsFor (map after sheets)) (map put some) (map after names)
    sheets_follow [] [] all own = tt
    sheets_follow [] (n ∷ ns) all own = absurd all
    sheets_follow (s ∷ ss) [] all own = absurd all
    sheets_follow (s ∷ ss) (n ∷ ns) all own = (
      sheet_follows s n all.0 (own 0 n (omega arith)),
      sheets_follow ss ns all.1 (λ k d there. own (suc k) d (omega arith)),
    )

-- the place of the cell is there
place_there : (some : List PlaceSheet) (names : List NameSheet) (id row col r c : ℕ)
    → AllZip (SheetStandsFor names) some names
    → slice_get (orders_of names id Rows) row ≡ Some r → slice_get (orders_of names id Columns) col ≡ Some c
    → IfSome (place_sheet_with id some) (λ sheet. HasPlace sheet.table row col)
place_there some names id row col r c all at_row at_col =
    holds_if_found names (λ sheet. HasPlace sheet.table row col) id some names all (λ one other found stands. (
      subst (λ n. row < n) (ap length (lines_there names id Rows other found) ∙ sym stands.rows)
          (slice_get_within (orders_of names id Rows) row r at_row),
      subst (λ n. col < n) (ap length (lines_there names id Columns other found) ∙ sym stands.cols)
          (slice_get_within (orders_of names id Columns) col c at_col),
    ))

-- the law
pub writes_follow : (book : PlaceBook) (names : NameBook) (id row col r c : ℕ) (content : Option Content)
    → BookStandsFor book names → IfSome content (IsContentWithin book.sheets)
    → slice_get (orders_of names.sheets id Rows) row ≡ Some r
    → slice_get (orders_of names.sheets id Columns) col ≡ Some c
    → BookStandsFor (book_put id row col content book)
    (book_written id r c (option_map (content_named (orders_of names.sheets)) content) names)
writes_follow book names id row col r c content stands within at_row at_col = record {
  sound = stays_sound id row col content book stands.sound within
      (place_there book.sheets names.sheets id row col r c stands.sheets at_row at_col);
  id = stands.id;
  title = stands.title;
  owner = stands.owner;
  sheets = sheets_follow names.sheets id row col r c content at_row at_col book.sheets names.sheets stands.sheets
      (own_sheets book.sheets names.sheets stands.sheets stands.sound.distinct);
  ranges = stands.ranges
      ∙ ap (λ orders. map (range_named orders) book.ranges) (sym (same_orders names.sheets id row col r c content));
  protections = stands.protections
      ∙ ap (λ orders. map (protection_named orders) book.protections)
      (sym (same_orders names.sheets id row col r c content));
  metadata = stands.metadata
      ∙ ap (λ orders. map (item_named orders) book.metadata) (sym (same_orders names.sheets id row col r c content));
}
