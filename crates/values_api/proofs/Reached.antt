-- The cells that a write touches are among those that its values reach, and among those of its area.
use Rattle.std.proofs.Common.{◌≡◌, ℕ, ◌-◌, ◌<◌, ◌≤◌, List, length, cond, Bool, true, false, inl, inr, sym, subst, arith}
use Rattle.std.specs.Prelude.{Option, None, IfSome, IfNone, IsSomeAnd, All, ◌&&◌, not, nat_le, nat_lt}
use Rattle.std.specs.Option.{IsSome}
use Rattle.std.proofs.lemmas.Bool.{and_parts, leb-true, ltb-true}
use Rattle.cell_value.specs.declared.cell.Block.{Block}
use Rattle.grid_range.specs.Area.{AreaWithin, Holds}
use Rattle.grid_range.specs.Band.{first_line, end_line}
use Rattle.grid_range.specs.declared.area.Area.{Area}
use Rattle.merge_ranges.specs.Merges.{is_covered}
use Rattle.protection.specs.Denial.{DeniesOne, IsFirst, ListedCells}
use Rattle.protection.specs.declared.range.Protection.{Protection}
use Rattle.world_model.specs.Book.{PlaceBook}
use Rattle.world_model.specs.Sheet.{PlaceSheet}
use Rattle.world_model.specs.Sound.{place_sheet_with}
use Rattle.values_api.specs.declared.given.Given.{Given}
use Rattle.values_api.specs.Blocks.{AreCells, given_value, input_at, lies_in, longest, written}
use Rattle.values_api.specs.Denials.{AreaCells, FilledCells, HasCellOf, IsDenial, WriteCells}
use Rattle.values_api.specs.FoundLaws.{some_and}
use Rattle.values_api.specs.Given.{IsWithinSheet, area_reached, first_row, first_col, value_by, value_uncovered}
use Rattle.values_api.specs.Ranges.{IsThere}
use Rattle.values_api.specs.Rest.{is_reached}
use Rattle.values_api.specs.Shown.{cell_along}
use Rattle.values_api.proofs.Covering.{line_short}
use Rattle.values_api.proofs.Denying.{AreAmong, denial_is, denial_of_fewer, found_on, listed_is_written, on_found}
use Rattle.values_api.proofs.Ends.{end_small}
use Rattle.values_api.proofs.GivenCells.{has_value, made_from, made_inside, pair, some_where}
use Rattle.values_api.proofs.Resting.{has_between}

-- ---- the cells that values reach

-- a line and a place among those that are needed are a row and a column among those
needed : (columns : Bool) (row col lines long : ℕ) → (cell_along columns pair row col).0 < lines
    → (cell_along columns pair row col).1 < long → (row < cond columns long lines) × (col < cond columns lines long)
needed true row col lines long few short = (short, few)
needed false row col lines long few short = (few, short)

-- a cell with a value is among those that the values reach
reached : (given : Given) (row col : ℕ) → IsSome (value_by given row col) → Holds (area_reached given) row col
reached given row col some =
    let inside = made_inside given row col some in
    let from = made_from given row col some in
    let row_at = row - first_row given in
    let col_at = col - first_col given in
    let line = (cell_along given.block.now.columns_first pair row_at col_at).0 in
    let far = line_short given line in
    let short = from.1 in
    let need = needed given.block.now.columns_first row_at col_at (length given.block.now.values)
    (longest given.block.now.values) from.0 (omega (arith, short, far)) in
    let rows = need.0 in
    let cols = need.1 in
    let row_from = inside.row_from in
    let row_to = inside.row_to in
    let col_from = inside.col_from in
    let col_to = inside.col_to in (
      (row_from, omega (arith, rows, row_from, row_to)),
      (col_from, omega (arith, cols, col_from, col_to)),
    )

module _ (user : List ℕ) (given : Given) (one_cell : Bool) (book : PlaceBook)
    (within : IsWithinSheet book.sheets given)
    (is : IsSomeAnd (place_sheet_with given.area.now.sheet book.sheets)
    (λ sheet. value_uncovered sheet.merges given ≡ written one_cell given.area.now given.block.now sheet)) where
  abbrev Touched : ℕ → ℕ → ℕ → Type 0
  Touched = WriteCells book.sheets one_cell given.area.now given.block.now

  among_reached : AreAmong Touched (AreaCells book.sheets (area_reached given))
  among_reached id row col (same, wrote) =
      let (sheet, there, values_are) = some_and (λ (sheet : PlaceSheet).
      value_uncovered sheet.merges given ≡ written one_cell given.area.now given.block.now sheet)
      (place_sheet_with given.area.now.sheet book.sheets) is in
      let ends = on_found book.sheets given.area.now.sheet sheet there
      (λ sheet. (given.end_row ≤ sheet.table.rows) × (given.end_col ≤ sheet.table.cols)) within in
      let some = has_value given sheet.merges row col (subst (λ (values : ℕ → ℕ → Option _). IsSome (values row col))
      (sym values_are)
      (on_found book.sheets given.area.now.sheet sheet there
      (λ sheet. IsSome (written one_cell given.area.now given.block.now sheet row col)) wrote)) in
      let inside = made_inside given row col some in
      let row_to = inside.row_to in
      let col_to = inside.col_to in (
        same,
        found_on book.sheets given.area.now.sheet sheet there (λ found. HasCellOf (area_reached given) found row col)
            (reached given row col some, omega (arith, row_to, ends.0), omega (arith, col_to, ends.1)),
      )

  -- where none of the cells that the values reach is denied, none is that is written
  pub none_reached : (found : Option ℕ) → found ≡ None
      → IsDenial user book (AreaCells book.sheets (area_reached given)) found → IsDenial user book Touched None
  none_reached found none denied =
      denial_of_fewer user book Touched (AreaCells book.sheets (area_reached given)) among_reached
      (subst (IsDenial user book (AreaCells book.sheets (area_reached given))) none denied)

  -- what is told of the cells that are listed is told of those that are written
  pub listed_denied : (owner : List ℕ) (protections : List Protection) → owner ≡ book.owner
      → protections ≡ book.protections → (cells : List (ℕ × ℕ))
      → IsSomeAnd (place_sheet_with given.area.now.sheet book.sheets)
      (λ sheet. AreCells (value_uncovered sheet.merges given) cells) → (found : Option ℕ)
      → IfSome found (IsFirst (DeniesOne user owner (ListedCells given.area.now.sheet cells)) protections)
      → IfNone found (All (λ one. ¬ (DeniesOne user owner (ListedCells given.area.now.sheet cells) one)) protections)
      → IsDenial user book Touched found
  listed_denied owner protections owner_is protections_are cells listed found first none =
      let (sheet, there, values_are) = some_and (λ (sheet : PlaceSheet).
      value_uncovered sheet.merges given ≡ written one_cell given.area.now given.block.now sheet)
      (place_sheet_with given.area.now.sheet book.sheets) is in
      let are = subst (λ values. AreCells values cells) values_are
      (on_found book.sheets given.area.now.sheet sheet there
      (λ sheet. AreCells (value_uncovered sheet.merges given) cells) listed) in
      listed_is_written user book given.area.now sheet there one_cell given.block.now cells are.exactly found
      (denial_is user book (ListedCells given.area.now.sheet cells)
      (DeniesOne user book.owner (ListedCells given.area.now.sheet cells)) (λ one denies. denies) (λ one denies. denies)
      found
      (subst (λ list. IfSome found (IsFirst (DeniesOne user book.owner (ListedCells given.area.now.sheet cells)) list))
      protections_are
      (subst (λ name. IfSome found (IsFirst (DeniesOne user name (ListedCells given.area.now.sheet cells)) protections))
      owner_is first))
      (subst (λ list. IfNone found
      (All (λ one. ¬ (DeniesOne user book.owner (ListedCells given.area.now.sheet cells) one))
      list)) protections_are
      (subst (λ name. IfNone found (All (λ one. ¬ (DeniesOne user name (ListedCells given.area.now.sheet cells) one))
      protections)) owner_is none)))

-- ---- the cells of the area

written_in : (area : Area) (block : Block) (sheet : PlaceSheet) (row col : ℕ)
    → AreaWithin area sheet.table.rows sheet.table.cols → IsSome (written false area block sheet row col)
    → HasCellOf area sheet row col
written_in area block sheet row col within some =
    let end_row = end_line area.rows sheet.table.rows in
    let end_col = end_line area.cols sheet.table.cols in
    let in_rows = lies_in (first_line area.rows) end_row row in
    let in_cols = lies_in (first_line area.cols) end_col col in
    let lies = some_where (in_rows && in_cols && not (is_covered sheet.merges row col))
    (given_value (input_at block (row - first_line area.rows) (col - first_line area.cols))) some in
    let both =
    and_parts in_rows in_cols (and_parts (in_rows && in_cols) (not (is_covered sheet.merges row col)) lies.0).0 in
    let by_rows = and_parts (nat_le (first_line area.rows) row) (nat_lt row end_row) both.0 in
    let by_cols = and_parts (nat_le (first_line area.cols) col) (nat_lt col end_col) both.1 in
    let row_to = ltb-true row end_row by_rows.1 in
    let col_to = ltb-true col end_col by_cols.1 in
    let few = end_small area.rows sheet.table.rows within.0 in
    let few' = end_small area.cols sheet.table.cols within.1 in (
      (
        has_between area.rows row sheet.table.rows (leb-true (first_line area.rows) row by_rows.0) row_to,
        has_between area.cols col sheet.table.cols (leb-true (first_line area.cols) col by_cols.0) col_to,
      ),
      omega (arith, row_to, few),
      omega (arith, col_to, few'),
    )

among_area : (sheets : List PlaceSheet) (area : Area) (block : Block) → IsThere sheets area
    → AreAmong (FilledCells sheets area block) (AreaCells sheets area)
among_area sheets area block there id row col either =
    let (sheet, is, within) = some_and (λ (sheet : PlaceSheet). AreaWithin area sheet.table.rows sheet.table.cols)
    (place_sheet_with area.sheet sheets) there in
    elim either [
      | inl (same, wrote) ↦ (
        same,
        found_on sheets area.sheet sheet is (λ found. HasCellOf area found row col)
            (written_in area block sheet row col within
            (on_found sheets area.sheet sheet is (λ found. IsSome (written false area block found row col)) wrote)),
      )
      | inr (same, rest) ↦ (
        same,
        found_on sheets area.sheet sheet is (λ found. HasCellOf area found row col)
            (on_found sheets area.sheet sheet is
            (λ found. HasCellOf area found row col × (is_reached area block row col ≡ false)) rest).0,
      )
    ]

-- where no cell of the area is denied, none is that is written or emptied
pub none_filled : (user : List ℕ) (book : PlaceBook) (area : Area) (block : Block) → IsThere book.sheets area
    → (found : Option ℕ) → found ≡ None → IsDenial user book (AreaCells book.sheets area) found
    → IsDenial user book (FilledCells book.sheets area block) None
none_filled user book area block there found none denied =
    denial_of_fewer user book (FilledCells book.sheets area block) (AreaCells book.sheets area)
    (among_area book.sheets area block there)
    (subst (IsDenial user book (AreaCells book.sheets area)) none denied)
