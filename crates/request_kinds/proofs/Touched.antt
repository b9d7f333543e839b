-- Which protected range denies a user one of the cells that a request touches, and what is told then.
use Rattle.std.proofs.Common.{◌≡◌, ◌<◌, ◌-◌, ℕ, Bool, true, false, List, inl, inr, refl, sym, ap, subst, ◌∙◌, arith}
use Rattle.std.specs.Prelude.{◌&&◌, ◌||◌, not, nat_le, nat_lt, if◌then◌else◌, Option, None, Some, IsSomeAnd, Result, Ok, Err}
use Rattle.std.specs.Option.{IsSome, option_map_or}
use Rattle.std.proofs.lemmas.Bool.{false≢true}
use Rattle.std.proofs.lemmas.Bool.Decides.{nat_tests}
use Rattle.cell_value.specs.declared.cell.Block.{Block}
use Rattle.cell_value.specs.declared.entered.Input.{Input}
use Rattle.grid_range.specs.Area.{cut_area}
use Rattle.grid_range.specs.Band.{HasLine, cut_band, end_line, first_line}
use Rattle.grid_range.specs.declared.area.Area.{Area}
use Rattle.grid_range.specs.declared.band.Band.{Band}
use Rattle.grid_range.specs.declared.band.Band.TheVariants.{Whole, From, Span}
use Rattle.merge_ranges.specs.Merges.{is_covered}
use Rattle.protection.specs.Denial.{Cells}
use Rattle.world_model.specs.Book.{PlaceBook}
use Rattle.world_model.specs.BookChange.{BookChange}
use Rattle.world_model.specs.Sheet.{PlaceSheet}
use Rattle.world_model.specs.Sound.{place_sheet_with}
use Rattle.dimension_ops.specs.Broken.{first_broken, unbroken}
use Rattle.dimension_ops.specs.Rules.{IsUnlessNoMemory}
use Rattle.dimension_ops.specs.declared.rule.Rule.{Rule}
use Rattle.dimension_ops.specs.declared.rule.Rule.TheVariants as rule
use Rattle.dimension_ops.specs.declared.rule.RuleOr.{RuleOr}
use Rattle.dimension_ops.specs.declared.rule.RuleOr.TheVariants as refusal
use Rattle.values_api.specs.Blocks.{given_value, input_at, lies_in, written}
use Rattle.values_api.specs.Denials.{FilledCells, HasCellOf, IsDenial, IsUnlessDenied, WriteCells, unless_denied}
use Rattle.values_api.specs.Rest.{is_reached}
use Rattle.json_requests.specs.declared.request.GridCoordinate.{GridCoordinate}
use Rattle.json_requests.specs.declared.request.UpdatedArea.{UpdatedArea}
use Rattle.json_requests.specs.declared.request.UpdatedArea.TheVariants.{Start, Range}
use Rattle.request_kinds.specs.Telling.{IsDoneTo}
use Rattle.request_kinds.specs.Rows.{area_or_broken, broken_by_area, cut_on, cut_or_broken, is_reversed}
use Rattle.request_kinds.specs.UpdateCells.{UpdatedCells, area_from}

-- ---- cells

-- where there are no cells none is denied
no_denial : (user : List ℕ) (book : PlaceBook) (cells : Cells) → ((id row col : ℕ) → ¬ (cells id row col))
    → IsDenial user book cells None
no_denial user book cells none = λ k d there denies. none denies.sheet denies.row denies.col denies.is

-- ---- what is done

module _ {A : Type 0} (user : List ℕ) (book : PlaceBook) (cells : Cells)
    (Is : Result (A × List BookChange) Rule → Type 0) (before after : PlaceBook) (denied : Option ℕ)
    (is_denied : IsDenial user book cells denied) where
  abbrev IsDone : Result A Rule → Type 0
  IsDone = IsDoneTo (IsUnlessDenied user book cells Is) before after

  pub done_allowed : denied ≡ None → (one : A) → IsDoneTo Is before after (Ok one) → IsDone (Ok one)
  done_allowed none one (changes, is, made) = (
    changes,
    record {
      denied = denied;
      is_denied = is_denied;
      done = Ok (one, changes);
      is = is;
      told_is = ap (λ d. unless_denied d (Ok (one, changes))) (sym none);
    },
    made,
  )

  pub done_denied : (id : ℕ) → denied ≡ Some id → (one : A) → IsDoneTo Is before after (Ok one)
      → IsDone (Err (rule.Protected id))
  done_denied id some one (changes, is, made) = record {
    denied = denied;
    is_denied = is_denied;
    done = Ok (one, changes);
    is = is;
    told_is = ap (λ d. unless_denied d (Ok (one, changes))) (sym some);
  }

  pub done_refused : (fault : RuleOr) → IsUnlessNoMemory (IsDoneTo Is before after) (Err fault)
      → IsUnlessNoMemory IsDone (Err fault)
  done_refused (refusal.Rule broken) is =
      record { denied = denied; is_denied = is_denied; done = Err broken; is = is; told_is = refl }
  done_refused refusal.NoMemory is = tt

-- ---- rows that are written

abbrev as_area : Area → Result Area Rule
as_area area = Ok area

abbrev as_broken : Rule → Result Area Rule
as_broken broken = Err broken

same_area : (area other : Area) → as_area area ≡ as_area other → area ≡ other
same_area area other e = cc

not_broken : (area : Area) (broken : Rule) → as_broken broken ≡ as_area area → ⊥
not_broken area broken e = cc

-- an area that breaks no rule is cut at the grid
area_is_cut : (found : Option PlaceSheet) (range area : Area) → as_area area ≡ cut_or_broken found range
    → area ≡ cut_on found range
area_is_cut found range area = go (first_broken (broken_by_area found range))
  where
    go : (first : Option Rule) → as_area area ≡ option_map_or Err first (Ok (cut_on found range)) → area
        ≡ cut_on found range
    go None e = same_area area (cut_on found range) e
    go (Some broken) e = absurd (not_broken area broken (sym e))

-- one from a cell on stays so
from_cut : (found : Option PlaceSheet) (cell : GridCoordinate) → cut_on found (area_from cell) ≡ area_from cell
from_cut None cell = refl
from_cut (Some sheet) cell = refl

-- a band with a line breaks no rule
has_start : (band : Band) (count line : ℕ) → HasLine (cut_band band count) line → line < count
    → nat_lt (first_line band) count ≡ true
has_start Whole count line has there = grind (arith, nat_tests)
has_start (From start) count line has there = grind (arith, nat_tests)
has_start (Span start end) count line (from, before) there = grind (arith, nat_tests)

has_order : (band : Band) (count line : ℕ) → HasLine (cut_band band count) line → is_reversed band ≡ false
has_order Whole count line has = refl
has_order (From start) count line has = refl
has_order (Span start end) count line (from, before) = reversed (omega (arith, from, before))
  where
    reversed : start < end → nat_le end start ≡ false
    reversed less = grind (arith, nat_tests)

none_broken : (rows cols row_there col_there : Bool) → rows ≡ false → cols ≡ false → row_there ≡ true → col_there ≡ true
    → first_broken
    (record unbroken { no_sheet = false; bad_range = rows || cols; outside_grid = not (row_there && col_there) })
    ≡ None
none_broken rows cols row_there col_there e e' e'' e''' = rw (e, e', e'', e''') refl

-- an area that breaks a rule has no cell of its sheet
no_cell : (sheet : PlaceSheet) (range : Area) (broken : Rule) → as_broken broken ≡ cut_or_broken (Some sheet) range
    → (row col : ℕ) → ¬ (HasCellOf (cut_area range sheet.table.rows sheet.table.cols) sheet row col)
no_cell sheet range broken is row col ((row_in, col_in), row_there, col_there) =
    let none = none_broken (is_reversed range.rows) (is_reversed range.cols)
    (nat_lt (first_line range.rows) sheet.table.rows) (nat_lt (first_line range.cols) sheet.table.cols)
    (has_order range.rows sheet.table.rows row row_in) (has_order range.cols sheet.table.cols col col_in)
    (has_start range.rows sheet.table.rows row row_in row_there)
    (has_start range.cols sheet.table.cols col col_in col_there) in
    not_broken (cut_on (Some sheet) range) broken
    (is ∙ ap (λ first. option_map_or Err first (Ok (cut_on (Some sheet) range))) none)

-- a line up to the end of the band, cut at the grid, is one of it
line_in : (band : Band) (count line : ℕ)
    → lies_in (first_line (cut_band band count)) (end_line (cut_band band count) count) line ≡ true
    → HasLine (cut_band band count) line × (line < count)
line_in Whole count line is = (tt, grind (arith, nat_tests))
line_in (From start) count line is = (grind (arith, nat_tests), grind (arith, nat_tests))
line_in (Span start end) count line is =
    ((grind (arith, nat_tests), grind (arith, nat_tests)), grind (arith, nat_tests))

-- what is written to a place lies in the lines that are written
lies_so : (rows cols uncovered : Bool) (value : Option Input)
    → IsSome (if rows && cols && uncovered then value else None) → (rows ≡ true) × (cols ≡ true)
lies_so true true uncovered value some = (refl, refl)
lies_so true false uncovered value some = absurd (false≢true some)
lies_so false cols uncovered value some = absurd (false≢true some)

-- the cells that are written are the area's
write_in : (sheet : PlaceSheet) (range : Area) (rows : Block) (row col : ℕ)
    → IsSome (written false (cut_area range sheet.table.rows sheet.table.cols) rows sheet row col)
    → HasCellOf (cut_area range sheet.table.rows sheet.table.cols) sheet row col
write_in sheet range rows row col some =
    let (row_lies, col_lies) = lies_so
    (lies_in (first_line (cut_band range.rows sheet.table.rows))
    (end_line (cut_band range.rows sheet.table.rows) sheet.table.rows) row)
    (lies_in (first_line (cut_band range.cols sheet.table.cols))
    (end_line (cut_band range.cols sheet.table.cols) sheet.table.cols) col)
    (not (is_covered sheet.merges row col))
    (given_value (input_at rows (row - first_line (cut_band range.rows sheet.table.rows))
    (col - first_line (cut_band range.cols sheet.table.cols)))) some in
    let (row_in, row_there) = line_in range.rows sheet.table.rows row row_lies in
    let (col_in, col_there) = line_in range.cols sheet.table.cols col col_lies in
    ((row_in, col_in), row_there, col_there)

-- so an area that breaks a rule has none of these cells, whichever sheet is found
none_filled : (sheets : List PlaceSheet) (range : Area) (rows : Block) (broken : Rule) (found : Option PlaceSheet)
    → place_sheet_with range.sheet sheets ≡ found → as_broken broken ≡ cut_or_broken found range
    → (id row col : ℕ) → ¬ (FilledCells sheets (cut_on found range) rows id row col)
none_filled sheets range rows broken None there is id row col (inl (same, has)) =
    subst (λ found. IsSomeAnd found (λ sheet. IsSome (written false range rows sheet row col))) there has
none_filled sheets range rows broken None there is id row col (inr (same, has)) =
    subst (λ found. IsSomeAnd found (λ sheet. HasCellOf range sheet row col × (is_reached range rows row col ≡ false)))
    there has
none_filled sheets range rows broken (Some sheet) there is id row col (inl (same, has)) =
    let area = cut_area range sheet.table.rows sheet.table.cols in
    no_cell sheet range broken is row col (write_in sheet range rows row col
    (subst (λ found. IsSomeAnd found (λ sheet. IsSome (written false area rows sheet row col))) there has))
none_filled sheets range rows broken (Some sheet) there is id row col (inr (same, has)) =
    let area = cut_area range sheet.table.rows sheet.table.cols in
    no_cell sheet range broken is row col
    (subst (λ found. IsSomeAnd found (λ sheet. HasCellOf area sheet row col × (is_reached area rows row col ≡ false)))
    there has).0

module _ (user : List ℕ) (book : PlaceBook) (rows : Block) where
  abbrev Denied : UpdatedArea → Option ℕ → Type 0
  Denied area = IsDenial user book (UpdatedCells rows area book.sheets)

  pub filled_denied : (range area : Area) → as_area area ≡ area_or_broken book.sheets range → (denied : Option ℕ)
      → IsDenial user book (FilledCells book.sheets area rows) denied → Denied (Range range) denied
  filled_denied range area is denied =
      subst (λ area. IsDenial user book (FilledCells book.sheets area rows) denied)
      (area_is_cut (place_sheet_with range.sheet book.sheets) range area is)

  pub none_filled_denied : (range : Area) (broken : Rule) → as_broken broken ≡ area_or_broken book.sheets range
      → Denied (Range range) None
  none_filled_denied range broken is = no_denial user book (UpdatedCells rows (Range range) book.sheets)
      (none_filled book.sheets range rows broken (place_sheet_with range.sheet book.sheets) refl is)

  -- the rows that are written from a cell on are among those that an area from there is filled with
  pub none_written_denied : (cell : GridCoordinate) (broken : Rule)
      → as_broken broken ≡ area_or_broken book.sheets (area_from cell) → Denied (Start cell) None
  none_written_denied cell broken is = no_denial user book (UpdatedCells rows (Start cell) book.sheets)
      (λ id row col has. none_filled book.sheets (area_from cell) rows broken found refl is id row col
      (inl (subst (λ area. WriteCells book.sheets false area rows id row col) (sym (from_cut found cell)) has)))
    where
      found : Option PlaceSheet
      found = place_sheet_with cell.sheet_id book.sheets
