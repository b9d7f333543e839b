-- Cells that writes and clears of an area leave: those that they don't touch.
use Rattle.std.proofs.Common.{◌≡◌, ℕ, refl, sym, ap, subst, ◌∙◌, List, cond, Bool, true, false}
use Rattle.std.specs.Prelude.{Option, Some, None, IsSomeAnd, ◌&&◌, option_map}
use Rattle.std.specs.Option.{IsSome}
use Rattle.std.proofs.lemmas.Bool.{and_parts, leb-true, ltb-true}
use Rattle.cell_value.specs.declared.cell.Block.{Block}
use Rattle.cell_value.specs.declared.entered.Input.{Input}
use Rattle.grid_range.specs.Area.{Holds}
use Rattle.grid_range.specs.Band.{HasLine}
use Rattle.grid_range.specs.declared.area.Area.{Area}
use Rattle.grid_range.specs.declared.band.Band.{Band}
use Rattle.grid_range.specs.declared.band.Band.TheVariants.{Whole, From, Span}
use Rattle.merge_ranges.specs.Tests.{has_line}
use Rattle.protection.specs.Denial.{Cells}
use Rattle.ref_rewrite.specs.declared.cell_content.Content.{Content}
use Rattle.world_model.specs.Book.{NameBook, PlaceBook}
use Rattle.world_model.specs.BookChange.{Named, NamedStandsFor}
use Rattle.world_model.specs.Leaving.{HasCell, LeaveInTurn}
use Rattle.world_model.specs.Sheet.{PlaceSheet}
use Rattle.world_model.specs.Sound.{place_sheet_with}
use Rattle.dimension_ops.specs.declared.rule.Rule.{Rule}
use Rattle.values_api.specs.Blocks.{Entry, IsEntryOf, IsWrite, contents_of, written}
use Rattle.values_api.specs.Denials.{AreaCells, HasCellOf, OnSheet, RestCells, WriteCells}
use Rattle.values_api.specs.Rest.{is_reached, rest_cleared}
use Rattle.values_api.specs.Sheets.{formula_sheets}
use Rattle.values_api.specs.Updates.{cleared}
use Rattle.values_api.specs.declared.writing.WrittenCells.{WrittenCells}
use Rattle.std.specs.Prelude.{Result}
use Rattle.request_kinds.specs.Telling.{cells_updated}
use Rattle.kept_cells.specs.Staying.{IsNamedBy}
use Rattle.kept_cells.proofs.UntouchedCells.{IsAt, IsPlaced, at_inside, is_placed, update_leaves}

-- ---- touched cells

pub named_by : (names : NameBook) (cells : Cells) (id row col r c : ℕ) → cells id r c → IsAt names id row col r c
    → IsNamedBy names cells id row col
named_by names cells id row col r c is at =
    record { row_place = r; col_place = c; is = is; row_there = at.0; col_there = at.1 }

-- a cell of a sheet that is there
pub on_sheet : (sheets : List PlaceSheet) (sheet : ℕ) (found : PlaceSheet) (Has : PlaceSheet → ℕ → ℕ → Type 0)
    (id row col : ℕ)
    → place_sheet_with sheet sheets ≡ Some found → id ≡ sheet → Has found row col → OnSheet sheets sheet Has id row col
on_sheet sheets sheet found Has id row col there own has =
    (own, subst (λ one. IsSomeAnd one (λ found. Has found row col)) (sym there) has)

-- a cell of an area is one of those that it has on its sheet
pub area_has : (book : PlaceBook) (names : NameBook) (area : Area) (id row col r c : ℕ)
    → IsPlaced book names id → IsAt names id row col r c
    → id ≡ area.sheet → Holds area r c → AreaCells book.sheets area id r c
area_has book names area id row col r c placed at own holds =
    let inside = at_inside book names id row col r c placed at in
    on_sheet book.sheets area.sheet placed.sheet (HasCellOf area) id r c
    (ap (λ n. place_sheet_with n book.sheets) (sym own) ∙ placed.there) own (holds, inside.0, inside.1)

-- ---- tests of lines

pub line_held : (band : Band) (line : ℕ) → has_line band line ≡ true → HasLine band line
line_held Whole line has = tt
line_held (From start) line has = leb-true start line has
line_held (Span start end) line has =
    let (late, early) = and_parts _ _ has in
    (leb-true start line late, ltb-true line end early)

abbrev emptied : Option (Option Content)
emptied = Some None

-- what is done to a cell of an area is done to no other one
pub unless_held : (b : Bool) → (b ≡ true → ⊥) → cond b emptied None ≡ None
unless_held true none = absurd (none refl)
unless_held false none = refl

none_cleared : (area : Area) (r c : ℕ) → (Holds area r c → ⊥) → cleared area r c ≡ None
none_cleared area r c none =
    unless_held (has_line area.rows r && has_line area.cols c) (λ has.
    let (rows, cols) = and_parts _ _ has in
    none (line_held area.rows r rows, line_held area.cols c cols))

unless_reached : (b : Bool) (update : Option (Option Content)) → (b ≡ false → update ≡ None) → cond b None update ≡ None
unless_reached true update none = refl
unless_reached false update none = none refl

-- ---- a clear

module _ (book : PlaceBook) (named : Named) (stands : NamedStandsFor book named) (area : Area) (id row col : ℕ)
    (there : HasCell id row col named.book) where
  placed : IsPlaced book named.book id
  placed = is_placed book named stands id row col there

  pub clear_leaves : ¬ (IsNamedBy named.book (AreaCells book.sheets area) id row col)
      → LeaveInTurn named (cells_updated area.sheet (cleared area)) id row col
  clear_leaves untouched =
      update_leaves named area.sheet (cleared area) id row col there (λ own r c at.
      none_cleared area r c (λ holds. untouched (named_by named.book (AreaCells book.sheets area) id row col r c
      (area_has book named.book area id row col r c placed at own holds) at)))

  -- what the block doesn't reach
  pub rest_leaves : (block : Block) → ¬ (IsNamedBy named.book (RestCells book.sheets area block) id row col)
      → LeaveInTurn named (cells_updated area.sheet (rest_cleared area block)) id row col
  rest_leaves block untouched =
      update_leaves named area.sheet (rest_cleared area block) id row col there (λ own r c at.
      unless_reached (is_reached area block r c) (cleared area r c) (λ past.
      none_cleared area r c (λ holds. untouched (named_by named.book (RestCells book.sheets area block) id row col r c
      (rest_has own r c at holds past) at))))
    where
      rest_has : id ≡ area.sheet → (r c : ℕ) → IsAt named.book id row col r c → Holds area r c
          → is_reached area block r c ≡ false → RestCells book.sheets area block id r c
      rest_has own r c at holds past =
          let inside = at_inside book named.book id row col r c placed at in
          on_sheet book.sheets area.sheet placed.sheet
          (λ sheet row col. HasCellOf area sheet row col × (is_reached area block row col ≡ false)) id r c
          (ap (λ n. place_sheet_with n book.sheets) (sym own) ∙ placed.there) own
          ((holds, inside.0, inside.1), past)

-- ---- a write

module _ (one_cell : Bool) (area : Area) (block : Block) (sheet : PlaceSheet) (before after : PlaceBook)
    (answer : Result WrittenCells Rule) (writes : IsWrite one_cell area block sheet before after answer) (r c : ℕ) where
  -- where no value is written nothing is entered
  none_entered : (value : Option Input) → IsEntryOf (formula_sheets before.sheets) area.sheet value (writes.entries r c)
      → (IsSome value → ⊥) → option_map (λ (entry : Entry). entry.content) (writes.entries r c) ≡ None
  none_entered None is none = ap (option_map (λ (entry : Entry). entry.content)) is
  none_entered (Some value) is none = absurd (none refl)

pub write_leaves : (named : Named) (one_cell : Bool) (area : Area) (block : Block) (sheet : PlaceSheet)
    (before after : PlaceBook) (answer : Result WrittenCells Rule)
    (writes : IsWrite one_cell area block sheet before after answer)
    (id row col : ℕ) → HasCell id row col named.book
    → (id ≡ area.sheet → (r c : ℕ) → IsAt named.book id row col r c
    → IsSome (written one_cell area block sheet r c) → ⊥)
    → LeaveInTurn named (cells_updated area.sheet (contents_of writes.entries)) id row col
write_leaves named one_cell area block sheet before after answer writes id row col there none =
    update_leaves named area.sheet (contents_of writes.entries) id row col there (λ own r c at.
    none_entered one_cell area block sheet before after answer writes r c (written one_cell area block sheet r c)
    (writes.entered r c) (none own r c at))

-- of the cells that it touches where the sheet is that one
pub untouched_written : (names : NameBook) (sheets : List PlaceSheet) (one_cell : Bool) (area : Area) (block : Block)
    (sheet : PlaceSheet) (id row col : ℕ) → place_sheet_with area.sheet sheets ≡ Some sheet
    → ¬ (IsNamedBy names (WriteCells sheets one_cell area block) id row col)
    → id ≡ area.sheet → (r c : ℕ) → IsAt names id row col r c → IsSome (written one_cell area block sheet r c) → ⊥
untouched_written names sheets one_cell area block sheet id row col there untouched own r c at wrote =
    untouched (named_by names (WriteCells sheets one_cell area block) id row col r c
    (on_sheet sheets area.sheet sheet (λ one row col. IsSome (written one_cell area block one row col)) id r c
    there own wrote)
    at)
