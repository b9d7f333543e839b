-- The ends of the lines that a read goes over.
use Rattle.std.proofs.Common.{◌≡◌, ℕ, ◌+◌, ◌-◌, ◌<◌, ◌≤◌, List, length, get_or, max, cond, Bool, true, false, refl, sym, subst, ap, ◌∙◌, arith, inl, inr}
use Rattle.std.specs.Prelude.{Option, Some, None, ◌==◌}
use Rattle.std.specs.Option.{IsSome}
use Rattle.std.proofs.lemmas.Bool.{cases_Bool, cases_order, eqb-true, false≢true}
use Rattle.std.proofs.lemmas.List.Elements.{Contains-get_or}
use Rattle.std.proofs.lemmas.List.{get_or_default}
use Rattle.grid_range.specs.Area.{Holds}
use Rattle.grid_range.specs.Band.{HasLine, Within, first_line, end_line}
use Rattle.grid_range.specs.declared.area.Area.{Area}
use Rattle.grid_range.specs.declared.band.Band.{Band}
use Rattle.grid_range.specs.declared.band.Band.TheVariants.{Whole, From, Span}
use Rattle.cell_value.specs.declared.cell.Value.{Value}
use Rattle.cell_calc.specs.Marks.{values_of}
use Rattle.cell_store.specs.Places.{AreFilledPlaces}
use Rattle.cell_store.specs.Table.{item_at}
use Rattle.ref_rewrite.specs.declared.cell_content.Content.{Content}
use Rattle.world_model.specs.declared.limits.TheConstants.{MOST_COLUMNS, MOST_ROWS}
use Rattle.world_model.specs.Sheet.{PlaceSheet}
use Rattle.world_model.specs.Sound.{IsSheetSound}
use Rattle.values_api.specs.declared.shown.Reading.{Reading}
use Rattle.values_api.specs.FoundLaws.{sound_sheet}
use Rattle.values_api.specs.Reading.{IsReadOfSheet, AreEnds, lines_read, length_read, value_told}
use Rattle.values_api.specs.Sheets.{formula_sheets}
use Rattle.values_api.specs.Shown.{shows_nothing, cell_shown, cell_of, cell_along, height, width, lines_of, line_length, value_by}
use Rattle.values_api.proofs.CellsShown.{none_shows}

-- ---- bands

pub from_first : (band : Band) (line : ℕ) → HasLine band line → first_line band ≤ line
from_first Whole line has = omega arith
from_first (From start) line has = has
from_first (Span start end) line has = has.0

before_end : (band : Band) (line count : ℕ) → HasLine band line → line < count
    → line - first_line band < end_line band count - first_line band
before_end Whole line count has there = omega (arith, there)
before_end (From start) line count has there = omega (arith, has, there)
before_end (Span start end) line count has there = omega (arith, has.0, has.1)

pub end_small : (band : Band) (count : ℕ) → Within band count → end_line band count ≤ count
end_small Whole count within = omega arith
end_small (From start) count within = omega arith
end_small (Span start end) count within = within.1

pub has_line_behind : (band : Band) (count line : ℕ) → line < end_line band count - first_line band
    → HasLine band (first_line band + line)
has_line_behind Whole count line short = tt
has_line_behind (From start) count line short = omega arith
has_line_behind (Span start end) count line short = (omega arith, omega (arith, short))

-- ---- a read

-- a row and a column as a line and a place there
abbrev pub by_lines : Bool → ℕ → ℕ → ℕ × ℕ
by_lines turned = cell_along turned (λ line place. (line, place))

-- the line of a place, and its place there
abbrev pub along : Reading → ℕ × ℕ → ℕ × ℕ
along reading place =
    by_lines reading.columns_first (place.0 - first_line reading.area.now.rows)
    (place.1 - first_line reading.area.now.cols)

-- the first places stand before the ends of their lines
pub record AreEndsSoFar (reading : Reading) (places : List (ℕ × ℕ)) (count : ℕ) (ends : List ℕ) : Type 0 where
  pub few : length ends ≤ lines_read reading
  pub short : (line : ℕ) → get_or ends line 0 ≤ length_read reading
  pub covers : (k : ℕ) → k < count
      → (along reading (get_or places k (0, 0))).1 < get_or ends (along reading (get_or places k (0, 0))).0 0

-- where a place stands in the area
pub record IsPlaced (area : Area) (sheet : PlaceSheet) (place : ℕ × ℕ) : Type 0 where
  pub row_from : first_line area.rows ≤ place.0
  pub col_from : first_line area.cols ≤ place.1
  pub row_to : place.0 - first_line area.rows < height area sheet
  pub col_to : place.1 - first_line area.cols < width area sheet

module _ (reading : Reading) (is : IsReadOfSheet reading) where
  abbrev sheet : PlaceSheet
  sheet = reading.sheet.now

  abbrev area : Area
  area = reading.area.now

  pub own : IsSheetSound reading.names.book.now.sheets sheet
  own = sound_sheet reading.names.book.now is.sound area.sheet sheet is.there

  pub small_height : height area sheet ≤ MOST_ROWS
  small_height = let end = end_small area.rows sheet.table.rows is.within.0 in omega (arith, end, own.rows.1)

  pub small_width : width area sheet ≤ MOST_COLUMNS
  small_width = let end = end_small area.cols sheet.table.cols is.within.1 in omega (arith, end, own.cols.1)

  pub row_small : (row : ℕ) → row < height area sheet → first_line area.rows + row < MOST_ROWS
  row_small row below = let end = end_small area.rows sheet.table.rows is.within.0 in
      omega (arith, below, end, own.rows.1)

  pub col_small : (col : ℕ) → col < width area sheet → first_line area.cols + col < MOST_COLUMNS
  col_small col below = let end = end_small area.cols sheet.table.cols is.within.1 in
      omega (arith, below, end, own.cols.1)

  module _ (places : List (ℕ × ℕ)) (filled : AreFilledPlaces area sheet.table places) where
    pub placed : (k : ℕ) → k < length places → IsPlaced area sheet (get_or places k (0, 0))
    placed k there =
        let place = get_or places k (0, 0) in
        let held = (filled.exactly place.0 place.1).0 (Contains-get_or places k (0, 0) there) in
        let inside = own.inside place.0 place.1 held.1 in
        record {
          row_from = from_first area.rows place.0 held.0.0;
          col_from = from_first area.cols place.1 held.0.1;
          row_to = before_end area.rows place.0 sheet.table.rows held.0.0 inside.0;
          col_to = before_end area.cols place.1 sheet.table.cols held.0.1 inside.1;
        }

    -- an end that is reached
    reached : (b : Bool) (old place : ℕ) → old ≤ cond b (max old (place + 1)) old
    reached true old place = omega arith
    reached false old place = omega arith

    reached_short : (b : Bool) (old place most : ℕ) → old ≤ most → place < most
        → cond b (max old (place + 1)) old ≤ most
    reached_short true old place most few below = omega (arith, few, below)
    reached_short false old place most few below = few

    reached_here : (b : Bool) (old place : ℕ) → b ≡ true → place < cond b (max old (place + 1)) old
    reached_here true old place here = omega arith
    reached_here false old place here = absurd (false≢true here)

    pub next_end : (k line place : ℕ) (ends ends' : List ℕ) → AreEndsSoFar reading places k ends
        → along reading (get_or places k (0, 0)) ≡ (line, place)
        → ((other : ℕ) → get_or ends' other 0
        ≡ cond (other == line) (max (get_or ends other 0) (place + 1)) (get_or ends other 0))
        → length ends' ≡ max (length ends) (line + 1) → line < lines_read reading → place < length_read reading
        → AreEndsSoFar reading places (k + 1) ends'
    next_end k line place ends ends' so_far along_is each long few short = record {
      few = omega (arith, so_far.few, long, few);
      short = λ other. subst (λ n. n ≤ length_read reading) (sym (each other))
          (reached_short (other == line) (get_or ends other 0) place (length_read reading) (so_far.short other) short);
      covers = λ j below. elim (cases_order j k) [
        | inl same ↦ subst (λ n. (along reading (get_or places n (0, 0))).1
            < get_or ends' (along reading (get_or places n (0, 0))).0 0) (sym same) here
        | inr apart ↦ elim apart [
          | inl before ↦ earlier j before
          | inr behind ↦ absurd (omega (arith, below, behind))
        ]
      ];
    }
      where
        here : (along reading (get_or places k (0, 0))).1 < get_or ends' (along reading (get_or places k (0, 0))).0 0
        here = subst (λ (p : ℕ × ℕ). p.1 < get_or ends' p.0 0) (sym along_is)
            (subst (λ n. place < n) (sym (each line))
            (reached_here (line == line) (get_or ends line 0) place (eq_same line)))
          where
            eq_same : (n : ℕ) → (n == n) ≡ true
            eq_same n = Rattle.std.proofs.lemmas.Bool.eq-eqb n n refl

        earlier : (j : ℕ) → j < k → (along reading (get_or places j (0, 0))).1
            < get_or ends' (along reading (get_or places j (0, 0))).0 0
        earlier j before =
            let old = so_far.covers j before in
            let at = (along reading (get_or places j (0, 0))).0 in
            let more = reached (at == line) (get_or ends at 0) place in
            let now = each at in
            omega (arith, old, more, now)

    abbrev along_by : Bool → ℕ × ℕ → ℕ × ℕ
    along_by turned place = by_lines turned (place.0 - first_line area.rows) (place.1 - first_line area.cols)

    -- the same for a place of the area, whose lines are columns or rows
    in_lines : (turned : Bool) (row col : ℕ) → row < height area sheet → col < width area sheet
        → ((by_lines turned row col).0 < lines_of turned area sheet)
        × ((by_lines turned row col).1 < line_length turned area sheet)
    in_lines true row col below right = (right, below)
    in_lines false row col below right = (below, right)

    pub next_placed : (turned : Bool) (k row col : ℕ) (ends ends' : List ℕ) → reading.columns_first ≡ turned
        → k < length places → row ≡ (get_or places k (0, 0)).0 - first_line area.rows
        → col ≡ (get_or places k (0, 0)).1 - first_line area.cols → AreEndsSoFar reading places k ends
        → ((other : ℕ) → get_or ends' other 0 ≡ cond (other == (by_lines turned row col).0)
        (max (get_or ends other 0) ((by_lines turned row col).1 + 1)) (get_or ends other 0))
        → length ends' ≡ max (length ends) ((by_lines turned row col).0 + 1) → AreEndsSoFar reading places (k + 1) ends'
    next_placed turned k row col ends ends' is_turned there row_is col_is so_far each long =
        let place = get_or places k (0, 0) in
        let at = placed k there in
        let inside : ((by_lines turned row col).0 < lines_read reading)
        × ((by_lines turned row col).1 < length_read reading) =
        subst (λ b. ((by_lines turned row col).0 < lines_of b area sheet)
        × ((by_lines turned row col).1 < line_length b area sheet)) (sym is_turned)
        (in_lines turned row col (subst (λ n. n < height area sheet) (sym row_is) at.row_to)
        (subst (λ n. n < width area sheet) (sym col_is) at.col_to)) in
        next_end k (by_lines turned row col).0 (by_lines turned row col).1 ends ends' so_far
        (ap (λ b. along_by b place) is_turned
        ∙ ap (λ n. by_lines turned n (place.1 - first_line area.cols)) (sym row_is)
        ∙ ap (λ n. by_lines turned row n) (sym col_is)) each long inside.0 inside.1

    -- a cell at which nothing stands shows nothing
    abbrev cell_at : Bool → ℕ → ℕ → ℕ × ℕ
    cell_at turned line place =
        (first_line area.rows + cond turned place line, first_line area.cols + cond turned line place)

    abbrev item : Bool → ℕ → ℕ → Option Content
    item turned line place = item_at sheet.table (cell_at turned line place).0 (cell_at turned line place).1

    along_back : (turned : Bool) (line place : ℕ) → along_by turned (cell_at turned line place) ≡ (line, place)
    along_back true line place =
        let one : first_line area.cols + line - first_line area.cols ≡ line = omega arith in
        let other : first_line area.rows + place - first_line area.rows ≡ place = omega arith in
        ap (λ n. (n, first_line area.rows + place - first_line area.rows)) one ∙ ap (λ n. (line, n)) other
    along_back false line place =
        let one : first_line area.rows + line - first_line area.rows ≡ line = omega arith in
        let other : first_line area.cols + place - first_line area.cols ≡ place = omega arith in
        ap (λ n. (n, first_line area.cols + place - first_line area.cols)) one ∙ ap (λ n. (line, n)) other

    cell_holds : (turned : Bool) (line place : ℕ) → line < lines_of turned area sheet → place
        < line_length turned area sheet
        → Holds area (cell_at turned line place).0 (cell_at turned line place).1
    cell_holds true line place few short = (
      has_line_behind area.rows sheet.table.rows place short,
      has_line_behind area.cols sheet.table.cols line few,
    )
    cell_holds false line place few short = (
      has_line_behind area.rows sheet.table.rows line few,
      has_line_behind area.cols sheet.table.cols place short,
    )

    nothing_shown : (held : Option Content) (told : Value) → held ≡ None
        → shows_nothing
        (cell_shown (formula_sheets reading.names.book.now.sheets) reading.render held (value_by held told))
        ≡ true
    nothing_shown None told none =
        ap shows_nothing (sym (none_shows (formula_sheets reading.names.book.now.sheets) reading.render))
    nothing_shown (Some content) told none = let no : ⊥ = cc in absurd no

    shown_cell : (turned : Bool) (line place : ℕ) → item turned line place ≡ None
        → shows_nothing
        (cell_along turned (cell_of (formula_sheets reading.names.book.now.sheets) reading.render area sheet
        (value_told area sheet (values_of reading.table.now))) line place)
        ≡ true
    shown_cell true line place none = nothing_shown (item true line place) _ none
    shown_cell false line place none = nothing_shown (item false line place) _ none

    -- an item of the area stands before the end of its line
    none_behind : (ends : List ℕ) → AreEndsSoFar reading places (length places) ends
        → (line place : ℕ) → line < lines_read reading → place < length_read reading → get_or ends line 0 ≤ place
        → (held : Option Content) → item reading.columns_first line place ≡ held → held ≡ None
    none_behind ends so_far line place few short behind None is_held = refl
    none_behind ends so_far line place few short behind (Some content) is_held =
        let at = cell_at reading.columns_first line place in
        let (k, there, same) = (filled.exactly at.0 at.1).1
        (cell_holds reading.columns_first line place few short, subst IsSome (sym is_held) refl) in
        let there_is : get_or places k (0, 0) ≡ at = get_or_default places k (0, 0) at there ∙ same in
        let covered = so_far.covers k there in
        let along_is : along reading (get_or places k (0, 0)) ≡ (line, place) =
        ap (along reading) there_is ∙ along_back reading.columns_first line place in
        let before : place < get_or ends line 0 =
        subst (λ (p : ℕ × ℕ). p.1 < get_or ends p.0 0) along_is covered in
        absurd (omega (arith, before, behind))

    pub all_ended : (ends : List ℕ) → AreEndsSoFar reading places (length places) ends → AreEnds reading ends
    all_ended ends so_far = record {
      few = so_far.few;
      short = so_far.short;
      empty = λ line place few short behind.
          shown_cell reading.columns_first line place
          (none_behind ends so_far line place few short behind (item reading.columns_first line place) refl);
    }
