-- What is told of the places of a line of values: which of them a merge covers.
use Rattle.std.proofs.Common.{◌≡◌, ℕ, zero, suc, ◌+◌, ◌<◌, ◌≤◌, List, [], ◌∷◌, length, get_or, max, min, cond}
use Rattle.std.proofs.Common.{Bool, true, false, subst, ap, ◌∙◌, arith}
use Rattle.std.specs.Prelude.{Some, ◌&&◌, nat_lt, ◌-◌}
use Rattle.std.specs.List.{fold}
use Rattle.std.proofs.lemmas.Bool.{and_from, lt-ltb}
use Rattle.cell_value.specs.declared.entered.Input.{Input}
use Rattle.grid_range.specs.Area.{band_on}
use Rattle.grid_range.specs.Band.{HasLine, cut_band, first_line}
use Rattle.grid_range.specs.declared.area.Area.{Area}
use Rattle.grid_range.specs.declared.axis.Axis.TheVariants.{Rows, Columns}
use Rattle.merge_ranges.specs.Lines.{IsTold, LineAsked, Tells, covered_of, covered_places, places_in}
use Rattle.merge_ranges.specs.Merges.{is_covered}
use Rattle.merge_ranges.specs.Tests.{has_line}
use Rattle.values_api.specs.declared.given.Given.{Given}
use Rattle.values_api.specs.Blocks.{lines_from, longest}
use Rattle.values_api.specs.Given.{AreCovered, HasRoom, TellsCovered, area_reached, axis_of, corner, first_row, first_col, line_given, places_given, room}
use Rattle.values_api.specs.Shown.{cell_along}
use Rattle.values_api.proofs.Emptied.{line_is}
use Rattle.values_api.proofs.GivenCells.{pair}

-- ---- the longest line

abbrev longer : ℕ → List Input → ℕ
longer most inputs = max most (length inputs)

above : (most : ℕ) (lines : List (List Input)) → most ≤ fold longer most lines
above most [] = omega arith
above most (inputs ∷ lines) = let more = above (longer most inputs) lines in omega (arith, more)

in_longest : (most : ℕ) (lines : List (List Input)) (line : ℕ) → length (get_or lines line []) ≤ fold longer most lines
in_longest most [] line = omega arith
in_longest most (inputs ∷ lines) zero = let more = above (longer most inputs) lines in omega (arith, more)
in_longest most (inputs ∷ lines) (suc line) = in_longest (longer most inputs) lines line

-- no line is longer
pub line_short : (given : Given) (line : ℕ) → length (line_given given line) ≤ longest given.block.now.values
line_short given line = in_longest 0 given.block.now.values line

-- ---- the rectangle that the values reach

-- the same by the lines and the places
abbrev area_to : ℕ → Bool → ℕ → ℕ → ℕ → ℕ → ℕ → ℕ → Area
area_to sheet columns row col end_row end_col lines places = record {
  sheet = sheet;
  rows = cut_band (lines_from row (cond columns places lines)) end_row;
  cols = cut_band (lines_from col (cond columns lines places)) end_col;
}

few_places : (sheet : ℕ) (columns : Bool) (row col end_row end_col lines places : ℕ) → row < end_row → col < end_col
    → places_in (cond columns Columns Rows) (area_to sheet columns row col end_row end_col lines places)
    ≡ min (max 1 places) (cell_along columns pair (end_row - row) (end_col - col)).1
few_places sheet true row col end_row end_col lines places below before = omega (arith, below)
few_places sheet false row col end_row end_col lines places below before = omega (arith, before)

pub places_are : (given : Given) → HasRoom given
    → places_given given ≡ min (max 1 (longest given.block.now.values)) (room given).1
places_are given room =
    few_places given.area.now.sheet given.block.now.columns_first (first_row given) (first_col given) given.end_row
    given.end_col (length given.block.now.values) (longest given.block.now.values) room.row room.col

has_line_to : (sheet : ℕ) (columns : Bool) (row col end_row end_col lines places line : ℕ) → line < lines
    → line < (cell_along columns pair (end_row - row) (end_col - col)).0
    → HasLine (band_on (cond columns Columns Rows) (area_to sheet columns row col end_row end_col lines places))
    ((cell_along columns pair row col).0 + line)
has_line_to sheet true row col end_row end_col lines places line few before =
    (omega arith, omega (arith, few, before))
has_line_to sheet false row col end_row end_col lines places line few before =
    (omega arith, omega (arith, few, before))

-- each line of values that is written is one of its lines
pub line_reached : (given : Given) (line : ℕ) → line < length given.block.now.values → line < (room given).0
    → HasLine (band_on (axis_of given) (area_reached given)) ((corner given).0 + line)
line_reached given line =
    has_line_to given.area.now.sheet given.block.now.columns_first (first_row given) (first_col given) given.end_row
    given.end_col (length given.block.now.values) (longest given.block.now.values) line

-- ---- what is told

-- of a place in the line of values it is told whether a merge covers its cell
covered_cell : (merges : List Area) (columns : Bool) (area : Area) (line place : ℕ)
    → HasLine (band_on (cond columns Columns Rows) area)
    ((cell_along columns pair (first_line area.rows) (first_line area.cols)).0 + line)
    → place < places_in (cond columns Columns Rows) area
    → covered_places (cond columns Columns Rows) area merges
    ((cell_along columns pair (first_line area.rows) (first_line area.cols)).0 + line) place
    ≡ is_covered merges (first_line area.rows + (cell_along columns pair line place).0)
    (first_line area.cols + (cell_along columns pair line place).1)
covered_cell merges true area line place has short =
    ap (λ b. b && is_covered merges (first_line area.rows + place) (first_line area.cols + line))
    (and_from (has_line area.cols (first_line area.cols + line)) (nat_lt place (places_in Columns area))
    (line_is area.cols (first_line area.cols + line) has) (lt-ltb place (places_in Columns area) short))
covered_cell merges false area line place has short =
    ap (λ b. b && is_covered merges (first_line area.rows + line) (first_line area.cols + place))
    (and_from (has_line area.rows (first_line area.rows + line)) (nat_lt place (places_in Rows area))
    (line_is area.rows (first_line area.rows + line) has) (lt-ltb place (places_in Rows area) short))

-- the places of the line that was asked for last are told
pub are_covered : (merges : List Area) (given : Given) (line : ℕ) (asked asked' : LineAsked) (at : ℕ)
    (covered : List Bool) → line < length given.block.now.values → line < (room given).0
    → at ≡ (corner given).0 + line → asked' ≡ record asked { line = Some at }
    → TellsCovered merges given line asked → IsTold asked' covered → AreCovered merges given line covered
are_covered merges given line asked asked' at covered few before at_is is tells told =
    let now : Tells (covered_of asked at) (places_in asked.axis asked.area) covered =
    subst (λ one. IsTold one covered) is told in
    let count : places_in asked.axis asked.area ≡ places_given given =
    ap (λ axis. places_in axis asked.area) tells.axis ∙ ap (places_in (axis_of given)) tells.area in
    record {
      long = now.long ∙ count;
      told = λ place short.
          let there : place < places_in asked.axis asked.area = omega (arith, short, now.long) in
          now.each place there
          ∙ ap (λ n. covered_of asked n place) at_is
          ∙ ap (λ (f : ℕ → ℕ → Bool). f ((corner given).0 + line) place) tells.covered
          ∙ covered_cell merges given.block.now.columns_first (area_reached given) line place
          (line_reached given line few before) (subst (λ n. place < n) count there);
    }
