-- Laws of bands with both ends, as those of a rectangle are, and of what has more than one line or cell.
use Rattle.std.proofs.Common.{◌≡◌, ℕ, ◌<◌, ◌≤◌, ◌||◌, inl, inr, arith, refl, sym, ap, ◌∙◌, true, false}
use Rattle.std.proofs.lemmas.Bool.{false≢true, cases_Bool}
use Rattle.std.proofs.lemmas.Bool.Decides.{nat_tests}
use Rattle.grid_range.specs.Area.{band_on}
use Rattle.grid_range.specs.Band.{HasLine, Within, first_line}
use Rattle.grid_range.specs.declared.area.Area.{Area}
use Rattle.grid_range.specs.declared.axis.Axis.{Axis}
use Rattle.grid_range.specs.declared.axis.Axis.TheVariants.{Rows, Columns}
use Rattle.grid_range.specs.declared.band.Band.{Band}
use Rattle.grid_range.specs.declared.band.Band.TheVariants.{Whole, From, Span}
use Rattle.merge_ranges.specs.Merges.{HasEnds, HasManyCells, HasManyLines, IsRectangle}
use Rattle.merge_ranges.specs.Tests.{has_many_cells, has_many_lines, past_line}

-- a rectangle's bands have both ends
pub ends_on : (axis : Axis) (area : Area) → IsRectangle area → HasEnds (band_on axis area)
ends_on Rows area is = is.0
ends_on Columns area is = is.1

-- the end of a band with both ends lies behind its first line
pub rises : (band : Band) → HasEnds band → first_line band < past_line band
rises Whole ends = absurd ends
rises (From start) ends = absurd ends
rises (Span start end) ends = ends

-- it has the lines between them
pub line_between : (band : Band) (line : ℕ) → HasEnds band → first_line band ≤ line → line < past_line band
    → HasLine band line
line_between Whole line ends low high = absurd ends
line_between (From start) line ends low high = absurd ends
line_between (Span start end) line ends low high = (low, high)

-- its first line is one of them
pub has_first : (band : Band) → HasEnds band → HasLine band (first_line band)
has_first Whole ends = absurd ends
has_first (From start) ends = absurd ends
has_first (Span start end) ends = (omega arith, ends)

-- a line that it has is one of those that it is within
pub below : (band : Band) (count line : ℕ) → HasEnds band → Within band count → HasLine band line → line < count
below Whole count line ends within has = absurd ends
below (From start) count line ends within has = absurd ends
below (Span start end) count line ends within has = let a = has.1 in let b = within.1 in omega arith

-- what the test of many lines tells
lines_are : (band : Band) → has_many_lines band ≡ true → HasManyLines band
lines_are Whole h = absurd (false≢true h)
lines_are (From start) h = absurd (false≢true h)
lines_are (Span start end) h = grind (arith, nat_tests)

are_lines : (band : Band) → HasManyLines band → has_many_lines band ≡ true
are_lines Whole h = absurd h
are_lines (From start) h = absurd h
are_lines (Span start end) h = grind (arith, nat_tests)

-- and that of many cells
pub cells_are : (area : Area) → has_many_cells area ≡ true → HasManyCells area
cells_are area h = elim (cases_Bool (has_many_lines area.rows)) [
  | inl rows ↦ inl (lines_are area.rows rows)
  | inr none ↦ inr (lines_are area.cols (sym (ap (λ b. b || has_many_lines area.cols) none) ∙ h))
]

-- what has many cells passes the test
pub are_cells : (area : Area) → HasManyCells area → has_many_cells area ≡ true
are_cells area (inl rows) = ap (λ b. b || has_many_lines area.cols) (are_lines area.rows rows)
are_cells area (inr cols) = elim (has_many_lines area.rows) as (λ b. (b || has_many_lines area.cols) ≡ true) [
  | true ↦ refl
  | false ↦ are_lines area.cols cols
]
