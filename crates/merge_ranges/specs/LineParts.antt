-- Laws of the lines of a rectangle, each of which is one that it holds.
use Rattle.std.proofs.Common.{ℕ, ◌+◌, ◌<◌, ◌≤◌, arith, subst}
use Rattle.std.specs.Prelude.{Contains}
use Rattle.std.specs.List.{range_with_len}
use Rattle.std.proofs.lemmas.List.FromFn.{get_or-range_with_len, length-range_with_len}
use Rattle.grid_range.specs.Area.{band_on}
use Rattle.grid_range.specs.Band.{HasLine}
use Rattle.grid_range.specs.declared.area.Area.{Area}
use Rattle.grid_range.specs.declared.axis.Axis.{Axis}
use Rattle.grid_range.specs.declared.axis.Axis.TheVariants.{Rows, Columns}
use Rattle.merge_ranges.specs.Merges.{HoldsAll, IsRectangle}
use Rattle.merge_ranges.specs.Tests.{line_of}

-- a line that is one of those from the first one on
pub line_among : (first count line : ℕ) → Contains (range_with_len first count) line
    → (first ≤ line) × (line < first + count)
line_among first count line (k, l, at) =
    let few : k < count = subst (λ n. k < n) (length-range_with_len first count) l in
    let is = get_or-range_with_len first count k line few in
    (omega (arith, is, at), omega (arith, is, at, few))

-- a line of a rectangle is a rectangle, whose cells the other one holds
pub line_part : (axis : Axis) (area : Area) (line : ℕ) → IsRectangle area → HasLine (band_on axis area) line
    → IsRectangle (line_of axis area line) × HoldsAll area (line_of axis area line)
line_part Rows area line is has = (
  (omega arith, is.1),
  λ row col holds. (
    subst (HasLine area.rows) (let low = holds.0.0 in let high = holds.0.1 in omega (arith, low, high)) has,
    holds.1,
  ),
)
line_part Columns area line is has = (
  (is.0, omega arith),
  λ row col holds. (
    holds.0,
    subst (HasLine area.cols) (let low = holds.1.0 in let high = holds.1.1 in omega (arith, low, high)) has,
  ),
)
