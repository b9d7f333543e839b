use Rattle.std.proofs.Common.{◌≡◌, map, take}
use Rattle.values_api.specs.Given.{line_on}
use Rattle.values_api.proofs.given.lines_on.Given as goal

-- so far the lines of the cells before this one
abbrev pub invariant-loop-cell : goal.invariant-loop-cell
invariant-loop-cell l = l.lines.items ≡ map (line_on l.axis) (take l.cell-index l.cells)
