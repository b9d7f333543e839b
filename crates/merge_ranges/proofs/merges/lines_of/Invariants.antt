use Rattle.std.proofs.Common.{◌≡◌, ◌-◌, map}
use Rattle.std.specs.Prelude.{filter}
use Rattle.std.specs.List.{range_with_len}
use Rattle.merge_ranges.specs.Tests.{has_many_cells, line_of}
use Rattle.merge_ranges.proofs.merges.lines_of.Given as goal

-- the lines so far are there
abbrev pub invariant-loop-line : goal.invariant-loop-line
invariant-loop-line l =
    l.lines.items ≡ filter has_many_cells (map (line_of l.axis l.area) (range_with_len l.first (l.line - l.first)))
