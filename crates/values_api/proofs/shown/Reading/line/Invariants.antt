use Rattle.std.proofs.Common.{◌≡◌, map}
use Rattle.std.specs.List.{range_with_len}
use Rattle.values_api.specs.Reading.{cell_read}
use Rattle.values_api.proofs.shown.Reading.line.Given as goal

-- so far the cells before this one
abbrev pub invariant-loop-place : goal.invariant-loop-place
invariant-loop-place l = l.cells.items ≡ map (cell_read l.self l.line) (range_with_len 0 l.place)
