use Rattle.std.proofs.Common.{◌≡◌, map, get_or}
use Rattle.std.specs.List.{range_with_len}
use Rattle.values_api.specs.Reading.{cell_read}
use Rattle.values_api.specs.Shown.{line_shown}
use Rattle.values_api.proofs.shown.Reading.lines.Given as goal

-- so far the lines before this one, each up to its end
abbrev pub invariant-loop-line : goal.invariant-loop-line
invariant-loop-line l =
    l.lines.items
    ≡ map (λ line. line_shown (cell_read l.self line) (get_or l.ends.items line 0)) (range_with_len 0 l.line)
