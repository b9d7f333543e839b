use Rattle.std.proofs.Common.{◌≡◌, ◌++◌, map, take}
use Rattle.batch_engine.specs.Calls.{lines_on}
use Rattle.batch_engine.proofs.totals.add_lines.Given as goal

-- so far the lines before this one are added
abbrev pub invariant-loop-line : goal.invariant-loop-line
invariant-loop-line l =
    l.lines.items ≡ l.fn.lines.items
    ++ map (λ line. (l.written.area.sheet, line)) (take l.line-index (lines_on l.fn.axis l.written))
