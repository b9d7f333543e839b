use Rattle.std.proofs.Common.{◌≡◌, map, take}
use Rattle.batch_engine.proofs.totals.sheets_of.Given as goal

-- so far the sheets of the lines before this one
abbrev pub invariant-loop-line : goal.invariant-loop-line
invariant-loop-line l = l.sheets.items ≡ map (λ line. line.0) (take l.line-index l.lines)
