use Rattle.std.proofs.Common.{◌≡◌, take}
use Rattle.batch_engine.specs.Calls.{lines_on, lines_written}
use Rattle.batch_engine.proofs.totals.lines_written.Given as goal

-- so far the lines of the writes before this one
abbrev pub invariant-loop-write : goal.invariant-loop-write
invariant-loop-write l = l.lines.items ≡ lines_written (lines_on l.axis) (take l.write-index l.writes)
