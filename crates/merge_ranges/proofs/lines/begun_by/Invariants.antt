use Rattle.std.proofs.Common.{◌≤◌, ◌-◌, length}
use Rattle.merge_ranges.proofs.lines.begun_by.Given as goal

abbrev pub invariant-loop-begun : goal.invariant-loop-begun
invariant-loop-begun l = (l.taken ≤ l.begun) × (l.begun ≤ length l.merges)

abbrev pub decreases-loop-begun : goal.decreases-loop-begun
decreases-loop-begun l = length l.merges - l.begun
