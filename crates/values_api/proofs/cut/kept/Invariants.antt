use Rattle.std.proofs.Common.{◌≡◌, ◌-◌, ◌≤◌, length, take}
use Rattle.std.specs.List.{suffix_len}
use Rattle.values_api.proofs.cut.kept.Given as goal

-- the things behind the first so many are empty
abbrev pub invariant-loop-kept : goal.invariant-loop-kept
invariant-loop-kept g l =
    (l.kept ≤ length l.things)
    × (length l.things - suffix_len g.T.MayBeEmpty.empty l.things
    ≡ l.kept - suffix_len g.T.MayBeEmpty.empty (take l.kept l.things))

abbrev pub decreases-loop-kept : goal.decreases-loop-kept
decreases-loop-kept g l = l.kept
