use Rattle.std.proofs.Common.{[], take}
use Rattle.dimension_ops.specs.Creating.{AreFaults, ArePlaced, broken_each}
use Rattle.dimension_ops.proofs.creating.make.Given as goal

-- the sheets so far are made, and judged
abbrev pub invariant-loop-properties : goal.invariant-loop-properties
invariant-loop-properties l =
    ArePlaced (take l.properties-index l.asked) [] l.making
    × AreFaults l.faults (broken_each (take l.properties-index l.asked) [] l.making)
