use Rattle.std.proofs.Common.{◌≡◌, take}
use Rattle.batch_engine.proofs.looks.ranges_of.Given as goal

-- so far the named ranges before this one are listed
abbrev pub invariant-loop-at : goal.invariant-loop-at
invariant-loop-at l = l.ranges.items ≡ take l.at l.fn.names
