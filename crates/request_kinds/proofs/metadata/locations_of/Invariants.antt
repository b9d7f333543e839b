use Rattle.std.proofs.Common.{◌≡◌, take}
use Rattle.request_kinds.specs.Metadata.{locations_of}
use Rattle.request_kinds.proofs.metadata.locations_of.Given as goal

-- so far the locations of the look-ups before this one
abbrev pub invariant-loop-one : goal.invariant-loop-one
invariant-loop-one l = l.locations.items ≡ locations_of (take l.one-index l.asked)
