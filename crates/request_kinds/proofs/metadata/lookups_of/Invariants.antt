use Rattle.std.proofs.Common.{◌≡◌, take}
use Rattle.request_kinds.specs.Metadata.{lookups_of}
use Rattle.request_kinds.proofs.metadata.lookups_of.Given as goal

-- so far what the look-ups before this one ask
abbrev pub invariant-loop-one : goal.invariant-loop-one
invariant-loop-one l = l.lookups.items ≡ lookups_of (take l.one-index l.asked)
