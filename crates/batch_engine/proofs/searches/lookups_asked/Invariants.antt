use Rattle.std.proofs.Common.{◌≡◌, take}
use Rattle.request_kinds.specs.Metadata.{lookups_of}
use Rattle.batch_engine.specs.Searches.{asked_of}
use Rattle.batch_engine.proofs.searches.lookups_asked.Given as goal

-- so far what the filters before this one ask
abbrev pub invariant-loop-one : goal.invariant-loop-one
invariant-loop-one l = l.lookups.items ≡ lookups_of (asked_of (take l.one-index l.searched))
