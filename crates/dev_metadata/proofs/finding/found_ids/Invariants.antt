use Rattle.std.proofs.Common.{◌≡◌, take}
use Rattle.dev_metadata.specs.Listed.{ids_of, found_by_some}
use Rattle.dev_metadata.proofs.finding.found_ids.Given as goal

abbrev pub invariant-loop-at : goal.invariant-loop-at
invariant-loop-at l =
    l.ids.items ≡ ids_of (found_by_some l.lookups l.project (take l.at l.items))
