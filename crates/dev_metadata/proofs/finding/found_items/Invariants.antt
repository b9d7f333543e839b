use Rattle.std.proofs.Common.{◌≡◌, take}
use Rattle.dev_metadata.specs.Listed.{found}
use Rattle.dev_metadata.proofs.finding.found_items.Given as goal

abbrev pub invariant-loop-at : goal.invariant-loop-at
invariant-loop-at l =
    l.copies.items ≡ found l.lookup l.project (take l.at l.items)
