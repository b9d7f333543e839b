use Rattle.std.proofs.Common.{◌≡◌, map, take}
use Rattle.dev_metadata.specs.Given.{given_to}
use Rattle.dev_metadata.proofs.updating.copies_given.Given as goal

abbrev pub invariant-loop-at : goal.invariant-loop-at
invariant-loop-at l =
    l.copies.items ≡ map (given_to l.lookups l.project l.patch) (take l.at l.items)
