use Rattle.std.proofs.Common.{All, take}
use Rattle.protection.specs.Following.{IsKeptWithin}
use Rattle.list_tests.proofs.protections.are_within.Given as goal

abbrev pub invariant-loop-at : goal.invariant-loop-at
invariant-loop-at l = All (IsKeptWithin l.sheet l.axis l.count) (take l.at l.list)
