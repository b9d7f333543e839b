use Rattle.std.proofs.Common.{All, take}
use Rattle.protection.specs.Denial.{DeniesSome}
use Rattle.protection.proofs.list.Protections.first_denial.Given as goal

abbrev pub invariant-loop-protection : goal.invariant-loop-protection
invariant-loop-protection l =
    All (λ one. ¬ (DeniesSome l.user l.owner l.area l.rows l.cols one))
    (take l.protection-index l.protection-items)
