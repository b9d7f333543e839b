use Rattle.std.proofs.Common.{All, take}
use Rattle.protection.specs.Denial.{DeniesOne, ListedCells}
use Rattle.protection.proofs.list.Protections.first_denial_listed.Given as goal

abbrev pub invariant-loop-protection : goal.invariant-loop-protection
invariant-loop-protection l =
    All (λ one. ¬ (DeniesOne l.user l.owner (ListedCells l.sheet l.cells) one))
    (take l.protection-index l.protection-items)
