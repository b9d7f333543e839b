use Rattle.std.proofs.Common.{◌≡◌, All, take}
use Rattle.protection.proofs.ids.position_of.Given as goal

abbrev pub invariant-loop-place : goal.invariant-loop-place
invariant-loop-place l = All (λ one. ¬ (one.id ≡ l.id)) (take l.place l.protections)
