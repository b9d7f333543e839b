use Rattle.std.proofs.Common.{◌≡◌, ℕ, ◌+◌, ◌<◌, ◌≤◌, true, All, take}
use Rattle.protection.specs.Listed.{has_id}
use Rattle.protection.proofs.ids.least_unused.Given as goal

abbrev pub invariant-loop-protection : goal.invariant-loop-protection
invariant-loop-protection l = record {
  positive : 1 ≤ l.id;
  few : l.id ≤ l.protection-index + 1;
  unused : All (λ one. ¬ (one.id ≡ l.id)) (take l.protection-index l.protections);
  used : (lesser : ℕ) → 1 ≤ lesser → lesser < l.id → has_id l.protections lesser ≡ true;
}
