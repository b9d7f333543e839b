use Rattle.std.proofs.Common.{◌≡◌, ℕ, ◌<◌, ◌≤◌, true}
use Rattle.dev_metadata.specs.Listed.{has_id}
use Rattle.dev_metadata.proofs.ids.least_unused.Given as goal

-- so far all ids are those of items
abbrev pub invariant-loop-id : goal.invariant-loop-id
invariant-loop-id l = (lesser : ℕ) → 1 ≤ lesser → lesser < l.id → has_id l.items lesser ≡ true
