use Rattle.std.proofs.Common.{◌≡◌, ℕ, ◌<◌, true}
use Rattle.dimension_ops.specs.Creating.{sheets_made}
use Rattle.dimension_ops.specs.SheetRequests.{has_id}
use Rattle.dimension_ops.proofs.creating.Making.least_id.Given as goal

-- so far all ids are those of sheets
abbrev pub invariant-loop-id : goal.invariant-loop-id
invariant-loop-id l = (lesser : ℕ) → lesser < l.id → has_id (sheets_made l.self) lesser ≡ true
