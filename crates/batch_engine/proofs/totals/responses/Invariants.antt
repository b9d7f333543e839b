use Rattle.std.proofs.Common.{◌≡◌, map}
use Rattle.batch_engine.proofs.totals.responses.Given as goal

-- so far what the writes before this one did
abbrev pub invariant-loop-update : goal.invariant-loop-update
invariant-loop-update l = l.responses.items ≡ map (λ wrote. wrote.0) l.yielded
