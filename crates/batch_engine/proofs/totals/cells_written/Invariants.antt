use Rattle.std.proofs.Common.{◌≡◌, take}
use Rattle.std.specs.List.{sum_by}
use Rattle.batch_engine.proofs.totals.cells_written.Given as goal

-- so far the cells of the writes before this one
abbrev pub invariant-loop-write : goal.invariant-loop-write
invariant-loop-write l = l.count ≡ sum_by (λ wrote. wrote.1.cells) (take l.write-index l.writes)
