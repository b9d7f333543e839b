use Rattle.std.proofs.Common.{◌∙◌, arith, sym}
use Rattle.std.proofs.lemmas.Bool.{false≢true}
use Rattle.protection.proofs.Sweeping.{Passed-covers, Passed-skips}
use Rattle.protection.proofs.sweep.has_free_column_by_pass.Goals as goal
use Rattle.protection.proofs.sweep.has_free_column_by_pass.Goals.{then-has_cell, else-has_cell}

pub loop-range-init : goal.loop-range-init
loop-range-init c = record {
  begun = omega arith;
  covered = λ col from below. absurd (omega arith);
  not_had = λ k d less. absurd (omega arith);
}

pub loop-range-preserved : goal.loop-range-preserved
loop-range-preserved c = elim c.if-has_cell.branch [
  | then-has_cell w ↦ rw (w.reached-is, w.end_line-reached.ensures)
      (Passed-covers _ _ _ _ _ _ _ c.requires c.loop-range-test.true (omega arith)
      (c.has_cell.ensures.0 w.if-has_cell.true) c.loop-range.invariant)
  | else-has_cell w ↦ rw w.reached-is
      (Passed-skips _ _ _ _ _ _ _ c.loop-range-test.true
      (λ has. false≢true (sym w.if-has_cell.false ∙ c.has_cell.ensures.1 has)) c.loop-range.invariant)
]
