use Rattle.std.proofs.Common.{◌∙◌, ◌-◌, arith, sym}
use Rattle.std.proofs.lemmas.Bool.{false≢true}
use Rattle.protection.specs.Sweep.{HasNoFreeBelow}
use Rattle.protection.proofs.Sweeping.{at_each, IsFreeColumn-first}
use Rattle.protection.proofs.sweep.has_free_cell.Goals as goal

pub loop-range-preserved : goal.loop-range-preserved
loop-range-preserved c =
    at_each (λ range. HasNoFreeBelow c.args.sheet c.args.rows c.args.cols c.args.by_col.now range)
    _ _ _ c.loop-range-test.true c.loop-range.invariant
    (c.has_free_below.ensures.none c.if-has_free_below.false)

pub returns : goal.returns
returns c = (
  λ yes. absurd (false≢true yes),
  λ free. absurd (false≢true (sym c.if-has_free_column.false ∙ c.has_free_column.ensures.1
      (IsFreeColumn-first (free.0 - c.args.rows.0) free.0 _ _ _ _
      (λ k d lt. c.loop-range.invariant k d (omega arith)) (omega (arith, free.1.0)) free.1.1 free.2))),
)
