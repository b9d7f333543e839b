use Rattle.std.proofs.Common.{ℕ, subst, arith}
use Rattle.shared_grid.specs.Sheets.{AreCleared}
use Rattle.shared_grid.proofs.Cleared.{no_lines, line_more}
use Rattle.shared_grid.proofs.cells.Cells.drop_lines.Goals as goal

pub loop-line-init : goal.loop-line-init
loop-line-init g c = record {
  cleared = no_lines c.args.axis c.args.order.now c.args.first c.args.self.now;
  steps = omega arith;
}

pub loop-line-preserved : goal.loop-line-preserved
loop-line-preserved g c = record {
  cleared = line_more c.args.axis c.args.order.now c.args.first c.loop-line.line c.number.result
      c.args.self.now c.loop-line.self c.clear.new.self (omega arith) c.number.ensures c.loop-line.invariant.cleared
      c.in_ok-clear.ensures.cleared;
  steps = omega (arith, c.loop-line.invariant.steps, c.in_ok-clear.ensures.steps);
}

pub returns-clause-cleared : goal.returns-clause-cleared
returns-clause-cleared g c = subst (λ (line : ℕ). AreCleared c.args.axis c.args.order.now c.args.first line
    c.args.self.now c.loop-line.self) (omega arith) c.loop-line.invariant.cleared
