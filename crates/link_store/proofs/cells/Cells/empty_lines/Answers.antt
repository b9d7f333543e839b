use Rattle.std.proofs.Common.{arith}
use Rattle.link_store.proofs.Emptied.{none_lost}
use Rattle.link_store.proofs.cells.Cells.empty_lines.Goals as goal

pub loop-line-init : goal.loop-line-init
loop-line-init g c = record {
  grid = c.requires.grid;
  lost = none_lost c.args.axis c.args.self.now c.args.start;
  few = omega arith;
  steps = omega arith;
}
