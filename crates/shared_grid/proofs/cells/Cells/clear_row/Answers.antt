use Rattle.std.proofs.Common.{◌≤◌, length, sym, ap, subst, arith}
use Rattle.shared_grid.specs.Cells.{key_of, AreKeysOnRow}
use Rattle.shared_grid.proofs.Cleared.{none_taken, one_taken, row_cleared, at_row}
use Rattle.shared_grid.proofs.cells.Cells.clear_row.Goals as goal

pub loop-key-init : goal.loop-key-init
loop-key-init g c = record {
  taken = none_taken c.args.self.now (at_row c.args.row c.as_slice-key-items.result.now);
  steps = omega (arith, c.tick.ensures);
}

pub loop-key-preserved : goal.loop-key-preserved
loop-key-preserved g c = record {
  taken =
      one_taken c.args.self.now c.loop-key.self (at_row c.args.row c.as_slice-key-items.result.now)
      c.loop-key.key-index c.loop-key.invariant.taken (key_of c.args.row c.across.result) c.drop_item.new.self
      (ap (key_of c.args.row) c.across.ensures) c.in_ok-drop_item.ensures.dropped;
  steps = omega (arith, c.loop-key.invariant.steps, c.in_ok-drop_item.ensures.steps);
}

pub returns-clause-cleared : goal.returns-clause-cleared
returns-clause-cleared g c =
    let keys = c.as_slice-key-items.result.now in
    let all : length c.as_slice-key-items.result.now ≤ c.loop-key.key-index = omega (arith, c.loop-key-test.false) in
    row_cleared c.args.self.now c.loop-key.self c.args.row keys c.loop-key.key-index (omega arith) all
    (subst (AreKeysOnRow c.args.row c.args.self.now) (sym c.as_slice-key-items.ensures.value) c.in_ok-keys.ensures)
    c.loop-key.invariant.taken
