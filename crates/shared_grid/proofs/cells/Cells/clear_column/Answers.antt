use Rattle.std.proofs.Common.{◌≤◌, ℕ, length, sym, ap, subst, arith}
use Rattle.shared_map.specs.Map.{AreKeysWithin}
use Rattle.shared_grid.specs.Cells.{key_of, HasMarks}
use Rattle.shared_grid.proofs.Cleared.{none_taken, one_taken, column_cleared, at_column}
use Rattle.shared_grid.proofs.Keys.{as_keys}
use Rattle.shared_grid.proofs.cells.Cells.clear_column.Goals as goal

pub loop-mark-init : goal.loop-mark-init
loop-mark-init g c = record {
  taken = none_taken c.args.self.now (at_column c.args.column c.as_slice-mark-items.result.now);
  steps = omega (arith, c.tick.ensures);
}

pub loop-mark-preserved : goal.loop-mark-preserved
loop-mark-preserved g c = record {
  taken =
      one_taken c.args.self.now c.loop-mark.self (at_column c.args.column c.as_slice-mark-items.result.now)
      c.loop-mark.mark-index c.loop-mark.invariant.taken (key_of c.across.result c.args.column) c.drop_item.new.self
      (ap (λ (row : ℕ). key_of row c.args.column) c.across.ensures) c.in_ok-drop_item.ensures.dropped;
  steps = omega (arith, c.loop-mark.invariant.steps, c.in_ok-drop_item.ensures.steps);
}

pub returns-clause-cleared : goal.returns-clause-cleared
returns-clause-cleared g c =
    let all : length c.as_slice-mark-items.result.now ≤ c.loop-mark.mark-index =
    omega (arith, c.loop-mark-test.false) in
    column_cleared c.args.self.now c.loop-mark.self c.self.inside.marks
    (subst (λ items. HasMarks items c.self.inside.marks) c.self.view_is c.self.invariant) c.args.column c.key.result
    c.key-2.result c.as_slice-mark-items.result.now c.loop-mark.mark-index (omega arith) c.key.ensures
    c.key-2.ensures all
    (subst (AreKeysWithin c.key.result c.key-2.result c.self.inside.marks) (sym c.as_slice-mark-items.ensures.value)
    (as_keys (AreKeysWithin c.key.result c.key-2.result c.self.inside.marks) c.in_ok-marks.marks.items
    c.in_ok-marks.ensures))
    c.loop-mark.invariant.taken
