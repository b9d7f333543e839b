use Rattle.values_api.specs.Reading.{cell_read}
use Rattle.values_api.proofs.Ending.{made_next}
use Rattle.values_api.proofs.shown.Reading.line.Goals as goal

pub loop-place-preserved : goal.loop-place-preserved
loop-place-preserved c =
    made_next (cell_read c.args.self.now c.args.line) c.loop-place.place c.loop-place.cells.items c.push.new.self.items
    c.in_ok-cell.field-0 c.in_ok-push.ensures.items c.in_ok-cell.ensures c.loop-place.invariant
