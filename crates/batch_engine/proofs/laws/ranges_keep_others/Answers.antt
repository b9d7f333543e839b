use Rattle.batch_engine.proofs.RangesKept.{update_keeps}
use Rattle.batch_engine.proofs.laws.ranges_keep_others.Goals as goal

pub returns : goal.returns
returns c =
    let keep = c.untouched_cells_keep.ensures in
    record { write = update_keeps keep; clear = λ book found sheet. keep.clear book found.0 }
