use Rattle.batch_engine.proofs.Ranged.{put_done}
use Rattle.batch_engine.proofs.answers.put.Goals as goal

pub returns : goal.returns
returns c =
    put_done c.args.user.now c.args.book.now c.write_values.new.book c.args.block.now c.args.area.now c.args.one_cell
    c.updates_are_changes.ensures c.updates_once.ensures
    c.in_ok-written.written c.in_ok-update_of.field-0 c.in_ok-written.ensures.written c.in_ok-update_of.ensures
