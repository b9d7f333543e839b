use Rattle.batch_engine.proofs.Answering.{looks_answered}
use Rattle.batch_engine.proofs.laws.looks_answered.Goals as goal

pub returns : goal.returns
returns c =
    looks_answered c.reads_answered.ensures c.have_order.ensures c.areas_empty.ensures c.updates_are_changes.ensures
    c.changes_in_turn.ensures
