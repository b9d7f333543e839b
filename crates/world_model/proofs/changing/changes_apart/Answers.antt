use Rattle.world_model.proofs.Changes as changing
use Rattle.world_model.proofs.changing.changes_apart.Goals as goal

pub returns : goal.returns
returns c = record { same = changing.changes_apart c.stands_for_some.ensures c.stands_for_apart.ensures }
