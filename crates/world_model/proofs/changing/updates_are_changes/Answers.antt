use Rattle.world_model.proofs.Changes as changing
use Rattle.world_model.proofs.changing.updates_are_changes.Goals as goal

pub returns : goal.returns
returns c = record { changes = changing.updates_are_changes }
