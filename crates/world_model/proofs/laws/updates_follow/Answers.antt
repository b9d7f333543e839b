use Rattle.world_model.proofs.Updated as updated
use Rattle.world_model.proofs.laws.updates_follow.Goals as goal

pub returns : goal.returns
returns c = record { follows = updated.updates_follow }
