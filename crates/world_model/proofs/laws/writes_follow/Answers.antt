use Rattle.world_model.proofs.Written as written
use Rattle.world_model.proofs.laws.writes_follow.Goals as goal

pub returns : goal.returns
returns c = record { follows = written.writes_follow }
