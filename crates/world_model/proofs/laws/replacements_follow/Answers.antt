use Rattle.world_model.proofs.Replaced as replaced
use Rattle.world_model.proofs.laws.replacements_follow.Goals as goal

pub returns : goal.returns
returns c = record { follows = replaced.replacements_follow }
