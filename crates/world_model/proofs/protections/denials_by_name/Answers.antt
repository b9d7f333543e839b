use Rattle.world_model.proofs.Protected.{denials_by_name}
use Rattle.world_model.proofs.protections.denials_by_name.Goals as goal

pub returns : goal.returns
returns c = record { denied = denials_by_name }
