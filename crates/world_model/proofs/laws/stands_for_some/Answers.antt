use Rattle.world_model.proofs.Called as called
use Rattle.world_model.proofs.laws.stands_for_some.Goals as goal

pub returns : goal.returns
returns c = record { stands = called.stands_for_some }
