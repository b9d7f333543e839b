use Rattle.world_model.proofs.Filled as filled
use Rattle.world_model.proofs.laws.filled_within_places.Goals as goal

pub returns : goal.returns
returns c = record { sheet = filled.filled_within; book = filled.filled_within_book }
