use Rattle.dimension_ops.proofs.OpeningNames as opening
use Rattle.dimension_ops.proofs.laws.opening_stands.Goals as goal

pub returns : goal.returns
returns c = opening.opening_stands
