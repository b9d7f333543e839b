use Rattle.formula_reader.proofs.Changed as changed
use Rattle.formula_reader.proofs.laws.limits_stay.Goals as goal

pub returns : goal.returns
returns c = changed.limits_stay
