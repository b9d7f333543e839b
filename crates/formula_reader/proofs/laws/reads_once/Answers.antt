use Rattle.formula_reader.proofs.ReadOnce as once
use Rattle.formula_reader.proofs.laws.reads_once.Goals as goal

pub returns : goal.returns
returns c = once.read_once c.a1_laws.ensures
