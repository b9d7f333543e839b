use Rattle.formula_reader.proofs.PrintedReferences as printed
use Rattle.formula_reader.proofs.laws.prints_canonically.Goals as goal

pub returns : goal.returns
returns c = printed.prints_canonically
