use Rattle.formula_reader.proofs.PrintedTwice as twice
use Rattle.formula_reader.proofs.laws.prints_the_same.Goals as goal

pub returns : goal.returns
returns c = twice.prints_the_same
