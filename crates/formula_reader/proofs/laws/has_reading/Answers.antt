use Rattle.formula_reader.proofs.HasReading.{has_reading, reads_are_there}
use Rattle.formula_reader.proofs.laws.has_reading.Goals as goal

pub returns-clause-some : goal.returns-clause-some
returns-clause-some c = has_reading

pub returns-clause-there : goal.returns-clause-there
returns-clause-there c = reads_are_there c.a1_laws.ensures
