use Rattle.desk.proofs.Readings.{one_reading}
use Rattle.desk.proofs.laws.one_reading.Goals as goal

pub returns : goal.returns
returns c = one_reading
