use Rattle.desk.proofs.Accepts.{one_history, nowhere_bad}
use Rattle.desk.proofs.laws.one_history.Goals as goal

pub returns-clause-one : goal.returns-clause-one
returns-clause-one g c = one_history g.E.Engine.plain

pub returns-clause-good : goal.returns-clause-good
returns-clause-good g c = nowhere_bad g.E.Engine.plain
