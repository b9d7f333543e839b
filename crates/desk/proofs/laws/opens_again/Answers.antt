use Rattle.desk.proofs.Openings.{can_reopen}
use Rattle.desk.proofs.laws.opens_again.Goals as goal

pub returns : goal.returns
returns g c = can_reopen g.E.Engine.plain
