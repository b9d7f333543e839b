use Rattle.desk.proofs.Replies.{one_step}
use Rattle.desk.proofs.laws.one_step.Goals as goal

pub returns : goal.returns
returns g c = one_step g.E.Engine.plain c.one_outcome.ensures
