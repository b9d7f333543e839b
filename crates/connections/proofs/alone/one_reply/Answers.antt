use Rattle.connections.proofs.NobodyElse.{one_reply}
use Rattle.connections.proofs.alone.one_reply.Goals as goal

pub returns : goal.returns
returns g c = one_reply g.E.Engine.plain c.one_step.ensures
