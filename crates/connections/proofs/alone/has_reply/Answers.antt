use Rattle.connections.proofs.Replied.{has_reply}
use Rattle.connections.proofs.alone.has_reply.Goals as goal

pub returns : goal.returns
returns g c = has_reply g.E.Engine.plain
