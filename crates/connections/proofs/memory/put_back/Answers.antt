use Rattle.connections.proofs.Visits.{back_shown}
use Rattle.connections.proofs.memory.put_back.Goals as goal

pub returns-clause-back : goal.returns-clause-back
returns-clause-back g c = λ seen.
    back_shown seen c.args.ended c.args.link c.args.accepted.now.items c.args.number c.index_mut-visit.result.now
    c.index_mut-visit.ensures.value
