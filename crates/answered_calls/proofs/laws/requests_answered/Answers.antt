use Rattle.answered_calls.proofs.Replying.{requests_answered}
use Rattle.answered_calls.proofs.laws.requests_answered.Goals as goal

pub returns : goal.returns
returns c =
    requests_answered c.asks_answered.ensures c.calls_answered.ensures c.names_apart.ensures c.has_reply.ensures
