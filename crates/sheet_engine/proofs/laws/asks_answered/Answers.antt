use Rattle.sheet_engine.proofs.HasOutcome.{asks_answered}
use Rattle.sheet_engine.proofs.laws.asks_answered.Goals as goal

pub returns : goal.returns
returns c = asks_answered c.has_route.ensures c.looks_answered.ensures
