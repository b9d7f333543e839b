use Rattle.values_api.proofs.WriteOnce as once
use Rattle.values_api.proofs.laws.writes_once.Goals as goal

pub returns : goal.returns
returns c = once.writes_once c.reads_once.ensures c.stands_for_some.ensures c.stands_for_apart.ensures
