use Rattle.values_api.proofs.WriteOnce as once
use Rattle.values_api.proofs.laws.updates_once.Goals as goal

pub returns : goal.returns
returns c = once.updates_once c.stands_for_some.ensures c.stands_for_apart.ensures
