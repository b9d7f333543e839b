use Rattle.values_api.proofs.AppendOnce as once
use Rattle.values_api.proofs.laws.appends_once.Goals as goal

pub returns : goal.returns
returns c = once.appends_once c.writes_once.ensures c.changes_apart.ensures c.changes_in_turn.ensures
