use Rattle.answered_calls.proofs.NamesApart.{names_apart}
use Rattle.answered_calls.proofs.laws.names_apart.Goals as goal

pub returns : goal.returns
returns c = names_apart c.changes_apart.ensures c.stands_for_some.ensures
