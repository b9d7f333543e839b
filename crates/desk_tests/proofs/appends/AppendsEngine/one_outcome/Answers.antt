use Rattle.desk_tests.proofs.Laws.{one_outcome}
use Rattle.desk_tests.proofs.appends.AppendsEngine.one_outcome.Goals as goal

pub returns : goal.returns
returns c = one_outcome
