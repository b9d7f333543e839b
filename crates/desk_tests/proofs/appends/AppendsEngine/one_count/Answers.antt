use Rattle.desk_tests.proofs.Laws.{one_count}
use Rattle.desk_tests.proofs.appends.AppendsEngine.one_count.Goals as goal

pub returns : goal.returns
returns c = one_count
