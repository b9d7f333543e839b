use Rattle.desk_tests.proofs.Laws.{served}
use Rattle.desk_tests.proofs.appends.AppendsEngine.served_outcomes.Goals as goal

pub returns : goal.returns
returns c = served
