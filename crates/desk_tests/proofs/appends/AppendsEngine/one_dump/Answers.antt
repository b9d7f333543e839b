use Rattle.desk_tests.proofs.Laws.{one_dump}
use Rattle.desk_tests.proofs.appends.AppendsEngine.one_dump.Goals as goal

pub returns : goal.returns
returns c = one_dump
