use Rattle.std.proofs.Common.{arith}
use Rattle.json_requests.proofs.FilterLemmas.{some_are_not_none}
use Rattle.json_requests.proofs.filter_condition.if_empty.Goals as goal

pub returns-in-len1-up : goal.returns-in-len1-up
returns-in-len1-up c = some_are_not_none c.args.values.now (omega (arith, c.in-len1-up.len_at_least))
