use Rattle.std.proofs.Common.{arith}
use Rattle.json_requests.proofs.FilterLemmas.{sole_of_more}
use Rattle.json_requests.proofs.filter_condition.alone.Goals as goal

pub returns-in-len1-up : goal.returns-in-len1-up
returns-in-len1-up c =
    sole_of_more c.args.front.now c.args.last (omega (arith, c.in-len1-up.len_at_least))
