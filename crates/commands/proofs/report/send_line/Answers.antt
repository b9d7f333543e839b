use Rattle.std.proofs.Common.{◌++◌, codes}
use Rattle.std.specs.Fmt.{decimal}
use Rattle.commands.proofs.SendLemmas.{Sends-then, Sends-cut}
use Rattle.commands.proofs.report.send_line.Goals as goal

pub returns-in-Ok-clause-sends : goal.returns-in-Ok-clause-sends
returns-in-Ok-clause-sends g c =
    Sends-then _ _ _ c.args.text.now (decimal c.args.count ++ codes "\n") _ _ c.in-Ok.ensures.sent
    c.send_count.ensures.sends

pub returns-in-Err-clause-sends : goal.returns-in-Err-clause-sends
returns-in-Err-clause-sends g c =
    Sends-cut _ _ c.args.text.now (decimal c.args.count ++ codes "\n") c.in-Err.fault c.in-Err.ensures.sent
