use Rattle.std.proofs.Common.{sym, ap}
use Rattle.commands.specs.Finish.{line_at_end}
use Rattle.commands.proofs.SendLemmas.{says_same}
use Rattle.commands.proofs.report.report_end.Goals as goal

-- The line of each case is the one that is said in it.

pub returns-in-ReadFault-clause-says : goal.returns-in-ReadFault-clause-says
returns-in-ReadFault-clause-says g c = says_same (ap line_at_end (sym c.in-ReadFault.is)) c.say.ensures.says

pub returns-in-WriteFault-clause-says : goal.returns-in-WriteFault-clause-says
returns-in-WriteFault-clause-says g c =
    says_same (ap line_at_end (sym c.in-WriteFault.is)) c.say-in-WriteFault.ensures.says
