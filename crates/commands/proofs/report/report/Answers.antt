use Rattle.std.proofs.Common.{sym, ap}
use Rattle.commands.specs.Finish.{line_of}
use Rattle.commands.proofs.SendLemmas.{says_same}
use Rattle.commands.proofs.report.report.Goals as goal

-- The line of each case is the one that is said in it.

pub returns-in-UsersLong-clause-says : goal.returns-in-UsersLong-clause-says
returns-in-UsersLong-clause-says g c = says_same (ap line_of (sym c.in-UsersLong.is)) c.say.ensures.says

pub returns-in-BadJournal-clause-says : goal.returns-in-BadJournal-clause-says
returns-in-BadJournal-clause-says g c =
    says_same (ap line_of (sym c.in-BadJournal.is)) c.say_count-in-BadJournal.ensures.says

pub returns-in-JournalLong-clause-says : goal.returns-in-JournalLong-clause-says
returns-in-JournalLong-clause-says g c =
    says_same (ap line_of (sym c.in-JournalLong.is)) c.say-in-JournalLong.ensures.says

pub returns-in-Unavailable-clause-says : goal.returns-in-Unavailable-clause-says
returns-in-Unavailable-clause-says g c =
    says_same (ap line_of (sym c.in-Unavailable.is)) c.say-in-Unavailable.ensures.says
