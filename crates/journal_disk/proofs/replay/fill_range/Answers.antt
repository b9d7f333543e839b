use Rattle.std.proofs.Common.{rules}
use Rattle.std.proofs.lemmas.Grind.{common_steps}
use Rattle.journal_disk.proofs.replay.fill_range.Goals as goal

pub returns : goal.returns
returns c = (c.fill.new.part, search rules, search (rules, common_steps))
