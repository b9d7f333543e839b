use Rattle.std.proofs.Common.{refl}
use Rattle.commands.specs.Replaying.{no_journal, by_keeper}
use Rattle.commands.proofs.replaying.replay_named.Goals as goal

-- the folder handed nothing out
pub returns-in-Err-clause-replays : goal.returns-in-Err-clause-replays
returns-in-Err-clause-replays g c = no_journal c.in-Err.fault c.finish_of_load.ensures refl

-- the journal is that of the name
pub returns-in-Ok-clause-replays : goal.returns-in-Ok-clause-replays
returns-in-Ok-clause-replays g c = by_keeper _ c.in-Ok.ensures.bytes c.replay_kept-finish.ensures.replays
