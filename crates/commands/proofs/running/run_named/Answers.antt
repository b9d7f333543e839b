use Rattle.std.proofs.Common.{refl}
use Rattle.std.specs.Prelude.{None}
use Rattle.commands.specs.Running.{converses}
use Rattle.commands.proofs.FolderLemmas.{asks_users}
use Rattle.commands.proofs.running.run_named.Goals as goal

-- the input was served for the users that the words name
pub returns-in-Ok-clause-runs : goal.returns-in-Ok-clause-runs
returns-in-Ok-clause-runs g c =
    converses _ c.converse_between.result c.in-Ok.ensures.users refl (record {
      ends = c.converse_between.ensures.ends;
      history = c.converse_between.ensures.served.0;
      served = c.converse_between.ensures.served.1;
    })

pub returns-in-Ok-clause-asked : goal.returns-in-Ok-clause-asked
returns-in-Ok-clause-asked g c = asks_users _ None _ _ c.users_of.ensures.shown

pub returns-in-Err-clause-asked : goal.returns-in-Err-clause-asked
returns-in-Err-clause-asked g c = asks_users _ None _ _ c.users_of.ensures.shown
