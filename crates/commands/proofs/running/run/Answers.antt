use Rattle.commands.proofs.RunLemmas.{exactly_runs}
use Rattle.commands.proofs.running.run.Goals as goal

pub returns-clause-exactly : goal.returns-clause-exactly
returns-clause-exactly g c =
    exactly_runs _ _ _ _ _ _ _ _ c.run_named-finish.result c.status.result c.conversation_laws.ensures.one_talk
    c.run_named-finish.ensures.runs c.status.ensures
