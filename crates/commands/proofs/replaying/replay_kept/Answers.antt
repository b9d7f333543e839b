use Rattle.commands.proofs.ReplayLemmas.{kept_told}
use Rattle.commands.proofs.replaying.replay_kept.Goals as goal

-- what is told is the history of the journal
pub returns-in-Ok-clause-replays : goal.returns-in-Ok-clause-replays
returns-in-Ok-clause-replays g c =
    kept_told g.E.Engine.plain g.E.Engine.dumps (g.K.Keeper.kept c.args.keeper) c.in-Ok.state.list
    c.into_history-history.result.0 _ _ _ _ c.dump.result c.in-Ok.ensures.opened c.into_history-history.ensures.history
    c.dump.ensures.tells
