use Rattle.std.proofs.Common.{refl}
use Rattle.commands.specs.Serving.{no_journal, by_keeper}
use Rattle.commands.proofs.FolderLemmas.{has_kept}
use Rattle.commands.proofs.server.serve_by_journal.Goals as goal

-- the folder handed nothing out
pub returns-in-Err-clause-serves : goal.returns-in-Err-clause-serves
returns-in-Err-clause-serves g c =
    no_journal c.in-Err.fault c.finish_of_load.ensures (record { state_is = refl; written_is = refl })
    c.in-Err.ensures.refused

-- the file has what its keeper told
pub returns-in-Ok-clause-serves : goal.returns-in-Ok-clause-serves
returns-in-Ok-clause-serves g c =
    by_keeper _ _ c.in-Ok.ensures.bytes c.serve_kept-finish.ensures.serves
    (has_kept c.args.name.now _ _ _ _ c.in-Ok.ensures.shown c.kept_back.ensures.shown)
