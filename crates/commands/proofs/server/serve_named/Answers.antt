use Rattle.std.proofs.Common.{refl, ap}
use Rattle.std.specs.Option.{option_copied}
use Rattle.commands.specs.Serving.{in_memory}
use Rattle.commands.proofs.FolderLemmas.{asks_users}
use Rattle.commands.proofs.ServeLemmas.{by_journal_told}
use Rattle.commands.proofs.server.serve_named.Goals as goal

-- there are no users
pub returns-in-Err-clause-asked : goal.returns-in-Err-clause-asked
returns-in-Err-clause-asked g c = asks_users _ _ _ _ c.users_of.ensures.shown

-- no journal is named
pub returns-in-None-clause-serves : goal.returns-in-None-clause-serves
returns-in-None-clause-serves g c =
    in_memory _ c.serve_in_memory.result c.in-Ok.ensures.users (ap option_copied c.in-None.is) refl
    c.serve_in_memory.ensures.serves

pub returns-in-None-clause-asked : goal.returns-in-None-clause-asked
returns-in-None-clause-asked g c = asks_users _ _ _ _ c.users_of.ensures.shown

-- the journal is that of the name
pub returns-clause-serves : goal.returns-clause-serves
returns-clause-serves g c =
    by_journal_told g.E.Engine.plain g.E.Engine.cells _ _ _ _ _ _ c.in-Some.name.now _ _ _ _ _ _ _
    c.in-Ok.ensures.users (ap option_copied c.in-Some.is) c.users_of.ensures.shown c.serve_by_journal.ensures.serves
