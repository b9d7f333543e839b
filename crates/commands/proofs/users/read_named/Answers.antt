use Rattle.std.proofs.Common.{subst, sym}
use Rattle.std.specs.Prelude.{Some}
use Rattle.commands.specs.declared.finish.Finish.{Finish}
use Rattle.commands.specs.Users.{IsUsersFault}
use Rattle.commands.proofs.UsersLemmas.{fault_told}
use Rattle.commands.proofs.users.read_named.Goals as goal

-- why there is no table
pub returns-in-Err-read-clause-fault : goal.returns-in-Err-read-clause-fault
returns-in-Err-read-clause-fault g c =
    subst (λ (finish : Finish). IsUsersFault (g.F.Folder.shown c.args.folder.now) (Some c.args.name.now) finish)
    (sym c.finish_of_users.ensures)
    (fault_told (g.F.Folder.shown c.args.folder.now) c.args.name.now _
    c.in-Err-read.fault c.read_users-read.result c.in-Err-read.is c.in-Ok.ensures.found c.in-Ok.ensures.bytes
    c.read_users-read.ensures.long c.read_users-read.ensures.bad c.read_users-read.ensures.bad_within)
