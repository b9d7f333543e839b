use Rattle.std.proofs.Common.{refl}
use Rattle.desk.specs.Desks.{list_at}
use Rattle.commands.specs.Serving.{no_doors}
use Rattle.commands.proofs.ServeLemmas.{keeps_start, never_rises}
use Rattle.commands.proofs.server.serve_from.Goals as goal

-- the doors couldn't be opened, and the desk is closed with what it was opened with
pub returns-in-Err-clause-serves : goal.returns-in-Err-clause-serves
returns-in-Err-clause-serves g c =
    no_doors refl (record { state_is = c.open.ensures.opened; written_is = refl })
    (keeps_start g.E.Engine.plain (list_at c.args.desk) c.args.desk c.args.pass c.requires.desk _ _ _ _
    c.close-keeper.ensures)

-- steady doors can be opened
pub returns-in-Err-clause-steady_read : goal.returns-in-Err-clause-steady_read
returns-in-Err-clause-steady_read g c = λ steady same.
    never_rises _ _ _ _ (c.steady_doors.ensures steady) c.open.ensures.steady steady
    c.in-Err.ensures.cause
