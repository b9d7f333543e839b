use Rattle.std.proofs.Common.{refl}
use Rattle.commands.specs.Serving.{from}
use Rattle.commands.proofs.server.serve_kept.Goals as goal

-- the desk begins with the journal's history
pub returns-in-Ok-clause-serves : goal.returns-in-Ok-clause-serves
returns-in-Ok-clause-serves g c =
    from _ c.serve_from-ended.result.0 c.in-Ok.ensures.opened refl c.serve_from-ended.ensures.serves
