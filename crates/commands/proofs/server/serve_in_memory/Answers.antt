use Rattle.std.proofs.Common.{Some, ap, ◌∙◌}
use Rattle.commands.proofs.ServeLemmas.{in_memory_told}
use Rattle.commands.proofs.server.serve_in_memory.Goals as goal

-- the desk begins with nothing
pub returns-in-Ok-clause-serves : goal.returns-in-Ok-clause-serves
returns-in-Ok-clause-serves g c =
    in_memory_told g.E.Engine.plain g.E.Engine.cells c.args.users.now c.args.port c.args.limit _ _ _
    c.serve_from-ended.result.1 c.serve_from-ended.result.0
    (c.in-Ok.ensures.empty (ap Some (c.new-keeper.ensures ∙ c.new.ensures.items))) c.serve_from-ended.ensures.serves
