use Rattle.connections.specs.Calls.{IsAnswer}
use Rattle.serving.proofs.Standing.{asked_as, served_own}
use Rattle.serving.proofs.accepting.Acceptor.serve_here.Goals as goal

pub returns-clause-stands : goal.returns-clause-stands
returns-clause-stands g c =
    served_own (IsAnswer g.E.Engine.plain g.K.Keeper.failures g.K.Keeper.steady) _ _ _
    (asked_as (IsAnswer g.E.Engine.plain g.K.Keeper.failures g.K.Keeper.steady) _ _ _ _ c.self.view_is c.requires.asked)
    c.talk-ended.result.pass (g.D.Doors.shown c.back.new.self)
    (record { ended = c.talk-ended.result.ended; link = g.D.Doors.rest_seen c.talk-ended.result.rest })
    c.talk-ended.ensures.talked c.talk-ended.ensures.drawing c.talk-ended.ensures.met c.back.ensures.shown
