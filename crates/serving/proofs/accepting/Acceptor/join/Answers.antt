use Rattle.std.proofs.Common.{◌<◌, length, sym, subst, ◌∙◌}
use Rattle.desk.specs.declared.desk.Desk.{Desk}
use Rattle.desk.specs.Desks.{IsPass}
use Rattle.connections.specs.Calls.{IsAnswer}
use Rattle.serving.specs.Serving.{Accepting, Stands}
use Rattle.serving.proofs.Standing.{of_desk, thread_away, joined}
use Rattle.serving.proofs.accepting.Acceptor.join.Goals as goal

pub take_back-requires-clause-talked : goal.take_back-requires-clause-talked
take_back-requires-clause-talked g c κs within =
    subst (λ (d : Desk _ _ _ _). IsPass d c.join-talked.result.pass)
    (of_desk (IsAnswer g.E.Engine.plain g.K.Keeper.failures g.K.Keeper.steady) _
    (g.D.Doors.shown c.args.doors.now) c.args.at c.remove-started.result
    (subst (λ (a : Accepting _ _ _ _). Stands (IsAnswer g.E.Engine.plain g.K.Keeper.failures g.K.Keeper.steady) a
    (g.D.Doors.shown c.args.doors.now)) (sym c.acceptor.view_is) c.requires.stands)
    (subst (λ (a : Accepting _ _ _ _). c.args.at < length a.threads) (sym c.acceptor.view_is) c.requires.at)
    c.remove-started.ensures.value)
    c.join-talked.ensures.pass_is

pub take_back-requires-clause-away : goal.take_back-requires-clause-away
take_back-requires-clause-away g c κs within =
    thread_away (IsAnswer g.E.Engine.plain g.K.Keeper.failures g.K.Keeper.steady) _
    (g.D.Doors.shown c.args.doors.now) c.args.at
    c.remove-started.result
    (subst (λ (a : Accepting _ _ _ _). Stands (IsAnswer g.E.Engine.plain g.K.Keeper.failures g.K.Keeper.steady) a
    (g.D.Doors.shown c.args.doors.now)) (sym c.acceptor.view_is) c.requires.stands)
    (subst (λ (a : Accepting _ _ _ _). c.args.at < length a.threads) (sym c.acceptor.view_is) c.requires.at)
    c.remove-started.ensures.value c.number-number.result c.number-number.ensures

pub returns-clause-stands : goal.returns-clause-stands
returns-clause-stands g c =
    joined (IsAnswer g.E.Engine.plain g.K.Keeper.failures g.K.Keeper.steady) _
    (g.D.Doors.shown c.args.doors.now) c.args.at
    c.remove-started.result
    (subst (λ (a : Accepting _ _ _ _). Stands (IsAnswer g.E.Engine.plain g.K.Keeper.failures g.K.Keeper.steady) a
    (g.D.Doors.shown c.args.doors.now)) (sym c.acceptor.view_is) c.requires.stands)
    (subst (λ (a : Accepting _ _ _ _). c.args.at < length a.threads) (sym c.acceptor.view_is) c.requires.at)
    c.remove-started.ensures.value c.take_back.result (g.D.Doors.shown c.take_back.new.doors) c.number-number.result
    (record { ended = c.join-talked.result.ended; link = g.D.Doors.rest_seen c.join-talked.result.rest })
    c.join-talked.result.pass c.number-number.ensures c.join-talked.ensures c.take_back.ensures.same.begun
    c.take_back.ensures.same.accepted c.take_back.ensures.same.end
    (c.take_back.ensures.threads ∙ c.remove-started.ensures.by_index.2) c.take_back.ensures.met
    c.take_back.ensures.shown
