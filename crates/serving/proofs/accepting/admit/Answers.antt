use Rattle.std.proofs.Common.{refl, ◌∙◌, ap, ◌++◌, ◌∷◌, []}
use Rattle.connections.specs.Calls.{IsAnswer}
use Rattle.serving.proofs.Standing.{asked_as, asked_away, asked_again, started, handed_back}
use Rattle.serving.proofs.accepting.admit.Goals as goal

pub serve_here-requires-in_default-lend-clause-asked : goal.serve_here-requires-in_default-lend-clause-asked
serve_here-requires-in_default-lend-clause-asked g c κs within =
    asked_again (IsAnswer g.E.Engine.plain g.K.Keeper.failures g.K.Keeper.steady) _ _ _
    (asked_as (IsAnswer g.E.Engine.plain g.K.Keeper.failures g.K.Keeper.steady) _ _ _ _ c.acceptor.view_is
    c.requires.asked)
    _ refl refl refl c.reserve.ensures.items c.lend.ensures.old c.lend.ensures.same.1
    (record {
      drawing = c.lend.ensures.same.2;
      seen = c.lend.ensures.same.0;
      count = c.lend.ensures.count;
      met = c.lend.ensures.met;
    })
    c.in_default-lend.ensures.none_drawn

pub take_back-requires-clause-away : goal.take_back-requires-clause-away
take_back-requires-clause-away g c κs within =
    asked_away (IsAnswer g.E.Engine.plain g.K.Keeper.failures g.K.Keeper.steady) _ _ _
    (asked_as (IsAnswer g.E.Engine.plain g.K.Keeper.failures g.K.Keeper.steady) _ _ _ _ c.acceptor.view_is
    c.requires.asked)

pub returns-in-Ok-start-clause-stands : goal.returns-in-Ok-start-clause-stands
returns-in-Ok-start-clause-stands g c =
    started (IsAnswer g.E.Engine.plain g.K.Keeper.failures g.K.Keeper.steady) _ _ _
    (asked_as (IsAnswer g.E.Engine.plain g.K.Keeper.failures g.K.Keeper.steady) _ _ _ _ c.acceptor.view_is
    c.requires.asked)
    c.lend.new.from c.in-Ok.pass
    (record {
      pass_is = c.lend.ensures.old;
      seen = c.lend.ensures.same.0;
      number = c.lend.ensures.same.1;
      drawing = c.lend.ensures.same.2;
      own_seen = c.in-Ok.ensures.new.1;
      next = c.in-Ok.ensures.next;
      exact = c.in-Ok.ensures.exact;
      counted = c.in-Ok.ensures.counted.1;
      own_counted = c.in-Ok.ensures.counted.0;
      met = c.lend.ensures.met;
      other = c.in-Ok.ensures.number.1;
      unused = c.in-Ok.ensures.unused;
    })
    c.push_reserved.new.self.items c.in-Ok-start.started
    (c.push_reserved.ensures.items ∙ ap (λ l. l ++ c.in-Ok-start.started ∷ []) c.reserve.ensures.items)
    c.in-Ok-start.ensures.started

pub returns-in-Err-clause-stands : goal.returns-in-Err-clause-stands
returns-in-Err-clause-stands g c =
    handed_back (IsAnswer g.E.Engine.plain g.K.Keeper.failures g.K.Keeper.steady) _ _ _
    (asked_as (IsAnswer g.E.Engine.plain g.K.Keeper.failures g.K.Keeper.steady) _ _ _ _ c.acceptor.view_is
    c.requires.asked)
    c.lend.new.from c.in-Ok.pass
    (record {
      pass_is = c.lend.ensures.old;
      seen = c.lend.ensures.same.0;
      number = c.lend.ensures.same.1;
      drawing = c.lend.ensures.same.2;
      own_seen = c.in-Ok.ensures.new.1;
      next = c.in-Ok.ensures.next;
      exact = c.in-Ok.ensures.exact;
      counted = c.in-Ok.ensures.counted.1;
      own_counted = c.in-Ok.ensures.counted.0;
      met = c.lend.ensures.met;
      other = c.in-Ok.ensures.number.1;
      unused = c.in-Ok.ensures.unused;
    })
    c.take_back.result (g.D.Doors.shown c.take_back.new.doors)
    (record { ended = c.in-Err.talked.ended; link = g.D.Doors.rest_seen c.in-Err.talked.rest }) c.in-Err.talked.pass
    c.in-Err.ensures.talked c.take_back.ensures.same.begun c.take_back.ensures.same.accepted
    c.take_back.ensures.same.end (c.take_back.ensures.threads ∙ c.reserve.ensures.items) c.take_back.ensures.met
    c.take_back.ensures.shown
