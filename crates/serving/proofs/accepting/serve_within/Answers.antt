use Rattle.std.proofs.Common.{◌∙◌}
use Rattle.connections.specs.Calls.{IsAnswer}
use Rattle.serving.proofs.Standing.{ended}
use Rattle.serving.proofs.accepting.serve_within.Goals as goal

pub returns-clause-talked : goal.returns-clause-talked
returns-clause-talked g c =
    let accepted = c.accept_all-acceptor.ensures in
    let left = c.join_all-acceptor.ensures in
    ended (IsAnswer g.E.Engine.plain g.K.Keeper.failures g.K.Keeper.steady) c.join_all-acceptor.result
    (record {
      desk = c.args.desk.now;
      users = c.args.users.now;
      pass = c.args.pass;
      shown = g.D.Doors.shown c.args.doors.now;
    })
    c.into_parts-served.result.1 c.args.limit c.into_parts-served.result.0 c.accept_all-acceptor.result.end
    c.accept_all-acceptor.result.accepted (g.D.Doors.shown c.join_all-acceptor.new.doors)
    (left.same.begun ∙ accepted.begun ∙ c.new-acceptor.ensures.begun) c.into_parts-served.ensures.1
    c.into_parts-served.ensures.0 left.same.end left.same.accepted left.none accepted.accepted left.stands
