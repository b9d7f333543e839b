use Rattle.std.proofs.Common.{ap}
use Rattle.connections.specs.Calls.{IsAnswer}
use Rattle.serving.proofs.Standing.{begins}
use Rattle.serving.proofs.accepting.Acceptor.new.Goals as goal

pub returns-clause-stands : goal.returns-clause-stands
returns-clause-stands g c =
    begins (IsAnswer g.E.Engine.plain g.K.Keeper.failures g.K.Keeper.steady)
    (record {
      desk = c.args.desk.now;
      users = c.args.users.now;
      pass = c.of-first.result.value;
      shown = g.D.Doors.shown c.of.result.value;
    })
    c.args.pass c.new.result.items (g.D.Doors.shown c.args.doors.now) c.requires.pass c.of-first.ensures
    c.new.ensures.items (ap g.D.Doors.shown c.of.ensures) c.requires.new_doors
