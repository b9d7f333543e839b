use Rattle.std.proofs.Common.{refl}
use Rattle.serving.specs.declared.accepting.Served.TheVariants as served
use Rattle.conversation.specs.Conversation.{at_moment}
use Rattle.desk.specs.Desks.{list_at}
use Rattle.commands.proofs.ServeLemmas.{serves_at, told_of}
use Rattle.commands.proofs.server.serve_through.Goals as goal

-- all connections were accepted, and the history is told
pub returns-in-All-clause-serves : goal.returns-in-All-clause-serves
returns-in-All-clause-serves g c =
    let all = c.serve_all-served in
    let before = at_moment (g.D.Doors.shown c.args.doors.now) (g.O.Sink.written c.args.output.now)
    (g.O.Sink.sink_shortages c.args.output.now) in
    let after = at_moment (g.D.Doors.shown all.new.doors) (g.O.Sink.written c.tell.new.output)
    (g.O.Sink.sink_shortages c.tell.new.output) in
    serves_at g.E.Engine.plain g.E.Engine.cells g.K.Keeper.failures g.K.Keeper.steady (list_at c.args.desk) c.args.desk
    c.args.pass c.args.users.now c.args.limit all.result.0 served.All before after all.result.1 _ _ c.tell.result
    c.served_outcomes.ensures c.requires.desk c.in-All.is all.ensures.served
    (told_of g.E.Engine.cells all.result.1 _ _ _ _ _ _ _ _ c.summary.ensures.accepted c.summary.ensures.cells
    c.summary.ensures.bytes c.tell.ensures.tells)

-- the doors failed, and nothing is told
pub returns-clause-serves : goal.returns-clause-serves
returns-clause-serves g c =
    let all = c.serve_all-served in
    let before = at_moment (g.D.Doors.shown c.args.doors.now) (g.O.Sink.written c.args.output.now)
    (g.O.Sink.sink_shortages c.args.output.now) in
    let after = at_moment (g.D.Doors.shown all.new.doors) (g.O.Sink.written c.args.output.now)
    (g.O.Sink.sink_shortages c.args.output.now) in
    serves_at g.E.Engine.plain g.E.Engine.cells g.K.Keeper.failures g.K.Keeper.steady (list_at c.args.desk) c.args.desk
    c.args.pass c.args.users.now c.args.limit all.result.0 served.DoorFault before after all.result.1 _ _ _
    c.served_outcomes.ensures c.requires.desk c.in-DoorFault.is all.ensures.served (refl, refl)
