use Rattle.desk.specs.Desks.{list_at}
use Rattle.connections.specs.Calls.{IsAnswer}
use Rattle.serving.specs.Serving.{Begun}
use Rattle.serving.proofs.Standing.{ends, visitors_alone, never_fails}
use Rattle.serving.proofs.accepting.serve_all.Goals as goal

pub returns-clause-served : goal.returns-clause-served
returns-clause-served g c =
    let threads = c.serve_by_threads-served in
    let closed = c.close-history.ensures in
    let answers = IsAnswer g.E.Engine.plain g.K.Keeper.failures g.K.Keeper.steady in
    let begun : Begun _ _ _ _ = record {
      desk = c.args.desk;
      users = c.args.users.now;
      pass = c.args.pass;
      shown = g.D.Doors.shown c.args.doors.now;
    } in
    let shown = g.D.Doors.shown threads.new.doors in
    let (talked, visits_are) = ends answers begun threads.result.1 closed.told closed.begins closed.done c.args.limit
    threads.result.0 shown closed.not_own threads.ensures.talked in
    record {
      told = closed.told;
      talked = talked;
      numbered = closed.numbered;
      visitors = visitors_alone answers begun threads.result.1 closed.told closed.begins closed.done c.args.limit
          threads.result.0 shown (list_at c.args.desk) c.requires.pass.begins closed.alone talked threads.ensures.talked
          visits_are;
      entries_are = closed.entries_are;
      accepted = closed.accepted;
      counted = closed.counted;
      keeps = closed.keeps;
    }

pub returns-clause-steady : goal.returns-clause-steady
returns-clause-steady g c =
    let threads = c.serve_by_threads-served in
    never_fails threads.result.0 (g.D.Doors.steady c.args.doors.now) (g.D.Doors.steady threads.new.doors)
    (g.D.Doors.failures c.args.doors.now) (g.D.Doors.failures threads.new.doors) threads.ensures.cause
    threads.ensures.stays c.steady_doors.ensures
