use Rattle.std.proofs.Common.{◌≡◌, ◌≤◌, length}
use Rattle.connections.specs.Calls.{IsAnswer}
use Rattle.serving.specs.Serving.{Stands}
use Rattle.serving.proofs.accepting.Acceptor.reap.Given as goal

abbrev pub invariant-loop-at : goal.invariant-loop-at
invariant-loop-at g l = record {
  stands : Stands (IsAnswer g.E.Engine.plain g.K.Keeper.failures g.K.Keeper.steady) l.acceptor
      (g.D.Doors.shown l.doors);
  begun : l.acceptor.begun ≡ l.fn.self.begun;
  accepted : l.acceptor.accepted ≡ l.fn.self.accepted;
  end : l.acceptor.end ≡ l.fn.self.end;
  within : l.at ≤ length l.acceptor.threads;
  failures : g.D.Doors.failures l.doors ≡ g.D.Doors.failures l.initial.doors;
  steady : g.D.Doors.steady l.doors ≡ g.D.Doors.steady l.initial.doors;
}

abbrev pub decreases-loop-at : goal.decreases-loop-at
decreases-loop-at g l = l.at
