use Rattle.std.proofs.Common.{◌≡◌, length}
use Rattle.connections.specs.Calls.{IsAnswer}
use Rattle.serving.specs.Serving.{Stands}
use Rattle.serving.proofs.accepting.Acceptor.join_all.Given as goal

abbrev pub invariant-loop-left : goal.invariant-loop-left
invariant-loop-left g l = record {
  stands : Stands (IsAnswer g.E.Engine.plain g.K.Keeper.failures g.K.Keeper.steady) l.acceptor
      (g.D.Doors.shown l.doors);
  begun : l.acceptor.begun ≡ l.fn.self.begun;
  accepted : l.acceptor.accepted ≡ l.fn.self.accepted;
  end : l.acceptor.end ≡ l.fn.self.end;
  left : l.left ≡ length l.acceptor.threads;
  failures : g.D.Doors.failures l.doors ≡ g.D.Doors.failures l.initial.doors;
  steady : g.D.Doors.steady l.doors ≡ g.D.Doors.steady l.initial.doors;
}

abbrev pub decreases-loop-left : goal.decreases-loop-left
decreases-loop-left g l = l.left
