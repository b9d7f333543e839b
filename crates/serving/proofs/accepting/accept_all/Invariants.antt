use Rattle.std.proofs.Common.{◌≡◌, ◌≤◌, ◌-◌}
use Rattle.cell_value.specs.FaultCount.{StaysSteady}
use Rattle.connections.specs.Calls.{IsAnswer}
use Rattle.serving.specs.declared.accepting.Served.TheVariants as served
use Rattle.serving.specs.Serving.{Stands}
use Rattle.serving.proofs.accepting.accept_all.Given as goal

abbrev pub invariant-loop-number : goal.invariant-loop-number
invariant-loop-number g l = record {
  stands : Stands (IsAnswer g.E.Engine.plain g.K.Keeper.failures g.K.Keeper.steady) l.acceptor
      (g.D.Doors.shown l.doors);
  begun : l.acceptor.begun ≡ l.fn.acceptor.begun;
  accepted : l.acceptor.accepted ≡ l.number;
  end : l.acceptor.end ≡ served.All;
  within : l.number ≤ l.limit;
  later : g.D.Doors.failures l.initial.doors ≤ g.D.Doors.failures l.doors;
  stays : StaysSteady (g.D.Doors.steady l.initial.doors) (g.D.Doors.steady l.doors) (g.D.Doors.failures l.initial.doors)
      (g.D.Doors.failures l.doors);
}

abbrev pub decreases-loop-number : goal.decreases-loop-number
decreases-loop-number g l = l.limit - l.number
