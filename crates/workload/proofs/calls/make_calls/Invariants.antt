use Rattle.std.proofs.Common.{◌≡◌}
use Rattle.desk.specs.Points.{entries_of}
use Rattle.workload.specs.Work.{IsWork}
use Rattle.workload.proofs.calls.make_calls.Given as goal

-- the calls so far made the history
abbrev pub invariant-loop-number : goal.invariant-loop-number
invariant-loop-number g l = record {
  work : IsWork g.E.Engine.plain l.fn.state.pair.0 l.number (entries_of l.state.list);
  pair : l.state.pair ≡ l.fn.state.pair;
}
