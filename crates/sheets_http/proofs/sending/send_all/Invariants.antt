use Rattle.std.proofs.Common.{◌≡◌, ◌-◌, ◌≤◌, ◌++◌, length, take}
use Rattle.std.specs.Option.{option_map}
use Rattle.cell_value.specs.FaultCount.{StaysSteady}
use Rattle.sheets_http.proofs.sending.send_all.Given as goal

-- so far the first bytes were written, and neither count fell
abbrev pub invariant-loop-sent : goal.invariant-loop-sent
invariant-loop-sent g l = record {
  within : l.sent ≤ length l.bytes;
  written : g.S.Sink.written l.sink ≡ option_map (λ before. before ++ take l.sent l.bytes) (g.S.Sink.written l.fn.sink);
  later : g.S.Sink.sink_faults l.fn.sink ≤ g.S.Sink.sink_faults l.sink;
  short_later : g.S.Sink.sink_shortages l.fn.sink ≤ g.S.Sink.sink_shortages l.sink;
  steady : StaysSteady (g.S.Sink.sink_steady l.fn.sink) (g.S.Sink.sink_steady l.sink)
      (g.S.Sink.sink_faults l.fn.sink) (g.S.Sink.sink_faults l.sink);
  beside : g.S.Sink.sink_beside l.sink ≡ g.S.Sink.sink_beside l.fn.sink;
}

abbrev pub decreases-loop-sent : goal.decreases-loop-sent
decreases-loop-sent g l = length l.bytes - l.sent
