use Rattle.std.proofs.Common.{◌≡◌, ◌-◌, ◌≤◌, length}
use Rattle.cell_value.specs.FaultCount.{StaysSteady}
use Rattle.sheets_http.specs.Requests.{room_of, stream_of, HoldsMessage}
use Rattle.sheets_http.proofs.next.next_request.Given as goal

-- the stream and the bound are those from the start, and the count of faults didn't fall; nothing was read where
-- what is held tells what comes next
abbrev pub invariant-loop-next : goal.invariant-loop-next
invariant-loop-next g l = record {
  stream : stream_of l.fn.buffer (g.L.Source.left l.fn.link) ≡ stream_of l.buffer (g.L.Source.left l.link);
  used : l.buffer.used ≡ l.fn.buffer.used;
  held : HoldsMessage l.most l.fn.buffer → (l.link ≡ l.fn.link) × (l.buffer ≡ l.fn.buffer);
  later : g.L.Source.faults l.fn.link ≤ g.L.Source.faults l.link;
  steady : StaysSteady (g.L.Source.steady l.fn.link) (g.L.Source.steady l.link)
      (g.L.Source.faults l.fn.link) (g.L.Source.faults l.link);
  beside : g.L.Source.beside l.link ≡ g.L.Source.beside l.fn.link;
}

abbrev pub decreases-loop-next : goal.decreases-loop-next
decreases-loop-next g l = room_of l.most l.buffer - length l.buffer.pending
