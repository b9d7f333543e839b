use Rattle.std.proofs.Common.{◌≡◌, ◌-◌, ◌≤◌, length, take}
use Rattle.std.specs.Prelude.{Ok}
use Rattle.sheets_http.specs.declared.scanned.Scanned.TheVariants as scanned
use Rattle.cell_value.specs.FaultCount.{StaysSteady}
use Rattle.sheets_http.specs.Requests.{room_of, stream_of, HoldsMessage}
use Rattle.sheets_http.specs.Buffering.{IsScanned}
use Rattle.sheets_http.proofs.next.wait_for_body.Given as goal

-- the stream, the bound and the head that was read are those from the start; nothing was read where what is held
-- tells what comes next
abbrev pub invariant-body : goal.invariant-body
invariant-body g l = record {
  stream : stream_of l.fn.buffer (g.L.Source.left l.fn.link) ≡ stream_of l.buffer (g.L.Source.left l.link);
  used : l.buffer.used ≡ l.fn.buffer.used;
  head : IsScanned (take (room_of l.most l.fn.buffer) l.buffer.pending) (Ok (scanned.Head l.summary l.end));
  held : HoldsMessage l.most l.fn.buffer → (l.link ≡ l.fn.link) × (l.buffer ≡ l.fn.buffer);
  later : g.L.Source.faults l.fn.link ≤ g.L.Source.faults l.link;
  steady : StaysSteady (g.L.Source.steady l.fn.link) (g.L.Source.steady l.link)
      (g.L.Source.faults l.fn.link) (g.L.Source.faults l.link);
  beside : g.L.Source.beside l.link ≡ g.L.Source.beside l.fn.link;
}

abbrev pub decreases-body : goal.decreases-body
decreases-body g l = l.room - length l.buffer.pending
