use Rattle.std.proofs.Common.{◌+◌, length, take, drop, arith, length-drop, ap}
use Rattle.std.proofs.lemmas.List.{length-take-le}
use Rattle.sheets_http.specs.Requests.{Buffered}
use Rattle.sheets_http.proofs.ScanLemmas.{ready_at_start}
use Rattle.sheets_http.proofs.buffer.Buffer.advance.Goals as goal

pub invariant_of-self : goal.invariant_of-self
invariant_of-self c = (
  omega (
    arith,
    ap (λ (h : Buffered). length h.pending) c.self.view_is,
    length-drop c.self.inside.start (take c.self.inside.end c.self.inside.bytes.items),
    length-take-le c.self.inside.end c.self.inside.bytes.items (omega (arith, c.self.invariant.1)),
  ),
  c.self.invariant.1,
  ready_at_start (drop (c.self.inside.start + c.args.count) (take c.self.inside.end c.self.inside.bytes.items)),
)
