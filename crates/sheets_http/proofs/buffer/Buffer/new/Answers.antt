use Rattle.std.proofs.Common.{[], arith}
use Rattle.sheets_http.proofs.ScanLemmas.{ready_at_start}
use Rattle.sheets_http.proofs.buffer.Buffer.new.Goals as goal

pub invariant_of-result : goal.invariant_of-result
invariant_of-result c = (omega arith, omega arith, ready_at_start [])
