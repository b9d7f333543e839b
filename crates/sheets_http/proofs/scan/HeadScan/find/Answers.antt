use Rattle.sheets_http.proofs.LineLemmas.{ready_is_short}
use Rattle.sheets_http.proofs.scan.HeadScan.find.Goals as goal

pub pass_line-requires-clause-short : goal.pass_line-requires-clause-short
pass_line-requires-clause-short c =
    ready_is_short c.loop-self.self c.args.bytes.now
    (record { scan_is = c.loop-self.invariant.0; growing = c.loop-self.invariant.1 })
