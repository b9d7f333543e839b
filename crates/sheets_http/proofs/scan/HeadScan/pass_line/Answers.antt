use Rattle.std.proofs.Common.{arith, ◌-◌}
use Rattle.sheets_http.proofs.LineLemmas.{line_cut}
use Rattle.sheets_http.proofs.scan.HeadScan.pass_line.Goals as goal

pub returns-then-self-clause-scan : goal.returns-then-self-clause-scan
returns-then-self-clause-scan c =
    (line_cut c.args.self.now c.args.bytes.now (c.min-last.result - 1) c.line_length.result
    (record { scan_is = c.requires.scan; growing = c.requires.growing }) c.if-self.true
    (omega arith) (omega arith) (omega arith) c.line_length.ensures.within c.line_length.ensures.no_feed).scan_is

pub returns-then-self-clause-growing : goal.returns-then-self-clause-growing
returns-then-self-clause-growing c =
    (line_cut c.args.self.now c.args.bytes.now (c.min-last.result - 1) c.line_length.result
    (record { scan_is = c.requires.scan; growing = c.requires.growing }) c.if-self.true
    (omega arith) (omega arith) (omega arith) c.line_length.ensures.within c.line_length.ensures.no_feed).growing
