use Rattle.std.proofs.Common.{subst, sym}
use Rattle.sheets_http.specs.declared.scan.HeadScan.{HeadScan}
use Rattle.sheets_http.specs.Scanning.{IsScan}
use Rattle.sheets_http.proofs.HeadLemmas.{scan_after_is}
use Rattle.sheets_http.proofs.scan.HeadScan.step.Goals as goal

pub assess-requires : goal.assess-requires
assess-requires c =
    subst (λ (scan : HeadScan). IsScan scan c.args.bytes.now) (sym c.after.ensures)
    (scan_after_is c.args.self.now c.args.bytes.now c.requires.scan c.requires.growing c.requires.more)

pub returns-clause-scan : goal.returns-clause-scan
returns-clause-scan c =
    subst (λ (scan : HeadScan). IsScan scan c.args.bytes.now) (sym c.after.ensures)
    (scan_after_is c.args.self.now c.args.bytes.now c.requires.scan c.requires.growing c.requires.more)
