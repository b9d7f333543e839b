use Rattle.std.proofs.Common.{◌-◌, ◌≡◌, take}
use Rattle.sheets_http.specs.declared.scan.HeadState.TheVariants.{Growing}
use Rattle.sheets_http.specs.Heads.{head_state}
use Rattle.sheets_http.specs.Scanning.{IsScan}
use Rattle.sheets_http.proofs.scan.HeadScan.find.Given as goal

abbrev pub invariant-loop-self : goal.invariant-loop-self
invariant-loop-self l = IsScan l.self l.bytes × (head_state (take l.self.seen l.bytes) ≡ Growing)

abbrev pub decreases-loop-self : goal.decreases-loop-self
decreases-loop-self l = l.end - l.self.seen
