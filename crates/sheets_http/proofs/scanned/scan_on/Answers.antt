use Rattle.std.proofs.Common.{◌-◌, List, ℕ, take, drop, subst, sym}
use Rattle.std.specs.Prelude.{Ok}
use Rattle.sheets_http.specs.declared.request.HeadFault.{HeadFault}
use Rattle.sheets_http.specs.declared.request.HeadFault.TheVariants.{HeadLong}
use Rattle.sheets_http.specs.declared.scan.HeadState.TheVariants.{Whole, TooLong}
use Rattle.sheets_http.specs.declared.scanned.Scanned.TheVariants as scanned
use Rattle.sheets_http.specs.Heads.{IsUnsettled}
use Rattle.sheets_http.specs.Framing.{BeginsWith, refused_message, too_long}
use Rattle.sheets_http.specs.Buffering.{IsScanned}
use Rattle.sheets_http.proofs.ScanLemmas.{near_is, whole_settles, too_long_settles, stands_in_front, unsettled_in_front, seen_is_head_text, seen_lines, seen_text, scanned_head, scanned_fault}
use Rattle.std.proofs.Common.{refl}
use Rattle.sheets_http.proofs.scanned.scan_on.Goals as goal

pub read_head-requires-clause-text : goal.read_head-requires-clause-text
read_head-requires-clause-text c = seen_is_head_text c.find.new.self c.args.bytes.now c.in-Whole.ensures.scan

pub read_head-requires-clause-lines : goal.read_head-requires-clause-lines
read_head-requires-clause-lines c = seen_lines c.find.new.self c.args.bytes.now c.in-Whole.ensures.scan

pub returns-in-Growing-clause-scanned : goal.returns-in-Growing-clause-scanned
returns-in-Growing-clause-scanned c =
    subst IsUnsettled (near_is c.args.bytes.now c.args.room c.min-end.result c.min-end.ensures)
    (unsettled_in_front c.find.new.self c.args.bytes.now c.min-end.result c.in-Growing.ensures.scan
    c.in-Growing.ensures.result (c.in-Growing.ensures.growing refl))

pub returns-in-TooLong-clause-scanned : goal.returns-in-TooLong-clause-scanned
returns-in-TooLong-clause-scanned c =
    subst (λ (t : List ℕ). BeginsWith t (refused_message HeadLong))
    (near_is c.args.bytes.now c.args.room c.min-end.result c.min-end.ensures)
    (too_long c.find.new.self.seen
    (stands_in_front c.find.new.self c.args.bytes.now c.min-end.result TooLong c.in-TooLong.ensures.scan
    (c.in-TooLong.ensures.settled too_long_settles) c.in-TooLong.ensures.result)
    refl)

pub returns-in-Ok-clause-scanned : goal.returns-in-Ok-clause-scanned
returns-in-Ok-clause-scanned c =
    let near = c.in-Whole.ensures.settled whole_settles in
    subst (λ (t : List ℕ). IsScanned t (Ok (scanned.Head c.in-Ok.summary c.find.new.self.seen)))
    (near_is c.args.bytes.now c.args.room c.min-end.result c.min-end.ensures)
    (scanned_head (take c.min-end.result c.args.bytes.now)
    (take (c.find.new.self.seen - c.find.new.self.skipped) (drop c.find.new.self.skipped c.args.bytes.now))
    c.find.new.self.seen c.in-Ok.summary
    (seen_text c.find.new.self c.args.bytes.now c.min-end.result c.in-Whole.ensures.scan near)
    (stands_in_front c.find.new.self c.args.bytes.now c.min-end.result Whole c.in-Whole.ensures.scan near
    c.in-Whole.ensures.result)
    c.in-Ok.ensures)

pub returns-in-Err-Fault-clause-scanned : goal.returns-in-Err-Fault-clause-scanned
returns-in-Err-Fault-clause-scanned c =
    let near = c.in-Whole.ensures.settled whole_settles in
    let reads = rw c.in-Err-Fault.field-0-is at c.in-Err-Fault.ensures in
    subst (λ (f : HeadFault). BeginsWith (take c.args.room c.args.bytes.now) (refused_message f))
    (sym c.in-Err-Fault.fault-is)
    (subst (λ (t : List ℕ). BeginsWith t (refused_message c.in-Err-Fault.fault))
    (near_is c.args.bytes.now c.args.room c.min-end.result c.min-end.ensures)
    (scanned_fault (take c.min-end.result c.args.bytes.now)
    (take (c.find.new.self.seen - c.find.new.self.skipped) (drop c.find.new.self.skipped c.args.bytes.now))
    c.find.new.self.seen c.in-Err-Fault.fault
    (seen_text c.find.new.self c.args.bytes.now c.min-end.result c.in-Whole.ensures.scan near)
    (stands_in_front c.find.new.self c.args.bytes.now c.min-end.result Whole c.in-Whole.ensures.scan near
    c.in-Whole.ensures.result)
    reads))
