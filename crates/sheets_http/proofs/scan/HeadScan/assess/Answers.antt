use Rattle.sheets_http.proofs.HeadLemmas.{looked_whole, looked_too_long, looked_growing}
use Rattle.sheets_http.proofs.scan.HeadScan.assess.Goals as goal

pub returns-then-ends_with_empty_line : goal.returns-then-ends_with_empty_line
returns-then-ends_with_empty_line c =
    looked_whole c.args.self.now c.args.bytes.now c.requires
    c.ends_with_empty_line.result c.ends_with_empty_line.ensures c.if-ends_with_empty_line.true

pub returns-then-is_too_long : goal.returns-then-is_too_long
returns-then-is_too_long c =
    looked_too_long c.args.self.now c.args.bytes.now c.requires
    c.ends_with_empty_line.result c.is_too_long.result c.ends_with_empty_line.ensures
    c.if-ends_with_empty_line.false c.is_too_long.ensures c.if-is_too_long.true

pub returns-else-is_too_long : goal.returns-else-is_too_long
returns-else-is_too_long c =
    looked_growing c.args.self.now c.args.bytes.now c.requires
    c.ends_with_empty_line.result c.is_too_long.result c.ends_with_empty_line.ensures
    c.if-ends_with_empty_line.false c.is_too_long.ensures c.if-is_too_long.false
