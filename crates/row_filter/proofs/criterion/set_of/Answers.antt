use Rattle.std.proofs.Common.{sym}
use Rattle.row_filter.proofs.Criteria.{IsSetOf-insert}
use Rattle.row_filter.proofs.criterion.set_of.Goals as goal

pub loop-text-preserved : goal.loop-text-preserved
loop-text-preserved c =
    IsSetOf-insert c.args.texts.now c.loop-text.text-index c.text-item.result c.loop-text.set c.insert.new.self
    c.as_str.result c.loop-text-test.true (sym c.text-item.is) c.as_str.ensures c.in_ok-insert.ensures.updates.0
    c.loop-text.invariant
