use Rattle.std.specs.Arc.{arc_value}
use Rattle.dimension_ops.proofs.Sharing.{seen_same}
use Rattle.dimension_ops.proofs.book.share.Goals as goal

pub returns-clause-same : goal.returns-clause-same
returns-clause-same c = seen_same arc_value c.args.sheets.now.items c.in_ok-copy.copy.items c.in_ok-copy.ensures.cases.0
