use Rattle.std.specs.Arc.{arc_value}
use Rattle.dimension_ops.proofs.Sharing.{seen_same}
use Rattle.dimension_ops.proofs.world.share.Goals as goal

pub returns : goal.returns
returns c = seen_same arc_value c.args.books.now.items c.in_ok-copy.copy.items c.in_ok-copy.ensures.cases.0
