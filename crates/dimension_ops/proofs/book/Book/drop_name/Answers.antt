use Rattle.std.proofs.Common.{map}
use Rattle.std.specs.Arc.{arc_value}
use Rattle.dimension_ops.proofs.KeptRanges.{after_dropping}
use Rattle.dimension_ops.proofs.Marking.{kept_book}
use Rattle.dimension_ops.proofs.book.Book.drop_name.Goals as goal

pub invariant_of-self : goal.invariant_of-self
invariant_of-self c = (
  after_dropping (kept_book c.self.inside (map arc_value c.self.inside.sheets.items)) c.drop.new.self
      c.self.invariant.0 c.ranges_deleted.ensures c.args.id.now c.drop.result c.drop.ensures.left
      c.drop.ensures.unchanged,
  c.self.invariant.1,
)
