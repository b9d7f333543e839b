use Rattle.dimension_ops.proofs.Marked.{mark_there, more_marked}
use Rattle.dimension_ops.proofs.sheet.put_mark.Goals as goal

pub returns-in-Ok-clause-others : goal.returns-in-Ok-clause-others
returns-in-Ok-clause-others c = λ table marked.
    more_marked table c.args.marks.now.table c.put.new.self.table c.args.row c.args.column _ c.in-Ok.ensures.put marked

pub returns-in-Ok-clause-marked : goal.returns-in-Ok-clause-marked
returns-in-Ok-clause-marked c = λ _.
    mark_there c.args.marks.now.table c.put.new.self.table c.args.row c.args.column _ c.in-Ok.ensures.put
